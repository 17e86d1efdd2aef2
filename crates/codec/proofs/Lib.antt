pub mod Hex
pub mod Digits
pub mod Lines
pub mod TextLaw
