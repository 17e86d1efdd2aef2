pub mod Text
pub mod Codec
