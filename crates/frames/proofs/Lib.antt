pub mod Readings
pub mod Verdicts
