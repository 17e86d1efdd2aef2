pub mod States
pub mod Sheets
