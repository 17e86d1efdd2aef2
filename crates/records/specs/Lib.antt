pub mod Faults
pub mod Records
pub mod Answers
pub mod Sheets
pub mod Stores
pub mod Walks
