pub mod Refusals
pub mod Store
pub mod Tables
pub mod Search
pub mod Entries
pub mod Starts
pub mod Layout
pub mod Linked
