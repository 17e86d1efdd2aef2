pub mod Histories
pub mod Reports
pub mod Texts
pub mod Workspaces
