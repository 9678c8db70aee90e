pub mod Roster
pub mod Rows
pub mod Ascending
pub mod Steps
