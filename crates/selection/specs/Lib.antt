pub mod Selection
pub mod Steps
