pub mod Choices
pub mod Exhaustive
pub mod Walks
pub mod Nearest
pub mod Steps
