pub mod Reading
pub mod Lent
