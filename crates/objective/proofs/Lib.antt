pub mod Laws
pub mod Rows
pub mod Values
pub mod Waits
pub mod Dominance
