pub mod Bounds
pub mod FarApart
pub mod Laws
pub mod Rows
