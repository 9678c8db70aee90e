pub mod Beam
pub mod OldCounter
pub mod Levels
pub mod Expanding
