pub mod Games
pub mod Hall
pub mod Rounds
pub mod Steps
