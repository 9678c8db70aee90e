pub mod Softs
pub mod Choices
pub mod BestChoice
pub mod HallRounds
pub mod Runs
pub mod OldCounter
