pub mod Numbers
pub mod Queues
pub mod Scores
pub mod Rules
pub mod Selections
pub mod Searches
pub mod FullRounds
pub mod Halls
