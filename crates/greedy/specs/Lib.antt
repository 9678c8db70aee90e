pub mod Greedy
pub mod LongerWait
pub mod Copies
pub mod OldCounter
pub mod Steps
