pub mod Friends
pub mod Full
pub mod Reading
pub mod Steps
pub mod Sums
pub mod Tallies
pub mod WaitingFriends
