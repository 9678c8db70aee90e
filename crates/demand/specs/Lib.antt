pub mod Calls
pub mod Demand
pub mod Fair
pub mod Older
pub mod Runs
