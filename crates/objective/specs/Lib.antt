pub mod Score
pub mod Soft
pub mod Pareto
pub mod Steps
