pub mod State
pub mod Lowest
