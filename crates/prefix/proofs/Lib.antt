pub mod Eights
pub mod Runs
pub mod Matches
