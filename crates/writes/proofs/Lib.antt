pub mod Spots
pub mod Branches
pub mod Kept
