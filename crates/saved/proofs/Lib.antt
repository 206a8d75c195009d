pub mod Blocks
pub mod Saves
