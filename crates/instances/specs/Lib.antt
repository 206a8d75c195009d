pub mod Opened
pub mod Blocks
pub mod Lines
pub mod Slots
