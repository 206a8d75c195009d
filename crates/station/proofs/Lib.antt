pub mod Lines
pub mod Rooms
pub mod Files
pub mod Cuts
pub mod Sorted
mod Samples
