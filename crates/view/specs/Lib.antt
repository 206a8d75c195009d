pub mod Cells
pub mod Links
pub mod Pools
pub mod Empty
pub mod Seen
