pub mod Lowest
pub mod LeafEnds
pub mod Starts
pub mod Examples
