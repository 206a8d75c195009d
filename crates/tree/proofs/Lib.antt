pub mod Arrivals
pub mod Leaves
pub mod Walks
pub mod Edges
