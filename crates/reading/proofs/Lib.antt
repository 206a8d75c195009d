pub mod Entries
pub mod Arrivals
pub mod Kids
pub mod Walks
pub mod Edges
pub mod Nexts
pub mod Stations
pub mod Frees
pub mod Answers
pub mod Calls
mod Rows
