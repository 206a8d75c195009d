pub mod Counts
pub mod Rooms
pub mod Numbers
pub mod Edits
pub mod Steps
pub mod Histories
