pub mod Shown
pub mod Answers
pub mod Listing
pub mod Calls
