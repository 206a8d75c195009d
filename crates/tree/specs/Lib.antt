pub mod Answer
pub mod Arrive
pub mod Seen
pub mod Walk
pub mod Edge
