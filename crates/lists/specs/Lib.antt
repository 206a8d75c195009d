pub mod Scan
pub mod Compare
pub mod Part
pub mod Edit
