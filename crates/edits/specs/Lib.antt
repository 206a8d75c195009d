pub mod Change
pub mod Head
pub mod Body
pub mod Rows
pub mod Record
pub mod Inner
