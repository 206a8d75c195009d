pub mod Slots
pub mod Owns
pub mod Rows
pub mod RowRules
