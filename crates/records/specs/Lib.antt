pub mod Words
pub mod Own
pub mod Row
pub mod View
