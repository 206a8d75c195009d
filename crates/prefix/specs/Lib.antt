pub mod Run
pub mod Match
