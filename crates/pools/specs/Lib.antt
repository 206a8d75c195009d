pub mod Pool
pub mod Leaf
pub mod Link
pub mod Start
