pub mod At
pub mod Leaf
pub mod Above
