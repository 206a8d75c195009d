pub mod Point
pub mod There
