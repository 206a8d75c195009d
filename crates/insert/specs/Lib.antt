pub mod Answer
pub mod Plan
pub mod Apply
pub mod Insert
pub mod Room
pub mod Meets
pub mod Grown
