pub mod Answer
pub mod Plan
pub mod Apply
pub mod Delete
pub mod Meets
pub mod Without
