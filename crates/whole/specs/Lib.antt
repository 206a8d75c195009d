pub mod Arrive
pub mod Marks
pub mod Witness
pub mod Visit
pub mod Sweep
pub mod Check
pub mod Sound
