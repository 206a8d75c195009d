pub mod Children
pub mod OneCell
pub mod Standing
pub mod Links
pub mod Steps
pub mod Lowest
pub mod Sounds
