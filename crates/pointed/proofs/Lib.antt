mod Agrees
mod Lowest
mod Runs
mod Ways
pub mod Points
pub mod Heights
pub mod Sounds
pub mod Aparts
pub mod Ups
pub mod Inners
pub mod Neighbours
