pub mod Sounds
pub mod Conditions
pub mod Edits
pub mod Numbers
mod Capacity
mod Rows
mod Ways
mod Demands
mod Stations
mod Histories
mod Uses
mod Cheats
mod Reading
mod Whole
mod States
mod Points
mod Insert
mod Delete
mod View
mod Lists
mod Prefix
mod Frames
mod Art
mod Agree
mod Takes
