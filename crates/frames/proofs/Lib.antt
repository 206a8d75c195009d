pub mod KindTable
pub mod KindFor
pub mod FormTable
pub mod Frames
pub mod Places
