pub mod Kind
pub mod Form
pub mod Frame
pub mod Place
pub mod Fits
