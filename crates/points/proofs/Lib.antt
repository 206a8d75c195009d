pub mod Here
pub mod Below
pub mod Steps
pub mod There
