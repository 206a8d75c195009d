pub mod Bodies
pub mod Writes
pub mod Inserts
pub mod Deletes
pub mod Calls
