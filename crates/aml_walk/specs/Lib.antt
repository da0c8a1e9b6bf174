pub mod Begins
pub mod Reached
