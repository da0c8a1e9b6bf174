pub mod Elsewhere
pub mod Statements
pub mod Slept
pub mod Stored
