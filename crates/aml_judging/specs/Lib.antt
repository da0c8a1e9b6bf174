pub mod Views
pub mod Follows
pub mod Turns
