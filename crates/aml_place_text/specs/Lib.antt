pub mod Operators
pub mod Place
