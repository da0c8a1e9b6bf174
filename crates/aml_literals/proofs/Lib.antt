pub mod Elements
pub mod Literals
pub mod Parts
pub mod Terms
