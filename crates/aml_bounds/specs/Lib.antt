pub mod Shapes
pub mod Loops
pub mod Steps
