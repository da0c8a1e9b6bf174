pub mod Known
pub mod Reaching
