pub mod Digits
pub mod Filled
pub mod Lines
pub mod Named
pub mod Told
