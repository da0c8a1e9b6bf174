pub mod Alike
pub mod Greatest
