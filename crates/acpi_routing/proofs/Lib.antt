pub mod Numbered
pub mod Kept
pub mod Asked
pub mod Giving
