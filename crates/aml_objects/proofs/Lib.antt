pub mod Kept
pub mod Entering
pub mod FirstNames
