pub mod Extents
pub mod DeadIfs
pub mod Steps
pub mod Lengths
pub mod Opened
pub mod Table
pub mod Reached
pub mod Laws
