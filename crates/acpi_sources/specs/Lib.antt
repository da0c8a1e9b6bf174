pub mod Faults
pub mod Reading
pub mod Files
pub mod Input
pub mod Inputs
pub mod Status
