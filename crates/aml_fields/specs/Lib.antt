pub mod Gathered
pub mod Laws
pub mod Limits
pub mod Told
