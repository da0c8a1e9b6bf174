pub mod Views
pub mod Finds
pub mod Faults
pub mod Lacks
