pub mod Arguments
pub mod Mutexes
pub mod Views
pub mod Elements
pub mod Growth
