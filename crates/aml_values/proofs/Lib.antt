pub mod Depths
pub mod Elements
pub mod Lengths
pub mod Same
pub mod SameValues
