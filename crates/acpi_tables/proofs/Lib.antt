pub mod Options
pub mod Structures
pub mod Tiling
pub mod XsdtAddresses
