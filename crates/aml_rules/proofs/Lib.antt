pub mod Bytewise
pub mod Numbered
pub mod Spelled
pub mod Shifts
