pub mod Ahead
pub mod Interrupts
pub mod Linked
pub mod Parts
pub mod Routed
pub mod Spelled
