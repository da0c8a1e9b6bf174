pub mod Data
pub mod Fields
pub mod Methods
pub mod Past
pub mod Quiet
pub mod Slots
pub mod Tells
