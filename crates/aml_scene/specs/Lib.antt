pub mod Tells
pub mod Outcomes
pub mod Stores
pub mod Standing
pub mod Letters
