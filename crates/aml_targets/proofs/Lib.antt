pub mod Added
pub mod Written
