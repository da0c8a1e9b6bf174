pub mod Forms
pub mod Lies
