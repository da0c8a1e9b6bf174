pub mod Roughly
pub mod Loops
pub mod Outcomes
pub mod Forms
pub mod Statements
pub mod Methods
pub mod Turns
pub mod Branches
pub mod Written
pub mod Grown
mod QuietTerms
mod Stores
