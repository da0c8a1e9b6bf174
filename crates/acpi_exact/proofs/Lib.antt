pub mod Listed
pub mod Evals
pub mod Givens
