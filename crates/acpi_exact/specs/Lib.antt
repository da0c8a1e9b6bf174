pub mod Evals
pub mod Givens
