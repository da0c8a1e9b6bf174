pub mod Judgings
pub mod Gathered
pub mod Laws
pub mod HandedOn
