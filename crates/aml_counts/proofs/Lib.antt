pub mod NamesThere
pub mod OneCount
