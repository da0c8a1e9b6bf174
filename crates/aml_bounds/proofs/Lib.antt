pub mod OneByOne
pub mod Held
