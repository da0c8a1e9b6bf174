pub mod Judgings
pub mod ByNumber
pub mod Calls
pub mod JudgingsThere
pub mod HandedOn
pub mod Places
pub mod Keeping
