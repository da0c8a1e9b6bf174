pub mod Answers
pub mod Headline
pub mod FromTables
pub mod Turns
pub mod Sleeping
