pub mod Told
pub mod Counted
pub mod Answered
pub mod Counts
