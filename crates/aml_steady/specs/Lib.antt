pub mod Steady
pub mod Unwatched
