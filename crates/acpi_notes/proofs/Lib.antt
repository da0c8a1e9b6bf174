pub mod Labels
pub mod Segments
