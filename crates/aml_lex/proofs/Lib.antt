pub mod SegmentLemmas
pub mod Places
pub mod Laws
pub mod Readers
pub mod Spelled
pub mod SpelledNames
pub mod ExactLaws
pub mod Fronts
