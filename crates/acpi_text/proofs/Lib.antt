mod EventLemmas
pub mod Listing
pub mod NameLemmas
pub mod ValueLemmas
