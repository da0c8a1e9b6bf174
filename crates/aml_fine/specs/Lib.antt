pub mod Fine
pub mod Laws
