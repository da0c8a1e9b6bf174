pub mod OwnNames
pub mod OwnNamesSeen
pub mod Laws
