pub mod OwnFirsts
pub mod OwnsRead
pub mod Standing
