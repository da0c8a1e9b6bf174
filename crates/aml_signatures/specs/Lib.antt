pub mod ArgumentKinds
pub mod Causes
pub mod Signed
pub mod Text
