pub mod Narrow
pub mod Alike
pub mod Alone
pub mod Order
