pub mod Calls
pub mod Chains
pub mod Pairs
pub mod Search
pub mod Spread
