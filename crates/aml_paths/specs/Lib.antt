pub mod Paths
pub mod Chains
pub mod Trie
pub mod Marks
pub mod Steps
pub mod Resolve
pub mod Printed
pub mod Scopes
