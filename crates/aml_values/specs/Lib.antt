pub mod Falls
pub mod SameValues
pub mod StoredValues
pub mod Values
pub mod Views
