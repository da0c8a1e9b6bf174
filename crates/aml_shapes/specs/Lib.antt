pub mod Keys
pub mod Laws
pub mod Literals
pub mod Numbers
pub mod PartsKnown
pub mod Tables
