pub mod Heights
pub mod Search
pub mod Components
