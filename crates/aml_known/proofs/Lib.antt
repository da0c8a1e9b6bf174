pub mod Ends
pub mod Entered
pub mod Numbered
pub mod OneByOne
pub mod Takings
