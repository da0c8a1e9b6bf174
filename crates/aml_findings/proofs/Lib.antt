pub mod Unmet
pub mod Ends
pub mod Wide
pub mod Lacking
pub mod Reasons
