pub mod Accepts
pub mod Said
pub mod Bodies
pub mod Keeping
pub mod Verdicts
