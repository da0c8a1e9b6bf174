pub mod Bodies
pub mod Ends
pub mod Unwatched
pub mod Taken
pub mod Accepted
pub mod Ready
pub mod Answered
pub mod FromTables
