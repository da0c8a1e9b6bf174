pub mod Arguments
pub mod CommandLine
pub mod Words
pub mod FirstLine
pub mod Folders
pub mod LineNotes
