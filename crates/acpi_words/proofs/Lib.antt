pub mod Elements
pub mod Asked
pub mod LineWords
pub mod FoldersNamed
