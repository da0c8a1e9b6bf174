pub mod JoinLaws
pub mod SameKinds
pub mod ShapeLengths
pub mod Shapes
pub mod Widens
pub mod Within
