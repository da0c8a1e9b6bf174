pub mod Belongs
pub mod BodyData
pub mod Contents
pub mod ContentViews
pub mod DataKinds
pub mod FirstContents
pub mod FirstKinds
pub mod Held
