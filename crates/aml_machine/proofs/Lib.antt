pub mod Filling
pub mod Firsts
pub mod Grown
pub mod InPlace
pub mod Made
pub mod Rising
