pub mod NameTexts
