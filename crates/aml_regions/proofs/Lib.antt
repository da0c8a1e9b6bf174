pub mod EventViews
mod Lines
mod Parts
mod Places
mod Written
