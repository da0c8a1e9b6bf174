pub mod Faults
pub mod Devices
pub mod Crs
pub mod Links
pub mod Prt
pub mod Notes
