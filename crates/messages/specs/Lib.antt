pub mod Fronts
pub mod Messages
pub mod Quoting
