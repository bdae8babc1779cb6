pub mod Conditions
pub mod Filling
pub mod Recorded
