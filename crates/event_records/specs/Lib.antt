pub mod Turns
pub mod Projection
pub mod Question
