pub mod Showing
pub mod Claims
pub mod Shown
pub mod Claiming
pub mod Inner
