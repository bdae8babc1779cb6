pub mod Pending
pub mod Completed
pub mod Faults
pub mod Inner
