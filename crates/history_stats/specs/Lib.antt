pub mod Counts
pub mod AtOnce
pub mod Overtaking
pub mod FailedEnqueues
pub mod Statistics
pub mod Text
pub mod Inner
