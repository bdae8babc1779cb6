-- Relations that only contracts of private functions name.
pub mod AtOnce
pub mod Tally
pub mod Overtaking
pub mod FailedEnqueues
