-- Relations that only contracts of private functions name.
pub mod Pending
pub mod Taking
pub mod Verdicts
