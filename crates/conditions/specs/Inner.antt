-- Relations that only contracts of private functions name.
pub mod Moved
pub mod Parts
pub mod Producers
pub mod Sharing
pub mod Judging
