-- Relations that only contracts of private functions name.
pub mod Clashes
pub mod Forming
pub mod History
pub mod Packed
pub mod Timeline
