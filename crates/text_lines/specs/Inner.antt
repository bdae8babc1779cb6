-- Relations that only contracts of private functions name.
pub mod Lines
pub mod Digits
