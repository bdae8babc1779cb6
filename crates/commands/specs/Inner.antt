-- Relations that only contracts of private functions name.
pub mod Inputs
pub mod Running
