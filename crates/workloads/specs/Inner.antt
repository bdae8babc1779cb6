-- Relations that only contracts of private functions name.
pub mod Seeds
pub mod Texts
