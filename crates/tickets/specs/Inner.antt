-- Relations that only contracts of private functions name.
pub mod Account
pub mod Ring
pub mod Shared
