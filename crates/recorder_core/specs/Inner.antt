-- Relations that only contracts of private functions name.
pub mod After
pub mod Asked
pub mod Seen
