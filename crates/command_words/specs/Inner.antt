-- Relations that only contracts of private functions name.
pub mod Commands
pub mod Options
pub mod Built
