-- Relations that only contracts of private functions name.
pub mod Crew
pub mod Proved
pub mod Refusals
pub mod Workers
