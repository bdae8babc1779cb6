-- Relations that only contracts of private functions name.
pub mod Merging
pub mod Placement
pub mod Sweep
pub mod Swept
