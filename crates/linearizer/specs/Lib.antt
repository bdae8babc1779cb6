pub mod Values
pub mod Order
pub mod Ordering
pub mod Inner
