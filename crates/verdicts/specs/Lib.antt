pub mod Verdicts
pub mod Laws
pub mod Selection
pub mod Decided
pub mod Inner
