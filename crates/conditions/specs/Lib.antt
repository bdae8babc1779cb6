pub mod Conditions
pub mod Decided
pub mod Claims
pub mod Laws
pub mod ClaimLaws
pub mod Inner
