pub mod Plans
pub mod Roles
pub mod Seeds
pub mod Texts
pub mod Inner
