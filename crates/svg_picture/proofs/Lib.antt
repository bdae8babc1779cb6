mod Common
pub mod Chains
pub mod Each
pub mod Apart
pub mod Documents
