pub mod Lives
pub mod Violations
pub mod Choice
pub mod Outcome
pub mod Fronts
pub mod Times
pub mod Inner
