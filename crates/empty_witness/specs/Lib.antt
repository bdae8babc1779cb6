pub mod Spans
pub mod Answers
pub mod Inner
