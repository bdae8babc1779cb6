-- How the argument goes. Structs: structs that are events, one more at a time. Telling: from an outcome, or out of
-- memory for its text, to one of the right answers.
mod Common
pub mod Telling
pub mod Structs
