-- How the argument goes: Halves: the results for two parts of a list give the result for the list. InPlace: a list
-- sorted in threads, or found sorted, rises and has the same elements.
mod Common
pub mod InPlace
pub mod Halves
