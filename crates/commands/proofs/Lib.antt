-- The way of the argument, from an input to what is printed:
-- Inputs: what an input is, or its fault. An input says one thing, or has one first fault.
-- Completions: what `complete` answers, and what `check` answers of that.
-- Conditions: a history has one verdict under a condition, and its claim is evidence.
-- OneAnswer: from what was read, played, searched, run or wrong in the words to the answer. What is written, read again, is a claim
-- that is true. Out of memory aside an input has one answer. So a text and its conversion are answered alike, `check` finds the
-- verdict that `shrink` wrote. An honest schedule that is done is answered by `YES`.
-- Shrinking: what is shown of a part of a history is minimal for its condition.
-- OfOperations: at most one history has the operations of a `YES`.
-- Drawings: an input is drawn in one way, and a history on its own as if its verdict followed it.
-- Planned: a proved queue runs only plans that it can run.
mod Common
pub mod Inputs
pub mod Conditions
pub mod OneAnswer
pub mod Shrinking
pub mod Completions
pub mod OfOperations
pub mod Drawings
pub mod Planned
