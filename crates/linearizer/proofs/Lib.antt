-- How the argument goes, from a history without violations to its linearization: Elements: facts about lists:
-- elements at places, repetition, lists that grow. Times: the tickets of lives, which all differ. ValueOrder: the
-- least entry or the first return chooses the next value, so there is one order of values. Choosing: two sorted lists
-- and flags make that choice again and again, and each value fits into its windows. Positions: each enqueue and
-- dequeue has a gap in its window, gaps rise along the order, and each operation has one position. Runs, OneOrder: in
-- the order of their positions the operations are a run that the queue accepts, the one chosen order. Merging: the
-- merged lists of placed operations are that order. Told: the merged list is the chosen order of the history.
mod Common
pub mod Runs
pub mod Times
pub mod Merging
pub mod ValueOrder
pub mod Positions
pub mod Elements
pub mod OneOrder
pub mod Told
pub mod Choosing
