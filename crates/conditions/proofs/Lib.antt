-- How the argument goes: Showing: lines that show a violation in a selection show it in the whole. Weaker: so the
-- selections of a linearizable history are linearizable. Parts: the events of a selection. Twice: a list filtered
-- twice. Producing: the producers of values, and the operations of a producer's selection. SharedOut: the places of
-- operations by producer. Minimal: which conditions are weaker than others, and minimal histories for them. Judged:
-- the selections of producers are judged one after another. ClaimLaws: the claims of verdicts under weaker
-- conditions. InTurn: the selections of producers are compared with a claim one after another. Places: a verdict on a
-- selection, by the places of the whole.
pub mod Showing
pub mod Weaker
pub mod Parts
pub mod Twice
pub mod Producing
pub mod SharedOut
pub mod Minimal
pub mod Judged
pub mod Places
pub mod ClaimLaws
pub mod InTurn
