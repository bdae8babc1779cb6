-- How the argument goes: Chosen: a value overtakes another if and only if they are an order violation. The first that
-- overtakes, among two lists of candidates and with one more, together with the longest-staying value that it
-- overtakes, is the chosen pair.
mod Common
pub mod Chosen
