-- How the argument goes, from violations to verdicts, claims and shrunk histories: Exactly: a violation rules out
-- each order, and without one there is a linearization. Chosen, OneVerdict: the chosen violation or order of a
-- history decides, and only one is chosen. ClaimedLines: when the lines of a claim are evidence. Collected,
-- NamedLines, NamedPlaces, ShownLines, TrueClaims: the claim of a verdict, that it is true, and that its lines are
-- few. Selections, CoverGaps: facts carried from operations to others, selected ones with their events, and gaps that
-- a cover leaves open. Retiming: a selection is on a timeline at other times, with the same violations; nothing can
-- be left out of it by their lines. ShrunkHistories: so the small history is minimal, has the violation, and is the
-- only one. Rows: small histories, computed.
mod Common
pub mod Rows
pub mod Exactly
pub mod Chosen
pub mod ClaimedLines
pub mod CoverGaps
pub mod Collected
pub mod NamedLines
pub mod Retiming
pub mod Selections
pub mod OneVerdict
pub mod TrueClaims
pub mod NamedPlaces
pub mod ShownLines
pub mod ShrunkHistories
