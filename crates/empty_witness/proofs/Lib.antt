-- How the argument goes, from the stays of values to gaps and covers: ValueSpans: the stays, joined where they touch,
-- hold exactly the gaps that values cover. FreeGaps: the least gap of a window outside of the spans is its least free
-- gap; without one the window is covered. Covers: taking the longest-staying value again and again along a covered
-- window gives the chosen cover, the shortest. Answers: facts about all empty dequeues, which come after the initial
-- values, and about the first covered one.
mod Common
pub mod ValueSpans
pub mod FreeGaps
pub mod Covers
pub mod Answers
