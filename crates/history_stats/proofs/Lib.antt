-- AtOnce: counts of sorted tickets, the sweep over arrivals and departures, and pending operations and values that
-- stay. Threads: threads that have an event. Overlaps: the earlier and later operations that an operation overlaps.
-- OneStatistics: two statistics of one history are equal.
pub mod AtOnce
pub mod Threads
pub mod Overlaps
pub mod Blocks
pub mod OneStatistics
pub mod Staying
pub mod Taken
pub mod Tallied
pub mod Overtaken
pub mod FailedEnqueues
