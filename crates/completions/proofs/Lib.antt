-- How the argument goes, from numbers to histories: Counting: different places below a bound are no more than the
-- bound. Deciding: the three counting arguments; a violation of the returned completion is one of every completion.
-- Followed: the operations of a completion, and their precedence. Completing: the events that are kept, and the
-- returns after them. Whole: the returned completion is a complete history. Answering: the answers to pending calls,
-- each to a call of its own and with a value of its own. Decides: the returned completion decides. Walks: walks over
-- the events, with the last event of each thread. Sound: events without a fault are a complete history. Within: a
-- completion within the limits decides.
pub mod Counting
pub mod Deciding
pub mod Followed
pub mod Completing
pub mod Whole
pub mod Answering
pub mod Decides
pub mod Walks
pub mod Sound
pub mod Within
