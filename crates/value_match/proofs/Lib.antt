-- How the argument goes, from operations to matched values: Lists: elements of lists, and lists made of lists.
-- CallPlaces, FreshDequeues: each dequeue's source, or the chosen phantom dequeue. RepeatedDequeues: the one dequeue
-- of each call and of each enqueued value, or the chosen pair of one call. Lives: the lives of a course, each once.
-- Agreeing: courses in which the same happens have the same lives and violations. ToldPlaces: places in a timeline as
-- places in the history. SortedOut: the operations by kind, as values, empty dequeues and failed enqueues. Fronts:
-- the value that stays longest among those whose enqueues returned before a ticket.
mod Common
pub mod Lists
pub mod Lives
pub mod Agreeing
pub mod CallPlaces
pub mod FreshDequeues
pub mod RepeatedDequeues
pub mod ByKind
pub mod Fronts
pub mod HistoryPlaces
