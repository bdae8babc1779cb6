-- How the argument goes, from the events of one thread to complete histories and their operations: Turns: calls and
-- returns of one thread, event by event, and its pending call. TheirEvents: the operations determine the events.
-- Distinct: the values that a run enqueued and dequeued, and at which places; properties of the operations of a
-- complete history, and what distinguishes them and their values. Lists: elements of lists, and properties of all of
-- them. PlaceLists: operations at places of a list. KnownValues: values that rise, and the values known so far.
-- Formed: the state of the builder after each event. Faults: a list of events is a complete history if and only if it
-- has no fault; there is at most one first fault, and the events or values that contradict each other explain it.
-- Timelines: a history whose initial values are enqueued before all else is complete, and has the same
-- linearizations.
mod Common
pub mod TheirEvents
pub mod Formed
pub mod Distinct
pub mod Lists
pub mod Turns
pub mod Faults
pub mod Timelines
pub mod PlaceLists
pub mod KnownValues
