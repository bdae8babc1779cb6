-- The way of the argument, from one operation to the lists of a run:
-- Once: one operation of a worker. Composed: the operations that it made first and next, as one list.
-- Zipped, Places, Made, Given: a crew with one more worker, each at its place and with its ends.
-- Alone: the rows with an operation of a kind.
-- Finished, Own, Closed, Order: workers after their rows, tokens at their places, closed rings, the least fault.
-- Recording: the lists of a run are recorded lists, which replay.
-- Accepting, Noting, Told, Ended: the notes of a proved queue are a log that it accepts, so its run is linearizable.
mod Told
mod Noting
mod Accepting
mod Ended
mod Composed
mod Once
mod Zipped
mod Places
mod Made
mod Given
mod Alone
mod Closed
mod Finished
mod Order
mod Own
mod Recording
pub mod Preloads
