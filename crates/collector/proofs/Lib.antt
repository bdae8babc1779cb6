-- How the argument goes: a round drains ring after ring, and a seal closes them after the last round. Draining: the
-- progress of a round, one ring more. Rings: the rings of a round and a seal, by their threads. Sealing: the progress
-- of the seal; at its end each list is the whole list that its token names.
pub mod Draining
pub mod Rings
mod Sealing
