-- How the argument goes, from steps to the collected lists: Members, Blocks, Naming: elements of lists, lists made of
-- one block for each thread, and values that are distinct. Steps, Starting, Threads: the effect of each step on the
-- state of a machine. Runs, Granted: induction over the accepted steps of a schedule. Counts, Totals, Events,
-- Closing, Finished: the state after any schedule: counts, events in order, closed threads, a machine that is done.
-- Turns, Fitting: the recorded lists merge to a complete history. Collecting: the lists that a done schedule collects
-- fit together and have each thread's events once. Precedence, Ticketed, Operating: the order of operations is that
-- of their steps, and of their tickets. Effects, Honest, Legal: the effects of an honest schedule that is done are a
-- linearization. Replaying, Replayed: recorded lists are collected by some schedule.
pub mod Runs
pub mod Counts
pub mod Threads
pub mod Closing
pub mod Steps
pub mod Totals
pub mod Starting
pub mod Finished
pub mod Precedence
pub mod Effects
pub mod Members
pub mod Naming
pub mod Blocks
pub mod Fitting
pub mod Events
pub mod Collecting
pub mod Granted
pub mod Turns
pub mod Replaying
pub mod Replayed
pub mod Operating
pub mod Honest
pub mod Legal
pub mod Ticketed
