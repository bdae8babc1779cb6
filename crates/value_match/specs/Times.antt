-- The scale of times: a ticket, and the gap after it, has the same time in every history.
use Rattle.std.specs.Prelude.{pos, ℕ, ℤ, ◌+◌, ◌-ℤ◌, ◌-◌}
use Rattle.event_records.specs.declared.limits.TheConstants.{ORIGIN}
use Rattle.history_merge.specs.declared.operation.Operation.{Operation}
use Rattle.history_merge.specs.Initial.{enqueue_at}

-- the time at which the j-th of this many initial values is enqueued
abbrev pub initial_time : ℕ → ℕ → ℕ
initial_time initial_count j = ORIGIN - initial_count + j

-- the enqueue of the initial value v at place j, of this many
abbrev pub initial_enqueue : ℕ → ℕ → ℕ → Operation
initial_enqueue initial_count j v = enqueue_at (initial_time initial_count j) v

-- the time of a ticket, or of the gap after it
abbrev pub time_of : ℕ → ℕ
time_of ticket = ticket + ORIGIN

-- the ticket of a time; the enqueue of the j-th of k initial values has the ticket j - k for its call and its return
abbrev pub ticket_of : ℕ → ℤ
ticket_of time = pos time -ℤ pos ORIGIN
