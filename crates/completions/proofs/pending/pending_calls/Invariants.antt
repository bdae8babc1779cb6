use Rattle.std.proofs.Common.{◌≡◌, take}
use Rattle.std.specs.Prelude.{filter}
use Rattle.completions.specs.Completed.{is_pending}
use Rattle.completions.proofs.pending.pending_calls.Given as goal

abbrev pub invariant-loop-place : goal.invariant-loop-place
invariant-loop-place l = l.calls.items ≡ filter (is_pending l.events) (take l.place l.events)
