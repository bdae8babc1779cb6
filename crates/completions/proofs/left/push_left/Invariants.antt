use Rattle.std.proofs.Common.{◌≡◌, ◌++◌, List, not, take}
use Rattle.std.specs.Prelude.{filter}
use Rattle.event_records.specs.declared.event.Event.{Event}
use Rattle.completions.specs.Completed.{is_given}
use Rattle.completions.specs.Inner.Walk.{AreGiven}
use Rattle.completions.proofs.left.push_left.Given as goal

abbrev pub invariant-loop-value : goal.invariant-loop-value
invariant-loop-value l = (events : List Event) → AreGiven events l.given
    → l.left.items ≡ l.fn.left.items ++ filter (λ v. not (is_given events v)) (take l.value-index l.values)
