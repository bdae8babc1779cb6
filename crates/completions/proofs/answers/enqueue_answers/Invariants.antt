use Rattle.std.proofs.Common.{◌≡◌, List, take}
use Rattle.std.specs.Prelude.{filter_map}
use Rattle.event_records.specs.declared.event.Event.{Event}
use Rattle.completions.specs.Completed.{enqueue_answer}
use Rattle.completions.specs.Inner.Walk.{AreGiven}
use Rattle.completions.proofs.answers.enqueue_answers.Given as goal

abbrev pub invariant-loop-call : goal.invariant-loop-call
invariant-loop-call l = (events : List Event) → AreGiven events l.given → l.answers.items ≡ filter_map (enqueue_answer events) (take l.call-index l.calls)
