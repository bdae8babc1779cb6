use Rattle.std.proofs.Common.{◌≤◌, take}
use Rattle.std.specs.Prelude.{All}
use Rattle.event_records.specs.declared.limits.TheConstants.{MAX_THREAD}
use Rattle.history_merge.specs.Gathering.{HasGathered}
use Rattle.completions.specs.Inner.Walk.{HasWalked}
use Rattle.completions.proofs.completion.walk_history.Given as goal

abbrev pub invariant-loop-event : goal.invariant-loop-event
invariant-loop-event l = record {
  gathered : HasGathered l.fn.initial (take l.event-index l.events) l.builder;
  walked : All (λ e. e.thread ≤ MAX_THREAD) l.events → HasWalked (take l.event-index l.events) l.walk;
}
