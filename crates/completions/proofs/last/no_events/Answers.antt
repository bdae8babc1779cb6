use Rattle.std.proofs.Common.{refl}
use Rattle.history_merge.proofs.TheirEvents.{nothing_at}
use Rattle.event_records.specs.declared.event.Event.{Event}
use Rattle.completions.proofs.last.no_events.Goals as goal

pub returns : goal.returns
returns c = (refl, λ thread below. nothing_at {X = Event} 64 thread)
