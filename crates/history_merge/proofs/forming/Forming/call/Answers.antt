use Rattle.history_merge.proofs.Common.{arith, length, refl, ◌≡◌}
use Rattle.history_merge.proofs.Formed.{fault_of_call, formed_after_call, none_pending_at}
use Rattle.history_merge.proofs.forming.Forming.call.Goals as goal

pub returns-clause-taken : goal.returns-clause-taken
returns-clause-taken c = λ initial events known order called repeats.
    let e = c.args.event in
    let none = none_pending_at events e.thread c.args.self.now c.requires.thread known (grind (arith, c.from-thread.ensures)) in
    let place : c.len-added.result ≡ length c.args.self.now.timeline.operations = c.len-added.ensures in (
      formed_after_call events e c.args.self.now _ c.requires.thread called none known
          (rw (c.in_ok-push.ensures.added, c.begun.ensures) refl) refl (rw (c.from-thread.ensures, place) refl),
      grind (arith, fault_of_call),
    )
