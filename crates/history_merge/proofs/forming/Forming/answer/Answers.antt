use Rattle.history_merge.proofs.Common.{arith, refl, sym, ◌∙◌}
use Rattle.history_merge.proofs.Formed.{formed_after_answer, pending_at}
use Rattle.history_merge.proofs.forming.Forming.answer.Goals as goal

pub returns-in_default-get-clause-taken : goal.returns-in_default-get-clause-taken
returns-in_default-get-clause-taken c = λ initial events known order returns.
    let at = pending_at events c.args.event.thread c.args.self.now c.in-Some.called c.requires.thread known (rw c.from-thread.ensures at c.in-Some.is) in
    grind (arith, at.was)

pub returns-clause-taken : goal.returns-clause-taken
returns-clause-taken c = λ initial events known order returns.
    let o = c.in-Some-get.operation in
    formed_after_answer initial events c.args.place c.args.event c.args.self.now _ c.in-Some.called o c.in-Some-kind_of.kind
    order c.requires.thread returns known (rw c.from-thread.ensures at c.in-Some.is) (sym c.in-Some-get.ensures)
    (rw c.called.ensures at (sym c.kind_of.ensures ∙ c.in-Some-kind_of.is)) (c.complete.ensures.operations o (sym c.in-Some-get.ensures)) refl
    (rw c.from-thread.ensures refl)
