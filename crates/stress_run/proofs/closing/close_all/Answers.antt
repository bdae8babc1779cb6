use Rattle.std.proofs.Common.{◌≡◌, ◌++◌, ◌∷◌, [], All, ap, sym, subst, ◌∙◌, append_assoc, rules}
use Rattle.std.proofs.lemmas.List.Elements.{All-head, All-tail}
use Rattle.std.proofs.lemmas.List.{nil_from_length}
use Rattle.std.specs.Vec.Iter.{into_iter_items}
use Rattle.stress_run.specs.Workers.{WorkerView}
use Rattle.stress_run.proofs.Closed.{IsClosing, none_of, closing_none, closing_more, all_closed}
use Rattle.stress_run.proofs.closing.close_all.Goals as goal

pub loop-worker-init : goal.loop-worker-init
loop-worker-init c =
    let same : c.args.workers.items ≡ into_iter_items c.into_iter-worker-iterator.result = search rules in (
      tt,
      tt,
      subst (All (λ (v : WorkerView). v.pass.key ≡ c.args.tickets.now.key)) same c.requires.keys,
      c.requires.rest,
      (
        [],
        same,
        subst (λ tokens. IsClosing c.args.rest [] c.args.standing tokens c.args.rest c.args.standing) (sym c.new.ensures.items)
            (closing_none c.args.rest c.args.standing),
      ),
    )

pub loop-worker-preserved : goal.loop-worker-preserved
loop-worker-preserved c =
    let i = c.loop-worker.invariant in
    let next = c.in-Some.ensures.steps.0 in
    let w = c.in-Some.worker in
    let e = c.close_one-closing.ensures in
    let keys = subst (All (λ (v : WorkerView). v.pass.key ≡ c.args.tickets.now.key)) next i.2 in
    let done = i.4.0 in (
      tt,
      tt,
      All-tail (λ (v : WorkerView). v.pass.key ≡ c.args.tickets.now.key) w (into_iter_items c.next.new.self) keys,
      e.key ∙ i.3,
      (
        done ++ w ∷ [],
        i.4.1 ∙ ap (λ l. done ++ l) next ∙ sym (append_assoc done (w ∷ []) (into_iter_items c.next.new.self)),
        closing_more c.args.rest done w c.args.standing c.loop-worker.closing.tokens.items c.loop-worker.closing.pass c.loop-worker.closing.fault
            c.close_one-closing.result.tokens.items c.close_one-closing.result.pass c.close_one-closing.result.fault i.4.2
            e.key e.standing e.stall e.stands e.running e.token e.left e.drawn e.noted,
      ),
    )

pub close_one-closing-requires-clause-pass : goal.close_one-closing-requires-clause-pass
close_one-closing-requires-clause-pass c = c.loop-worker.invariant.3

pub close_one-closing-requires-clause-worker : goal.close_one-closing-requires-clause-worker
close_one-closing-requires-clause-worker c =
    let keys = subst (All (λ (v : WorkerView). v.pass.key ≡ c.args.tickets.now.key)) c.in-Some.ensures.steps.0 c.loop-worker.invariant.2 in
    All-head (λ (v : WorkerView). v.pass.key ≡ c.args.tickets.now.key) c.in-Some.worker (into_iter_items c.next.new.self) keys

pub returns-in-None-fault-clause-closed : goal.returns-in-None-fault-clause-closed
returns-in-None-fault-clause-closed c =
    let i = c.loop-worker.invariant.4 in
    let closed = (all_closed _ c.args.workers.items i.0 _ _ _ _ _ i.1 (nil_from_length _ (search rules)) i.2).closed in
    (none_of c.loop-worker.closing.fault _ c.in-None-fault.is closed).1

pub returns-in-None-fault-clause-clear : goal.returns-in-None-fault-clause-clear
returns-in-None-fault-clause-clear c = (none_of c.loop-worker.closing.fault _ c.in-None-fault.is c.loop-worker.invariant.4.2.closed).0

pub returns-in-Some-fault-clause-stands : goal.returns-in-Some-fault-clause-stands
returns-in-Some-fault-clause-stands c =
    let i = c.loop-worker.invariant.4 in
    rw c.in-Some-fault.is at (all_closed _ c.args.workers.items i.0 _ _ _ _ _ i.1 (nil_from_length _ (search rules)) i.2).stands

pub returns-in-Some-fault-clause-standing : goal.returns-in-Some-fault-clause-standing
returns-in-Some-fault-clause-standing c = rw c.in-Some-fault.is at c.loop-worker.invariant.4.2.first

pub returns-in-Some-fault-clause-stalls : goal.returns-in-Some-fault-clause-stalls
returns-in-Some-fault-clause-stalls c =
    let i = c.loop-worker.invariant.4 in
    rw c.in-Some-fault.is at (all_closed _ c.args.workers.items i.0 _ _ _ _ _ i.1 (nil_from_length _ (search rules)) i.2).stalls
