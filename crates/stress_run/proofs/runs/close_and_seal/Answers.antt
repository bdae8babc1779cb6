use Rattle.std.proofs.Common.{◌≡◌, map, length, rules, ap, sym, subst, ◌∙◌}
use Rattle.tickets.specs.Views.{numbers_below}
use Rattle.event_rings.specs.Ring.{TokenView}
use Rattle.collector.specs.Ends.{threads_of_tokens}
use Rattle.collector.specs.Inner.Ends.{rings_of_tokens}
use Rattle.stress_run.specs.Inner.Crew.{AreClosed, IsFaultOfClosing}
use Rattle.stress_run.proofs.Finished.{stands_at_end}
use Rattle.stress_run.proofs.runs.close_and_seal.Goals as goal

pub seal-requires-clause-rings : goal.seal-requires-clause-rings
seal-requires-clause-rings c = ap rings_of_tokens c.in_ok-tokens.ensures.closed.tokens_are ∙ c.requires.rings

pub seal-requires-clause-order : goal.seal-requires-clause-order
seal-requires-clause-order c =
    subst (λ ts. threads_of_tokens ts ≡ numbers_below (length ts)) (sym c.in_ok-tokens.ensures.closed.tokens_are) c.requires.order

pub seal-requires-clause-granted : goal.seal-requires-clause-granted
seal-requires-clause-granted c = c.standing_fault-standing.ensures.granted c.in_ok-tokens.ensures.clear

pub returns-clause-sealed : goal.returns-clause-sealed
returns-clause-sealed c =
    let closed = c.in_ok-tokens.ensures.closed in
    record {
      closed = subst (λ ts. AreClosed c.args.rest c.args.workers.items ts c.in_ok-tokens.pass) closed.tokens_are closed;
      lists_are = c.in_ok-lists.ensures.sealed ∙ ap (map (λ (token : TokenView). token.sent)) closed.tokens_are;
    }

pub returns-in_err-tokens-clause-fault : goal.returns-in_err-tokens-clause-fault
returns-in_err-tokens-clause-fault c =
    let e = c.in_err-tokens.ensures in
    let fault : IsFaultOfClosing c.args.workers.items c.in_err-tokens.field-0.0 =
    stands_at_end c.args.workers.items _ _ c.standing_fault-standing.ensures.memory e.stands e.stalls in
    search rules
