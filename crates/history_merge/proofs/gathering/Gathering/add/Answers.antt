use Rattle.history_merge.proofs.Common.{[], arith, nat_tests, ◌∷◌}
use Rattle.std.proofs.Common.{length-append}
use Rattle.history_merge.proofs.Faults.{gathered_after_fault, kept-append, none_met, run_of_formed}
use Rattle.history_merge.proofs.gathering.Gathering.add.Goals as goal

pub returns-then-is_some-clause-added : goal.returns-then-is_some-clause-added
returns-then-is_some-clause-added c = λ initial events gathered few.
    gathered_after_fault initial events c.args.event c.args.self.now c.if-is_some.ensures few
    (kept-append initial events (c.args.event ∷ []) c.args.self.now gathered) gathered

pub keep-requires : goal.keep-requires
keep-requires c =
    let initial = c.requires.0 in
    let events = c.requires.1 in
    let gathered = c.requires.2 in
    let known = none_met initial events c.args.self.now c.if-is_some.ensures gathered in
    let met = c.in-Err.ensures.followed initial events known (omega (arith, gathered.few, known.count, c.if-self-eq-MAX_EVENTS.false)) in
    (events, run_of_formed initial events c.follow.new.self.forming met.1.1 known.distinct known.no_fault)

pub returns-in-Err-clause-added : goal.returns-in-Err-clause-added
returns-in-Err-clause-added c = λ initial events gathered few.
    let known = none_met initial events c.args.self.now c.if-is_some.ensures gathered in
    let met = c.in-Err.ensures.followed initial events known few in
    let run = run_of_formed initial events c.follow.new.self.forming met.1.1 known.distinct known.no_fault in
    grind (arith, nat_tests, length-append)

pub returns-in_default-clause-added : goal.returns-in_default-clause-added
returns-in_default-clause-added c = λ initial events gathered few.
    let known = none_met initial events c.args.self.now c.if-is_some.ensures gathered in
    let followed = c.in_default.ensures.followed initial events known few in
    let clash = kept-append initial events (c.args.event ∷ []) c.args.self.now gathered in
    grind (arith, nat_tests, length-append)
