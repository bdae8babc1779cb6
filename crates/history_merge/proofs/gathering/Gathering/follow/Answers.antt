use Rattle.history_merge.proofs.Common.{arith, called_values, Knows, subst, ◌++◌, ◌∙◌}
use Rattle.std.proofs.Common.{length-append}
use Rattle.history_merge.proofs.KnownValues.{called_so_far, repeats_is, values_more}
use Rattle.history_merge.proofs.Faults.{met_fault-push, no_fault-push, of_err}
use Rattle.history_merge.proofs.gathering.Gathering.follow.Goals as goal

pub returns-in_err-take-clause-followed : goal.returns-in_err-take-clause-followed
returns-in_err-take-clause-followed c = λ initial events known few.
    let note = c.in_ok-repeats.ensures (initial ++ called_values events) known.called (grind (arith, called_so_far)) in
    let refused = c.in_err-take.ensures.taken initial events known.formed (note.0 ∙ repeats_is initial events c.args.event) in
    of_err _ _ _ c.from_residual-in_err-take.result c.from_residual-in_err-take.ensures.1 (λ fault is. (
      grind (arith, met_fault-push initial events c.args.event fault known.distinct known.no_fault),
      (c.in_err-take.ensures.initial ∙ known.initial_is, refused.0, known.count),
    ))

pub returns-clause-followed : goal.returns-clause-followed
returns-clause-followed c = λ initial events known few.
    let e = c.args.event in
    let note = c.in_ok-repeats.ensures (initial ++ called_values events) known.called (grind (arith, called_so_far)) in
    let taken = c.in_ok-take.ensures.taken initial events known.formed (note.0 ∙ repeats_is initial events e) in
    record {
      initial_is = c.in_ok-take.ensures.initial ∙ known.initial_is;
      distinct = known.distinct;
      called = subst (λ values. Knows values c.note.new.self) (values_more initial events e) note.1;
      formed = taken.0;
      count = simp length-append (omega (arith, known.count, few));
      no_fault = no_fault-push initial events e (rw known.count at taken.1) known.no_fault;
    }
