use Rattle.history_merge.proofs.Common.{ap, arith, Gathering, HasGathered, Explains, IfSome, inl, refl, subst, sym}
use Rattle.history_merge.proofs.Common.{◌∙◌}
use Rattle.history_merge.proofs.Common.{[]}
use Rattle.history_merge.proofs.Faults.{begun, explains}
use Rattle.history_merge.proofs.gathering.Gathering.new.Goals as goal
use Rattle.history_merge.proofs.gathering.Gathering.new.Goals.{in-Err, in-Ok}

pub returns : goal.returns
returns c = elim c.match-new.branch [
  | in-Ok w ↦
      let made = w.in-Ok.ensures in
      let values = w.in-Ok.timeline.initial in
      let g : Gathering = record {
        called = c.match-new.called;
        forming = c.new-2.result;
        count = 0;
        fault = c.match-new.timeline.1;
        clash = c.match-new.timeline.2;
      } in
      let clash = subst (λ vs. IfSome w.clash_of_initial-clash.result (Explains vs [] w.err-fault.result)) w.initial.ensures.initial
      (explains w.initial.result.now [] w.err-fault.result w.clash_of_initial-clash.result (w.clash_of_initial-clash.ensures.clash [])
      w.clash_of_initial-clash.ensures.fault) in
      subst (λ vs. HasGathered vs [] g) made.0 (begun g values w.note_initial.new.self w.note_initial.result w.initial.ensures.few
      c.new-2.ensures.formed refl (c.new-2.ensures.initial ∙ ap (λ t. t.0.initial) w.timeline-is) w.called-is
      (ap (λ t. t.1) w.timeline-is ∙ w.err-fault.ensures.value) w.note_initial.ensures.noted w.note_initial.ensures.refused
      (subst (λ o. IfSome o (Explains values [] c.match-new.timeline.1)) (sym (ap (λ t. t.2) w.timeline-is)) (rw (ap (λ t. t.1) w.timeline-is) clash)))
  | in-Err w ↦ rw w.timeline-is (record {
    few_initial = omega (arith, c.requires);
    few = omega arith;
    gathered = inl (inl refl);
    clash = tt;
  })
]
