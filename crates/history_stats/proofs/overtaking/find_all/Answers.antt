use Rattle.std.proofs.Common.{◌∙◌, ap, arith, get_or, length, sym}
use Rattle.std.proofs.lemmas.List.{get_or_default}
use Rattle.std.proofs.lemmas.List.Sums.{count_by-le-length}
use Rattle.std.specs.Prelude.{nat_lt}
use Rattle.history_stats.specs.declared.takings.Taking.{Taking}
use Rattle.history_stats.specs.Inner.Overtaking.{overtaking_among}
use Rattle.history_merge.proofs.Lists.{found_none, found_one}
use Rattle.history_stats.proofs.Tallied.{few_next}
use Rattle.history_stats.proofs.overtaking.find_all.Goals.{in-Some+in_ok-push, in_default}
use Rattle.history_stats.proofs.overtaking.find_all.Goals as goal

pub put_before-put-requires-clause-place : goal.put_before-put-requires-clause-place
put_before-put-requires-clause-place c = c.loop-taking.invariant.few c.loop-taking.taking-index _ (omega arith) c.loop-taking-test.true

pub loop-taking-preserved : goal.loop-taking-preserved
loop-taking-preserved c =
    let calls = c.args.calls.now in
    let stays = c.args.stays.now in
    let takings = c.args.takings.now in
    let i = c.loop-taking.taking-index in
    let none : Taking = record { enqueue_call = 0; call = 0; ret = 0; value = 0 } in
    let tallied = c.put_before-put.ensures.tallied (length calls) c.loop-taking.invariant.tallied in
    let is = sym (c.overtaking_of.ensures stays tallied c.requires.stays c.put_before-put.ensures.put) in
    record {
      few = few_next stays takings i c.put_before-put.result (get_or takings i none) c.loop-taking-test.true
          (get_or_default takings i _ _ c.loop-taking-test.true) c.put_before-put.ensures.put c.requires.takings;
      within = omega (arith, c.put_before-put.ensures.put, count_by-le-length (λ s. nat_lt s.put (get_or takings i none).enqueue_call) stays);
      tallied = tallied;
      found = elim c.match-overtaking_of.branch [
        | in-Some+in_ok-push w ↦
            ap (λ v. v.items) w.found-is
            ∙ found_one (overtaking_among calls stays) takings i none c.loop-taking.found.items c.loop-taking-test.true c.loop-taking.invariant.found _ _
            (is ∙ w.in-Some.is)
            w.in_ok-push.ensures.items
        | in_default w ↦
            ap (λ v. v.items) w.found-is
            ∙ found_none (overtaking_among calls stays) takings i none c.loop-taking.found.items c.loop-taking-test.true c.loop-taking.invariant.found
            (is ∙ w.in_default.is)
      ];
    }
