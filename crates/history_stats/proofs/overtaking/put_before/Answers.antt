use Rattle.std.proofs.Common.{ℕ, ◌<◌, ◌≤◌, arith, inl, inr}
use Rattle.std.specs.Prelude.{count_by, nat_lt}
use Rattle.std.proofs.lemmas.Bool.{cases_lt}
use Rattle.std.proofs.lemmas.List.Sums.{count_by-le-length}
use Rattle.history_stats.specs.declared.stays.Stay.{Stay}
use Rattle.history_stats.proofs.Tallied.{lie_below, lies_below, tallied_more}
use Rattle.history_stats.proofs.overtaking.put_before.Goals as goal

not_both : (a b : ℕ) → a < b → b ≤ a → ⊥
not_both a b less more = omega arith

pub loop-put-preserved : goal.loop-put-preserved
loop-put-preserved c =
    let stays = c.args.stays.now in
    let put = c.loop-put.put in
    record {
      few = lie_below (λ (s : Stay). s.put) c.args.ticket stays put _ c.requires.in_order c.loop-put-test.true c.if-stays-put.true;
      tallied = λ limit was. tallied_more limit put _ stays c.loop-put.tally.levels.items c.add.new.self.levels.items c.loop-put-test.true
          (c.loop-put.invariant.tallied limit was) (c.add.ensures limit);
    }

pub returns-else-stays-put-clause-put : goal.returns-else-stays-put-clause-put
returns-else-stays-put-clause-put c =
    let stays = c.args.stays.now in
    let put = c.loop-put.put in
    elim (cases_lt put (count_by (λ s. nat_lt s.put c.args.ticket) stays)) [
      | inl more ↦ absurd (not_both _ _ (lies_below (λ (s : Stay). s.put) c.args.ticket stays put _ c.requires.in_order more) c.if-stays-put.false)
      | inr all ↦ omega (arith, c.loop-put.invariant.few)
    ]
