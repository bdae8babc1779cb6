use Rattle.history_merge.proofs.Common.{get_or, LOOSE, refl, subst, ◌≡◌}
use Rattle.history_merge.proofs.KnownValues.{knows_loose, repeats_by_set}
use Rattle.history_merge.proofs.called.CalledValues.note_loose.Goals as goal

pub returns : goal.returns
returns c = λ values knows are.
    let now = c.in_ok-loosen.ensures values knows are in
    let is = subst (λ n. get_or c.loosen.new.self.least n 0 ≡ LOOSE) c.name_in.ensures now.1 in (
      repeats_by_set _ _ _ c.in_ok-insert.ensures.added (now.0.loose c.args.value is),
      knows_loose values c.loosen.new.self _ c.args.value now.0 is c.in_ok-insert.ensures.updates.0 refl,
    )
