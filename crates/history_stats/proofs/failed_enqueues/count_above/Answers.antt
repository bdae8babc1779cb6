use Rattle.std.proofs.Common.{◌≡◌, ◌∙◌, ◌+◌, Bool, true, false, cond, ap, arith, get_or, refl}
use Rattle.std.proofs.Math.ListN.{length-set}
use mir.Val.{bool_byte}
use Rattle.history_stats.proofs.FailedEnqueues.{counts_more}
use Rattle.history_stats.proofs.failed_enqueues.count_above.Goals as goal

-- a test counts as one
one : (b : Bool) → bool_byte b ≡ cond b 1 0
one true = refl
one false = refl

pub loop-place-preserved : goal.loop-place-preserved
loop-place-preserved c =
    let above = c.loop-place.above in
    let place = c.loop-place.place in
    record {
      room = length-set above (place + 1) _ ∙ c.loop-place.invariant.room;
      counts = counts_more c.args.most place _ c.args.heights.now above _ c.loop-place-test.true c.loop-place.invariant.room
          (ap (λ n. get_or above place 0 + n) (c.from.ensures ∙ one _)) refl c.loop-place.invariant.counts;
    }
