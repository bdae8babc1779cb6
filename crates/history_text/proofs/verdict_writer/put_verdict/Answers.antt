use Rattle.history_text.proofs.Common.{◌≡◌, codes, refl, line, puts_after, arith}
use Rattle.history_text.proofs.WrittenClaims.{order_is, text_at_places}
use Rattle.history_text.proofs.verdict_writer.put_verdict.Goals as goal

pub returns-in-Yes : goal.returns-in-Yes
returns-in-Yes g c =
    let first : c.push.new.self ≡ line (codes "YES") = rw (c.push.ensures.bytes, c.requires) refl in
    rw (c.in-Yes.is, order_is c.args.initial.now c.args.operations.now c.in-Yes.order)
    (puts_after _ _ _ c.put_each.result _ _ (line (codes "YES")) _ _ _ first (rw c.as_slice.ensures at c.put_each.ensures.text))

pub returns-in-No : goal.returns-in-No
returns-in-No g c = grind (arith, text_at_places, puts_after)
