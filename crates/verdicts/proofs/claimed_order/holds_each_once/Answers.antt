use Rattle.verdicts.proofs.Common.{IsNonDecreasingBy-from_sort_by_key, IsTrue, length_permutation, rules, sym, ◌↔◌}
use Rattle.verdicts.proofs.Common.{◌∙◌, ◌≡◌}
use Rattle.verdicts.proofs.ClaimedLines.{through}
use Rattle.verdicts.proofs.OneVerdict.{sorted_tells}
use Rattle.verdicts.proofs.claimed_order.holds_each_once.Goals as goal

pub returns-then-lines-len : goal.returns-then-lines-len
returns-then-lines-len c = (
  λ f. cc,
  λ whole. absurd (c.if-lines-len.true (length_permutation c.args.operations.now c.args.lines.now whole ∙ sym c.len.ensures.exact)),
)

pub returns : goal.returns
returns c =
    let operations = c.args.operations.now in
    let by_call = c.sort_unstable_by_key.new.self.items in
    let in_order = IsNonDecreasingBy-from_sort_by_key (λ o. o.call) by_call c.sort_unstable_by_key.ensures.sorted (λ a r q k. search rules) in
    let moved = rw c.in_ok-by_call.ensures.items at c.sort_unstable_by_key.ensures.permutation in
    let same : IsTrue c.are_same.result ↔ (by_call ≡ operations) = rw (← c.as_slice.ensures.value) c.are_same.ensures in
    through same (sorted_tells (λ o. o.call) operations c.args.lines.now by_call c.requires moved in_order)
