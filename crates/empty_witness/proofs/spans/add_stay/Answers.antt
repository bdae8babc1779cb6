use Rattle.empty_witness.proofs.Common.{ap, arith, get_or_read, length, refl, Span, sym, ◌+◌, ◌<◌, ◌∙◌, ◌≡◌}
use Rattle.empty_witness.proofs.ValueSpans.{last_grown}
use Rattle.empty_witness.proofs.spans.add_stay.Goals as goal

pub returns : goal.returns
returns c =
    let spans = c.args.spans.now.items in
    let place = c.in-Some.last in
    let last = c.index_mut.result.now in
    let is_last : place + 1 ≡ length spans = omega (arith, c.in-Some.ensures, c.len.ensures) in
    let inside : place < length spans = omega (arith, is_last) in
    let here = c.index_mut.ensures.value in
    let first = ap (λ (s : Span). s.start) (get_or_read spans place _ inside c.index.ensures last ∙ sym here) in
    let second = ap (λ (s : Span). s.end) (get_or_read spans place _ inside c.index-2.ensures last ∙ sym here) in
    let third = ap (λ (s : Span). s.end) (get_or_read spans place _ inside c.index-3.ensures last ∙ sym here) in
    last_grown spans place last c.args.stay _ is_last (get_or_read spans place _ inside here) c.requires.apart c.requires.holds_some
    (omega (arith, c.if-index-stay.true, first)) (omega (arith, c.if-stay-index.true, second)) refl (omega (arith, c.max.ensures, third))
