use Rattle.std.proofs.Common.{◌∙◌, ◌+◌, ◌++◌, ◌∷◌, ◌≡◌, ◌<◌, [], ap, arith, get_or, get_or-set_other, length}
use Rattle.std.proofs.Common.{length-set, List, not, refl, set, sym}
use Rattle.std.proofs.Common.{Bool, take, Vec, Global, ℕ}
use Rattle.std.specs.Prelude.{filter}
use Rattle.std.proofs.lemmas.List.{get_or_read, set-get_or, take_more_set}
use Rattle.event_records.specs.declared.event.Event.{Event}
use Rattle.completions.specs.Completed.{is_left_out}
use Rattle.completions.proofs.Walks.{all_stay, filtered_more, filtered_same, past_end}
use Rattle.completions.proofs.completion.leave_out.Goals.{then-not-is_left_out, else-not-is_left_out, then-kept-place}
use Rattle.completions.proofs.completion.leave_out.Goals.{else-kept-place}
use Rattle.completions.proofs.completion.leave_out.Goals as goal

pub loop-place-init : goal.loop-place-init
loop-place-init c = record {
  same = refl;
  few = omega arith;
  kept = sym (all_stay c.args.events.now.items (take c.args.from c.args.events.now.items) c.args.answers.now c.requires.before);
  rest = λ k above. refl;
}

pub loop-place-preserved : goal.loop-place-preserved
loop-place-preserved c =
    let old : List Event = c.args.events.now.items in
    let items : List Event = c.loop-place.events.items in
    let i = c.loop-place.place in
    let n = c.loop-place.kept in
    let event : Event = c.index-event.result.now in
    let stays : Event → Bool = λ e. not (is_left_out old c.args.answers.now e) in
    let known = c.loop-place.invariant in
    let inside : i < length items = omega (arith, c.loop-place-test.true, c.len-place-end.ensures, known.same) in
    let below : i < length old = omega (arith, inside, known.same) in
    let stands : event ≡ get_or items i past_end = get_or_read items i event inside c.index-event.ensures past_end in
    let was : get_or old i past_end ≡ event = sym (known.rest i (omega arith)) ∙ sym stands in
    let is = ap stays (was ∙ sym c.unpack.ensures) ∙ ap not (sym (c.is_left_out.ensures old c.requires.last)) in
    elim c.if-not-is_left_out.branch [
      | then-not-is_left_out w ↦
          let now : List Event = c.if-not-is_left_out.events.items in
          let put : now ≡ set items n event =
          ap (λ (v : Vec Event Global). v.items) w.events-is ∙ (elim w.if-kept-place.branch [
            | then-kept-place v ↦ ap (λ (x : Vec Event Global). x.items) v.events-is
            | else-kept-place v ↦
                ap (λ (x : Vec Event Global). x.items) v.events-is
                ∙ sym (ap (set items n) (stands ∙ ap (λ (k : ℕ). get_or items k past_end) (sym v.if-kept-place.false)) ∙ set-get_or items n past_end)
          ]) in
          record {
            same = ap (λ (l : List Event). length l) put ∙ length-set items n event ∙ known.same;
            few = omega (arith, w.kept-is, known.few);
            kept = ap (λ (k : ℕ). take k now) w.kept-is
                ∙ ap (λ (l : List Event). take (n + 1) l) put ∙ take_more_set items n event (omega (arith, inside, known.few))
                ∙ ap (λ (l : List Event). l ++ event ∷ []) known.kept
                ∙ ap (λ (e : Event). filter stays (take i old) ++ e ∷ []) (sym was)
                ∙ sym (filtered_more stays old i past_end below (is ∙ ap not w.if-not-is_left_out.true));
            rest = λ k above. ap (λ (l : List Event). get_or l k past_end) put
                ∙ get_or-set_other items n k event past_end (λ e. omega (arith, e, above, known.few)) ∙ known.rest k (omega (arith, above));
          }
      | else-not-is_left_out w ↦ record {
        same = ap (λ (v : Vec Event Global). length v.items) w.events-is ∙ known.same;
        few = omega (arith, w.kept-is, known.few);
        kept = ap (λ (k : ℕ). take k c.if-not-is_left_out.events.items) w.kept-is
            ∙ ap (λ (v : Vec Event Global). take n v.items) w.events-is ∙ known.kept
            ∙ sym (filtered_same stays old i past_end below (is ∙ ap not w.if-not-is_left_out.false));
        rest = λ k above. ap (λ (v : Vec Event Global). get_or v.items k past_end) w.events-is ∙ known.rest k (omega (arith, above));
      }
    ]
