use Rattle.value_match.proofs.Common.{All-contains, ap, arith, Enqueue, false≢true, get_or, get_or_read, is_some, IsAt}
use Rattle.value_match.proofs.Common.{IsCall, IsNearSource, IsSourceOf, None, Operation, refl, slice_get-get_or}
use Rattle.value_match.proofs.Common.{slice_get_read, slice_get_within, Some, subst, sym, ◌-◌, ◌∙◌, ◌≡◌}
use Rattle.value_match.proofs.CallPlaces.{behind_at, call_within, found_all, found_here, found_more, found_nowhere}
use Rattle.value_match.proofs.CallPlaces.{near_source, no_source, none_if}
use Rattle.value_match.proofs.sources.find_others.Goals.{After-index-sources-place, in-Some, in_default-place_among}
use Rattle.value_match.proofs.sources.find_others.Goals as goal

-- the source read at the operation's place
read : (c : After-index-sources-place)
    → c.index-sources-place.result ≡ get_or c.loop-place.sources (c.loop-place.place - c.args.prefix) None
read c = get_or_read c.loop-place.sources _ _
    (omega (arith, c.loop-place-test.true, c.loop-place.auto.place, c.loop-place.invariant.one_each)) c.index-sources-place.is None

-- the source is near, if there is one
near : (c : After-index-sources-place) (o : Operation) → IsAt c.args.operations.now c.loop-place.place o
    → IsNearSource c.loop-place.invariant.wanted c.args.operations.now o.kind
    (get_or c.loop-place.sources (c.loop-place.place - c.args.prefix) None)
near c o here = c.loop-place.invariant.near _ o (omega (arith, c.loop-place.auto.place)) (behind_at _ _ _ o c.loop-place.auto.place here)

pub loop-place-init : goal.loop-place-init
loop-place-init c = let (wanted, near, others) = c.requires.near in record {
  wanted = wanted;
  one_each = near.one_each;
  found = λ i o below. absurd (omega (arith, below));
  near = λ i o after at. near.each i o (let inside = slice_get_within c.args.operations.now _ o at in omega (arith, inside, near.one_each)) at;
  others = others;
}

pub loop-place-preserved-then-is_some : goal.loop-place-preserved-then-is_some
loop-place-preserved-then-is_some c =
    let now = (goal.at.loop-place-preserved-then-is_some c).After-index-sources-place in
    let here = slice_get-get_or c.args.operations.now c.loop-place.place (record { call = 0; ret = 0; thread = 0; kind = Enqueue 0 }) c.loop-place-test.true in
    found_here _ _ _ _ _ _ c.loop-place.auto.place here (near_source _ _ _ _ (near now _ here)
    (λ none. false≢true (sym (ap is_some (c.get.ensures ∙ read now ∙ none)) ∙ sym c.is_some.ensures ∙ c.if-is_some.true))) c.loop-place.invariant

pub loop-place-preserved-in_default : goal.loop-place-preserved-in_default
loop-place-preserved-in_default c =
    let now = (goal.at.loop-place-preserved-in_default c).After-index-sources-place in
    let here = slice_get_read _ _ _ _ refl c.loop-place-test.true c.index-operations-place.is ∙ ap Some (sym c.unpack.ensures.operation) in
    let none = sym (c.get.ensures ∙ read now) ∙ none_if _ (sym c.is_some.ensures ∙ c.if-is_some.false) in
    found_here _ _ _ _ _ _ c.loop-place.auto.place here (subst (IsSourceOf c.args.operations.now c.unpack.result.kind) (sym none)
    (no_source _ _ c.in_default.not-Dequeue)) c.loop-place.invariant

pub some-requires : goal.some-requires
some-requires c =
    omega (
      arith,
      call_within c.args.operations.now _ _
          (All-contains (IsCall c.args.operations.now) _ _ c.loop-place.invariant.others.are_calls c.in-Some.ensures),
      c.requires.few,
    )

pub loop-place-preserved : goal.loop-place-preserved
loop-place-preserved c =
    let now = (goal.at.loop-place-preserved c).After-index-sources-place in
    let known = c.loop-place.invariant in
    let here = slice_get_read _ _ _ _ refl c.loop-place-test.true c.index-operations-place.is ∙ ap Some (sym c.unpack.ensures.operation) in
    let none = sym (c.get.ensures ∙ read now) ∙ none_if _ (sym c.is_some.ensures ∙ c.if-is_some.false) in
    elim c.match-place_among.branch [
      | in-Some w ↦
          let call = subst (λ kind. IsSourceOf c.args.operations.now kind (Some w.in-Some.call)) (sym c.in-Dequeue.is)
          (All-contains (IsCall c.args.operations.now) _ _ known.others.are_calls w.in-Some.ensures) in
          rw w.sources-is (found_more _ _ _ _ _ _ _ c.loop-place.auto.place here (rw w.some.ensures call) known)
      | in_default-place_among w ↦
          rw w.sources-is (found_here _ _ _ _ _ _ c.loop-place.auto.place here (found_nowhere _ _ c.unpack.result _ _ _ c.in-Dequeue.is none known.others
          w.in_default-place_among.ensures (near now _ here)) known)
    ]

pub returns : goal.returns
returns c = found_all _ _ _ _ _ c.loop-place-test.false c.loop-place.invariant
