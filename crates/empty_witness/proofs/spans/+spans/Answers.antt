use Rattle.empty_witness.proofs.Common.{[], ap, AreApart, arith, length, length-append, List, Span, subst, ◌++◌, ◌<◌}
use Rattle.empty_witness.proofs.Common.{◌∷◌, ◌≡◌}
use Rattle.std.proofs.lemmas.Result.{on_ok_weaker}
use Rattle.empty_witness.proofs.ValueSpans.{after_last, apart_before, before_last, joined_holds, with_joined}
use Rattle.empty_witness.proofs.spans.+spans.Goals as goal

pub returns-then-last-span : goal.returns-then-last-span
returns-then-last-span t c =
    let are = subst AreApart c.in-Some.ensures.items c.requires.apart in
    rw (c.in-Some.ensures.items, c.in_ok-push-3.ensures.items, c.in_ok-push-2.ensures.items)
    (after_last c.pop.new.self.items c.in-Some.last c.args.span are c.requires.holds_some c.if-last-span.true)

-- there are fewer spans before the last than in all
fewer : (spans before : List Span) (last : Span) → spans ≡ before ++ last ∷ [] → length before < length spans
fewer spans before last items = let long = length-append before (last ∷ []) in let same = ap length items in omega (arith, long, same)

pub add_span-requires : goal.add_span-requires
add_span-requires t c =
    let are = subst AreApart c.in-Some.ensures.items c.requires.apart in
    let shorter : length c.pop.new.self.items < t = omega (arith, fewer _ _ _ c.in-Some.ensures.items, c.decreases) in
    (shorter, (apart_before c.pop.new.self.items c.in-Some.last are, c.requires.holds_some))

pub returns-then-span-last : goal.returns-then-span-last
returns-then-span-last t c =
    let are = subst AreApart c.in-Some.ensures.items c.requires.apart in
    rw (c.in-Some.ensures.items, c.in_ok-push-4.ensures.items)
    (before_last c.pop.new.self.items c.in-Some.last c.args.span are c.requires.holds_some c.add_span.new.spans.items c.if-span-last.true c.in_ok-add_span.ensures)

pub add_span-requires-2 : goal.add_span-requires-2
add_span-requires-2 t c =
    let are = subst AreApart c.in-Some.ensures.items c.requires.apart in
    let shorter : length c.pop.new.self.items < t = omega (arith, fewer _ _ _ c.in-Some.ensures.items, c.decreases) in (
      shorter,
      (
        apart_before c.pop.new.self.items c.in-Some.last are,
        joined_holds c.pop.new.self.items c.in-Some.last c.args.span are c.requires.holds_some c.joined.result c.joined.ensures c.if-last-span.false
            c.if-span-last.false,
      ),
    )

pub returns : goal.returns
returns t c =
    let are = subst AreApart c.in-Some.ensures.items c.requires.apart in
    rw c.in-Some.ensures.items (on_ok_weaker c.add_span-2.result
    (with_joined c.pop.new.self.items c.in-Some.last c.args.span are c.requires.holds_some c.joined.result c.joined.ensures c.if-last-span.false
    c.if-span-last.false c.add_span-2.new.spans.items) c.add_span-2.ensures)
