-- The operations that an operation overlaps, before it and after it.
use Rattle.std.proofs.Common.{◌≡◌, ℕ, zero, suc, ◌+◌, ◌<◌, max, List, [], ◌∷◌, ◌++◌, length, get_or, cond}
use Rattle.std.proofs.Common.{Bool, false, refl, sym, ◌∙◌, ap, subst, arith, append_assoc, length-append}
use Rattle.std.proofs.Math.ListN.{get_or-append}
use Rattle.std.proofs.Math.Seq.{get_or-append_seam}
use Rattle.std.specs.Prelude.{All, AllPairs, count_by, nat_le, nat_lt, ◌&&◌, ◌||◌}
use Rattle.std.specs.List.{list_any}
use Rattle.std.proofs.lemmas.Bool.Decides.{nat_tests}
use Rattle.std.proofs.lemmas.List.Elements.{All-from_get_or, All-head, All-tail}
use Rattle.std.proofs.lemmas.List.Folds.{list_any-append}
use Rattle.std.proofs.lemmas.List.Sums.{sum_by-append}
use Rattle.history_merge.specs.declared.operation.Operation.{Operation}
use Rattle.history_stats.specs.Counts.{overlap}
use Rattle.history_stats.specs.Inner.AtOnce.{IsLastReturn}
use Rattle.history_merge.proofs.Lists.{All-right, pairs_back}

-- ---- the parts of a list

-- the operations after the first
behind_first : (x : Operation) (rest : List Operation) → AllPairs (λ a b. a.call < b.call) (x ∷ rest)
    → All (λ o. x.call < o.call) rest
behind_first x rest rise = All-from_get_or (λ (o : Operation). x.call < o.call) rest x (λ k below. rise zero (suc k) x (omega arith) (omega arith))

-- ---- one operation and another one

-- an operation overlaps an earlier one if and only if that returns at its call or later
overlaps_earlier : (x o : Operation) → o.call < x.call → x.call < x.ret → overlap x o ≡ nat_le x.call o.ret
overlaps_earlier x o before forward = grind (arith, nat_tests)

-- an operation overlaps a later one if and only if that is called by its return
overlaps_later : (x o : Operation) → x.call < o.call → o.call < o.ret → overlap x o ≡ nat_le o.call x.ret
overlaps_later x o behind forward = grind (arith, nat_tests)

-- no operation overlaps itself
not_itself : (x : Operation) → overlap x x ≡ false
not_itself x = grind (arith, nat_tests)

-- tests that agree on all elements of a list agree on the list
any_alike : {X : Type 0} (p q : X → Bool) (xs : List X) → All (λ x. p x ≡ q x) xs → list_any p xs ≡ list_any q xs
any_alike p q [] same = refl
any_alike p q (x ∷ xs) same =
    let here = All-head (λ z. p z ≡ q z) x xs same in
    let more = any_alike p q xs (All-tail (λ z. p z ≡ q z) x xs same) in λ i. here i || more i

-- if calls rise, an operation overlaps one of those before it if one of them returns at its call or later
any_earlier : (earlier later : List Operation) (x : Operation)
    → AllPairs (λ a b. a.call < b.call) (earlier ++ x ∷ later) → x.call < x.ret
    → list_any (overlap x) earlier ≡ list_any (λ o. nat_le x.call o.ret) earlier
any_earlier earlier later x rise forward = any_alike (overlap x) (λ (o : Operation). nat_le x.call o.ret) earlier (λ k d below.
    let rises = rise k (length earlier) d below (omega (arith, length-append earlier (x ∷ later))) in
    overlaps_earlier x (get_or earlier k d) (rw (get_or-append earlier (x ∷ later) d k below, get_or-append_seam earlier x later d) at rises) forward)

-- ---- one of some operations

-- if calls rise, one operation comes by a ticket if and only if the first does
first_decides : (ticket : ℕ) (x : Operation) (rest : List Operation) → All (λ o. x.call < o.call) rest
    → list_any (λ o. nat_le o.call ticket) (x ∷ rest) ≡ nat_le x.call ticket
first_decides ticket x [] behind = grind (arith, nat_tests)
first_decides ticket x (y ∷ rest) behind =
    let here = All-head (λ (o : Operation). x.call < o.call) y rest behind in
    let more = first_decides ticket x rest (All-tail (λ (o : Operation). x.call < o.call) y rest behind) in
    one x.call y.call ticket (list_any (λ (o : Operation). nat_le o.call ticket) rest) here more
  where
    one : (a b t : ℕ) (c : Bool) → a < b → (nat_le a t || c) ≡ nat_le a t
        → (nat_le a t || (nat_le b t || c)) ≡ nat_le a t
    one a b t c lt e = grind (arith, nat_tests)

-- the first operation, if there is one, decides whether one is called by a ticket
pub called_by_first : (ticket : ℕ) (operations rest : List Operation) (x : Operation) → operations ≡ x ∷ rest
    → AllPairs (λ a b. a.call < b.call) operations
    → nat_le x.call ticket ≡ list_any (λ o. nat_le o.call ticket) operations
called_by_first ticket operations rest x is rise =
    sym (first_decides ticket x rest (behind_first x rest (subst (AllPairs (λ (a b : Operation). a.call < b.call)) is rise)))
    ∙ ap (list_any (λ (o : Operation). nat_le o.call ticket)) (sym is)

-- both tests together decide whether an operation overlaps another one
pub overlap_told : (earlier later : List Operation) (x : Operation) (is_earlier is_later : Bool)
    → AllPairs (λ a b. a.call < b.call) (earlier ++ x ∷ later) → All (λ o. o.call < o.ret) (earlier ++ x ∷ later)
    → is_earlier ≡ list_any (λ o. nat_le x.call o.ret) earlier
    → is_later ≡ list_any (λ o. nat_le o.call x.ret) later
    → (is_earlier || is_later) ≡ list_any (overlap x) (earlier ++ x ∷ later)
overlap_told earlier later x is_earlier is_later rise forward tells_earlier tells_later =
    let rises = pairs_back (λ (a b : Operation). a.call < b.call) earlier (x ∷ later) rise in
    let goes = All-right (λ (o : Operation). o.call < o.ret) earlier (x ∷ later) forward in
    let one = tells_earlier ∙ sym (any_earlier earlier later x rise (All-head (λ (o : Operation). o.call < o.ret) x later goes)) in
    let other = tells_later ∙ sym (any_alike (overlap x) (λ (o : Operation). nat_le o.call x.ret) later
    (λ k d below. overlaps_later x (get_or later k d) (behind_first x later rises k d below)
    (All-tail (λ (o : Operation). o.call < o.ret) x later goes k d below))) in
    (λ i. one i || (sym (not_itself x) i || other i)) ∙ sym (list_any-append (overlap x) earlier (x ∷ later))

-- ---- one after another

-- some of the operations were seen; this many of them overlap another one, and this is their last return
pub record Counted (all left : List Operation) (count last_return : ℕ) : Type 0 where
  pub seen : List Operation
  pub parts : seen ++ left ≡ all
  pub counted : count ≡ count_by (λ o. list_any (overlap o) all) seen
  pub last : IsLastReturn seen last_return
  pub none : length seen ≡ 0 → last_return ≡ 0

-- if calls rise, so do those of the operations after the next
pub left_rise : (all old left : List Operation) (x : Operation) (count last_return : ℕ) → old ≡ x ∷ left
    → AllPairs (λ a b. a.call < b.call) all
    → Counted all old count last_return → AllPairs (λ a b. a.call < b.call) left
left_rise all old left x count last_return is rise was =
    pairs_back (λ (a b : Operation). a.call < b.call) (x ∷ []) left (subst (AllPairs (λ (a b : Operation). a.call < b.call)) is
    (pairs_back (λ (a b : Operation). a.call < b.call) was.seen old (subst (AllPairs (λ (a b : Operation). a.call < b.call)) (sym was.parts) rise)))

-- one more operation has a return that may be the last
last_more : (seen : List Operation) (x : Operation) (last next : ℕ) → IsLastReturn seen last
    → (length seen ≡ 0 → last ≡ 0) → next ≡ max last x.ret
    → IsLastReturn (seen ++ x ∷ []) next
last_more seen x last next is none new = λ ticket.
    list_any-append (λ (o : Operation). nat_le ticket o.ret) seen (x ∷ []) ∙ ap (λ b. b || (nat_le ticket x.ret || false)) (is ticket)
    ∙ both ticket (length seen) (length (seen ++ x ∷ [])) none (length-append seen (x ∷ []))
  where
    both : (ticket n m : ℕ) → (n ≡ 0 → last ≡ 0) → m ≡ n + 1
        → ((nat_lt 0 n && nat_le ticket last) || (nat_le ticket x.ret || false)) ≡ (nat_lt 0 m && nat_le ticket next)
    both ticket zero m first size = let no = first refl in grind (arith, nat_tests)
    both ticket (suc n) m first size = grind (arith, nat_tests)

-- one more operation, which overlaps another one or doesn't, as those before it and after it show
pub counted_more : (all old left : List Operation) (x : Operation) (count last next count' : ℕ)
    (has_earlier told : Bool) → old ≡ x ∷ left
    → AllPairs (λ a b. a.call < b.call) all → All (λ o. o.call < o.ret) all → has_earlier ≡ nat_lt (length left + 1) (length all)
    → ((earlier : List Operation) → AllPairs (λ a b. a.call < b.call) (earlier ++ x ∷ left) → All (λ o. o.call < o.ret) (earlier ++ x ∷ left)
    → has_earlier ≡ nat_lt 0 (length earlier) → IsLastReturn earlier last → told ≡ list_any (overlap x) (earlier ++ x ∷ left))
    → count' ≡ count + cond told 1 0 → next ≡ max last x.ret → Counted all old count last → Counted all left count' next
counted_more all old left x count last next count' has_earlier told is rise forward has tells counts new was = record {
  seen = was.seen ++ x ∷ [];
  parts = append_assoc was.seen (x ∷ []) left ∙ whole;
  counted = omega (
    arith,
    counts,
    was.counted,
    sum_by-append (λ o. cond (list_any (overlap o) all) 1 0) was.seen (x ∷ []),
    ap {B = ℕ}
        (λ b. cond b 1 0) overlaps,
  );
  last = last_more was.seen x last next was.last was.none new;
  none = λ no. absurd (omega (arith, length-append was.seen (x ∷ []), no));
}
  where
    whole : was.seen ++ x ∷ left ≡ all
    whole = ap (λ (os : List Operation). was.seen ++ os) (sym is) ∙ was.parts

    some : nat_lt (length left + 1) (length all) ≡ nat_lt 0 (length was.seen)
    some = let long = length-append was.seen (x ∷ left) in let size : length (was.seen ++ x ∷ left) ≡ length all = ap length whole in grind (arith, nat_tests)

    overlaps : told ≡ list_any (overlap x) all
    overlaps = tells was.seen (subst (AllPairs (λ (a b : Operation). a.call < b.call)) (sym whole) rise)
        (subst (All (λ (o : Operation). o.call < o.ret)) (sym whole) forward) (has ∙ some) was.last ∙ ap (list_any (overlap x)) whole
