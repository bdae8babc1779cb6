-- Each step keeps the log.
use Rattle.std.proofs.Common.{◌≡◌, ◌≢◌, ℕ, zero, suc, ◌+◌, ◌<◌, ◌≤◌, List, [], ◌∷◌, ◌++◌, length, set, All, sum_by, flat_map}
use Rattle.std.proofs.Common.{IsPermutation, refl, sym, ap, ◌∙◌, subst, arith, append_assoc}
use Rattle.std.specs.Prelude.{Option, Some, None}
use mathlib.Core.Option.{some, some-injective, some-ne-none}
use lib.ListN.{get_elem?}
use Rattle.std.proofs.lemmas.List.{append-nil}
use Rattle.std.proofs.lemmas.List.Concat.{flat_map-append}
use Rattle.std.proofs.lemmas.List.Elements.{All-nil, All-cons, All-head, All-tail, All-get_or, All-set, All-push}
use Rattle.std.proofs.lemmas.List.Sums.{sum_by-cons, sum_by_push, sum_by-set, get_or-le-sum_by}
use Rattle.std.proofs.lemmas.List.Sorted.{IsPermutation-sym, IsPermutation-trans}
use Rattle.std.proofs.lemmas.List.Sorted.{IsPermutation-middle, IsPermutation-to_front, IsPermutation-cons, length_permutation, All-permutation}
use Rattle.atomic_table.proofs.Lists.{set_else}
use Rattle.tickets.specs.declared.account.Holding.{Holding}
use Rattle.tickets.specs.declared.note.Effect.{Effect}
use Rattle.tickets.specs.declared.note.Note.{Note}
use Rattle.tickets.specs.Log.{note_at, LooksRise, Knows, knowers, IsLogged}
use Rattle.tickets.specs.Inner.Account.{holding, logging, known_log, knows_log, without_log, with_log, either_log, noting, put_together, merged}
use Rattle.tickets.proofs.Apart.{place_in, one_apart, two_apart}

nothing : {X : Type 0} (xs : List X) → length xs ≡ 0 → xs ≡ []
nothing [] e = refl
nothing (x ∷ xs) e = absurd (omega arith)

-- what holds of all of two lists holds of all of the first
all_left : {X : Type 0} (P : X → Type 0) (xs ys : List X) → All P (xs ++ ys) → All P xs
all_left P [] ys h = All-nil P
all_left P (x ∷ xs) ys h = All-cons P x xs (All-head P x (xs ++ ys) h) (all_left P xs ys (All-tail P x (xs ++ ys) h))

-- the notes of a pass
abbrev pub noted_of : Holding → List Note
noted_of h = h.noted

abbrev knowers_of : Holding → ℕ
knowers_of h = knowers h.log

abbrev IsIdle : Holding → Type 0
IsIdle h = h.drawn ≡ [] → h.noted ≡ []

-- ---- looks

-- if the looks rise to a ticket, they rise to each later one
looks_later : (from : ℕ) (log : List Note) (next more : ℕ) → next ≤ more → LooksRise from log next → LooksRise from log more
looks_later from [] next more h r = omega arith
looks_later from (n ∷ ns) next more h r = (r.0, r.1, looks_later n.look ns next more h r.2)

-- a note at the next ticket can be appended
looks_push : (from : ℕ) (log : List Note) (next call : ℕ) (effect : Effect) → call < next → LooksRise from log next
    → LooksRise from (log ++ note_at call effect next ∷ []) next
looks_push from [] next call effect h r = (h, r, omega arith)
looks_push from (n ∷ ns) next call effect h r = (r.0, r.1, looks_push n.look ns next call effect h r.2)

from_below : (from : ℕ) (log : List Note) (next : ℕ) → LooksRise from log next → from ≤ next
from_below from [] next r = r
from_below from (n ∷ ns) next r = let rest = from_below n.look ns next r.2 in let low = r.1 in omega arith

-- no look is above the next ticket
pub looks_within : (from : ℕ) (log : List Note) (next : ℕ) → LooksRise from log next → All (λ n. n.look ≤ next) log
looks_within from [] next r = All-nil (λ (n : Note). n.look ≤ next)
looks_within from (n ∷ ns) next r = All-cons (λ (n : Note). n.look ≤ next) n ns (from_below n.look ns next r.2) (looks_within n.look ns next r.2)

-- ---- who knows the log

knows_none : (log : List Note) (k : Option (List Note)) → knowers k ≡ 0 → Knows log k
knows_none log None e = tt
knows_none log (Some l) e = absurd (omega arith)

none_know : (log : List Note) (views : List Holding) → sum_by knowers_of views ≡ 0 → All (λ h. Knows log h.log) views
none_know log [] e = All-nil (λ (h : Holding). Knows log h.log)
none_know log (x ∷ xs) e = let split = sum_by-cons knowers_of x xs in
    All-cons (λ (h : Holding). Knows log h.log) x xs (knows_none log x.log (omega arith)) (none_know log xs (omega arith))

-- if the pass at i knows the log, no other does, so the log may become any that this pass then knows
one_knows : (log : List Note) (views : List Holding) (i : ℕ) (v w : Holding) → sum_by knowers_of views ≤ 1 → get_elem? views i ≡ some v
    → knowers v.log ≡ 1 → Knows log w.log → All (λ h. Knows log h.log) (set views i w)
one_knows log [] i v w one at knows k = absurd (some-ne-none v (sym at))
one_knows log (x ∷ xs) zero v w one at knows k =
    let split = sum_by-cons knowers_of x xs in
    let is = ap knowers_of (some-injective x v at) in
    All-cons (λ (h : Holding). Knows log h.log) w xs k (none_know log xs (omega arith))
one_knows log (x ∷ xs) (suc i) v w one at knows k =
    let split = sum_by-cons knowers_of x xs in
    let p = place_in xs i v at in
    let within = get_or-le-sum_by knowers_of xs i v p.0 in
    let is = ap knowers_of (p.1 v) in
    All-cons (λ (h : Holding). Knows log h.log) x (set xs i w) (knows_none log x.log (omega arith)) (one_knows log xs i v w (omega arith) at knows k)

knowers-set : (views : List Holding) (i : ℕ) (v w : Holding) → get_elem? views i ≡ some v
    → sum_by knowers_of (set views i w) + knowers v.log ≡ sum_by knowers_of views + knowers w.log
knowers-set views i v w at = let p = place_in views i v at in
    subst (λ (h : Holding). sum_by knowers_of (set views i w) + knowers h.log ≡ sum_by knowers_of views + knowers w.log) (p.1 v)
    (sum_by-set knowers_of views i w v p.0)

pub at_place : (P : Holding → Type 0) (views : List Holding) (i : ℕ) (v : Holding) → get_elem? views i ≡ some v → All P views → P v
at_place P views i v at all = let p = place_in views i v at in subst P (p.1 v) (All-get_or P views i v p.0 all)

-- the log that a pass knows is the log
pub known_is : (log : List Note) (h : Holding) → knows_log h → Knows log h.log → known_log h.log ≡ log
known_is log h knows k = subst (λ (o : Option (List Note)). Knows log o → known_log h.log ≡ log) (sym knows) (λ e. e) k

knower : (h : Holding) → knows_log h → knowers h.log ≡ 1
knower h knows = ap knowers knows

-- ---- whose notes the log holds

-- a pass adds a note, and so does the log
once_more : (whole : List Note) (views : List Holding) (i : ℕ) (v w : Holding) (note : Note) → IsPermutation (flat_map noted_of views) whole
    → get_elem? views i ≡ some v → w.noted ≡ v.noted ++ note ∷ [] → IsPermutation (flat_map noted_of (set views i w)) (whole ++ note ∷ [])
once_more whole views i v w note once at noted =
    let apart = one_apart noted_of views i v at in
    let all = flat_map noted_of views in
    let after = flat_map noted_of (set views i w) in
    let now = subst (λ (ns : List Note). IsPermutation after (ns ++ apart.others)) noted (apart.after w) in
    let moved = subst (IsPermutation after) (append_assoc v.noted (note ∷ []) apart.others) now in
    let first = IsPermutation-trans after (v.noted ++ note ∷ apart.others) (note ∷ (v.noted ++ apart.others)) moved (IsPermutation-middle v.noted note apart.others) in
    let old = IsPermutation-trans (v.noted ++ apart.others) all whole (IsPermutation-sym all (v.noted ++ apart.others) apart.before) once in
    let second = IsPermutation-trans after (note ∷ (v.noted ++ apart.others)) (note ∷ whole) first (IsPermutation-cons note (v.noted ++ apart.others) whole old) in
    IsPermutation-trans after (note ∷ whole) (whole ++ note ∷ []) second (IsPermutation-sym (whole ++ note ∷ []) (note ∷ whole) (IsPermutation-to_front whole note))

-- a pass takes the notes of another, which is left with none
once_joined : (whole : List Note) (views : List Holding) (i j : ℕ) (v w m : Holding) → IsPermutation (flat_map noted_of views) whole
    → get_elem? views i ≡ some v → get_elem? views j ≡ some w → j ≢ i → m.noted ≡ v.noted ++ w.noted
    → IsPermutation (flat_map noted_of (set (set views i m) j (holding 0 [] []))) whole
once_joined whole views i j v w m once at there apart noted =
    let spent = holding 0 [] [] in
    let after = flat_map noted_of (set (set views i m) j spent) in
    let two = two_apart noted_of views i j v w at there apart in
    let all = flat_map noted_of views in
    let parts = subst (λ (ns : List Note). IsPermutation after (ns ++ two.others)) noted (two.after m spent) in
    let joined = subst (IsPermutation after) (append_assoc v.noted w.noted two.others) parts in
    IsPermutation-trans after all whole
    (IsPermutation-trans after (v.noted ++ (w.noted ++ two.others)) all joined
    (IsPermutation-sym all (v.noted ++ (w.noted ++ two.others)) two.before)) once

-- ---- the steps

-- the next ticket grows, or a pass changes and keeps its notes
pub logged_same : (next more : ℕ) (whole : List Note) (views : List Holding) (i : ℕ) (v w : Holding)
    → next ≤ more → IsLogged next whole views → get_elem? views i ≡ some v
    → w.noted ≡ v.noted → w.log ≡ v.log → (w.drawn ≡ [] → v.drawn ≡ []) → IsLogged more whole (set views i w)
logged_same next more whole views i v w later l at noted log drawn =
    let apart = one_apart noted_of views i v at in
    let all = flat_map noted_of views in
    let after = flat_map noted_of (set views i w) in
    let same : IsPermutation after (v.noted ++ apart.others) = subst (λ (ns : List Note). IsPermutation after (ns ++ apart.others)) noted (apart.after w) in
    let sums = knowers-set views i v w at in
    let ones = ap knowers log in
    let one = l.one in
    record {
      once = IsPermutation-trans after all whole
          (IsPermutation-trans after (v.noted ++ apart.others) all same (IsPermutation-sym all (v.noted ++ apart.others) apart.before)) l.once;
      known = All-set (λ (h : Holding). Knows whole h.log) views i w
          (subst (Knows whole) (sym log) (at_place (λ h. Knows whole h.log) views i v at l.known)) l.known;
      one = omega arith;
      idle = All-set IsIdle views i w (λ e. noted ∙ at_place IsIdle views i v at l.idle (drawn e)) l.idle;
      rise = looks_later 0 whole next more later l.rise;
    }

-- one more pass without notes, which does not know the log
pub logged_push : (next : ℕ) (whole : List Note) (views : List Holding) (new : Holding) → IsLogged next whole views → new.noted ≡ []
    → new.log ≡ None → IsLogged next whole (views ++ new ∷ [])
logged_push next whole views new l noted none =
    let longer : flat_map noted_of views ≡ flat_map noted_of (views ++ new ∷ []) =
    sym (flat_map-append noted_of views (new ∷ []) ∙ ap (λ (ns : List Note). flat_map noted_of views ++ (ns ++ [])) noted ∙ append-nil (flat_map noted_of views)) in
    let pushed = sum_by_push knowers_of views new in
    let zero_is = ap knowers none in
    let one = l.one in
    record {
      once = subst (λ (ns : List Note). IsPermutation ns whole) longer l.once;
      known = All-push (λ (h : Holding). Knows whole h.log) views new l.known (subst (Knows whole) (sym none) tt);
      one = omega arith;
      idle = All-push IsIdle views new l.idle (λ _. noted);
      rise = l.rise;
    }

-- a pass gives the log to a seat of its own
pub logged_lent : (next : ℕ) (whole : List Note) (views : List Holding) (i : ℕ) (v : Holding) → IsLogged next whole views → get_elem? views i ≡ some v → knows_log v
    → IsLogged next whole (set views i (without_log v) ++ logging (known_log v.log) ∷ [])
logged_lent next whole views i v l at knows =
    let w = without_log v in
    let new = logging (known_log v.log) in
    let set_views = set views i w in
    let apart = one_apart noted_of views i v at in
    let all = flat_map noted_of views in
    let longer : flat_map noted_of set_views ≡ flat_map noted_of (set_views ++ new ∷ []) =
    sym (flat_map-append noted_of set_views (new ∷ []) ∙ append-nil (flat_map noted_of set_views)) in
    let same = IsPermutation-trans (flat_map noted_of set_views) all whole
    (IsPermutation-trans (flat_map noted_of set_views) (v.noted ++ apart.others) all (apart.after w) (IsPermutation-sym all (v.noted ++ apart.others) apart.before)) l.once in
    let pushed = sum_by_push knowers_of set_views new in
    let sums = knowers-set views i v w at in
    let mine = knower v knows in
    let one = l.one in
    record {
      once = subst (λ (ns : List Note). IsPermutation ns whole) longer same;
      known = All-push (λ (h : Holding). Knows whole h.log) set_views new (one_knows whole views i v w l.one at mine tt)
          (known_is whole v knows (at_place (λ h. Knows whole h.log) views i v at l.known));
      one = omega arith;
      idle = All-push IsIdle set_views new (All-set IsIdle views i w (at_place IsIdle views i v at l.idle) l.idle) (λ _. refl);
      rise = l.rise;
    }

-- a pass takes the log of a seat that holds nothing else
pub logged_taken : (next : ℕ) (whole : List Note) (views : List Holding) (i j : ℕ) (v : Holding) (log : List Note)
    → IsLogged next whole views → get_elem? views i ≡ some v
    → get_elem? views j ≡ some (logging log) → j ≢ i → v.log ≡ None
    → IsLogged next whole (set (set views i (with_log v (logging log))) j (holding 0 [] []))
logged_taken next whole views i j v log l at there apart none =
    let w = logging log in
    let m = with_log v w in
    let spent = holding 0 [] [] in
    let first = knowers-set views i v m at in
    let second = knowers-set (set views i m) j w spent (set_else views i j m apart ∙ there) in
    let zero_is = ap knowers none in
    let one = l.one in
    let theirs : log ≡ whole = at_place (λ h. Knows whole h.log) views j w there l.known in
    record {
      once = once_joined whole views i j v w m l.once at there apart (sym (append-nil v.noted));
      known = All-set (λ (h : Holding). Knows whole h.log) (set views i m) j spent tt (All-set (λ (h : Holding). Knows whole h.log) views i m theirs l.known);
      one = omega arith;
      idle = All-set IsIdle (set views i m) j spent (λ _. refl) (All-set IsIdle views i m (at_place IsIdle views i v at l.idle) l.idle);
      rise = l.rise;
    }

-- a pass is joined to another
pub logged_joined : (next : ℕ) (whole : List Note) (views : List Holding) (i j : ℕ) (v w : Holding) → IsLogged next whole views → get_elem? views i ≡ some v
    → get_elem? views j ≡ some w → j ≢ i → v.log ≡ None → w.log ≡ None → (merged v.drawn w.drawn ≡ [] → (v.drawn ≡ []) × (w.drawn ≡ []))
    → IsLogged next whole (set (set views i (put_together v w)) j (holding 0 [] []))
logged_joined next whole views i j v w l at there apart none none' empty =
    let m = put_together v w in
    let spent = holding 0 [] [] in
    let first = knowers-set views i v m at in
    let second = knowers-set (set views i m) j w spent (set_else views i j m apart ∙ there) in
    let zero_is = ap knowers none in
    let zero_too = ap knowers none' in
    let both : either_log v.log w.log ≡ None = ap (λ (o : Option (List Note)). either_log o w.log) none ∙ none' in
    let zero_both = ap knowers both in
    let one = l.one in
    record {
      once = once_joined whole views i j v w m l.once at there apart refl;
      known = All-set (λ (h : Holding). Knows whole h.log) (set views i m) j spent tt
          (All-set (λ (h : Holding). Knows whole h.log) views i m (subst (Knows whole) (sym both) tt) l.known);
      one = omega arith;
      idle = All-set IsIdle (set views i m) j spent (λ _. refl)
          (All-set IsIdle views i m
          (λ e. let parts_empty = empty e in (λ k. at_place IsIdle views i v at l.idle parts_empty.0 k ++ at_place IsIdle views j w there l.idle parts_empty.1 k)) l.idle);
      rise = l.rise;
    }

-- the pass that knows the log adds a note
pub logged_noted : (next : ℕ) (whole : List Note) (views : List Holding) (i : ℕ) (v : Holding) (call : ℕ) (effect : Effect)
    → IsLogged next whole views → get_elem? views i ≡ some v
    → knows_log v → v.drawn ≢ [] → call < next → IsLogged next (whole ++ note_at call effect next ∷ []) (set views i (noting call effect next v))
logged_noted next whole views i v call effect l at knows drew above =
    let w = noting call effect next v in
    let note = note_at call effect next in
    let sums = knowers-set views i v w at in
    let mine = knower v knows in
    let one = l.one in
    let is = known_is whole v knows (at_place (λ h. Knows whole h.log) views i v at l.known) in
    record {
      once = once_more whole views i v w note l.once at refl;
      known = one_knows (whole ++ note ∷ []) views i v w l.one at mine (ap (λ (ns : List Note). ns ++ note ∷ []) is);
      one = omega arith;
      idle = All-set IsIdle views i w (λ e. absurd (drew e)) l.idle;
      rise = looks_push 0 whole next call effect above l.rise;
    }

-- no look of a pass's notes is above the next ticket
pub noted_within : (next : ℕ) (whole : List Note) (views : List Holding) (i : ℕ) (v : Holding) → IsLogged next whole views → get_elem? views i ≡ some v
    → All (λ n. n.look ≤ next) v.noted
noted_within next whole views i v l at =
    let apart = one_apart noted_of views i v at in
    let all = flat_map noted_of views in
    let P : Note → Type 0 = λ n. n.look ≤ next in
    all_left P v.noted apart.others (All-permutation P whole (v.noted ++ apart.others)
    (IsPermutation-trans whole all (v.noted ++ apart.others) (IsPermutation-sym all whole l.once) apart.before) (looks_within 0 whole next l.rise))

-- if no pass knows the log, any pass may add a note
pub logged_more : (next : ℕ) (whole : List Note) (views : List Holding) (i : ℕ) (v w : Holding) (call : ℕ) (effect : Effect)
    → IsLogged next whole views → get_elem? views i ≡ some v
    → sum_by knowers_of views ≡ 0 → w.noted ≡ v.noted ++ note_at call effect next ∷ [] → w.log ≡ v.log → w.drawn ≡ v.drawn → v.drawn ≢ []
    → call < next → IsLogged next (whole ++ note_at call effect next ∷ []) (set views i w)
logged_more next whole views i v w call effect l at unknown noted same_log same_drawn drew above =
    let note = note_at call effect next in
    let sums = knowers-set views i v w at in
    let theirs = ap knowers same_log in
    let one = l.one in
    record {
      once = once_more whole views i v w note l.once at noted;
      known = none_know (whole ++ note ∷ []) (set views i w) (omega arith);
      one = omega arith;
      idle = All-set IsIdle views i w (λ e. absurd (drew (sym same_drawn ∙ e))) l.idle;
      rise = looks_push 0 whole next call effect above l.rise;
    }

none_noted : (hs : List Holding) → All (λ h. h.drawn ≡ []) hs → All IsIdle hs → flat_map noted_of hs ≡ []
none_noted [] _ _ = refl
none_noted (h ∷ hs) none idle_all = λ k.
    (All-head IsIdle h hs idle_all (All-head (λ (g : Holding). g.drawn ≡ []) h hs none) k)
    ++ none_noted hs (All-tail (λ (g : Holding). g.drawn ≡ []) h hs none) (All-tail IsIdle h hs idle_all) k

-- if all others have drawn nothing, the notes of a pass are the whole log
pub logged_all : (next : ℕ) (whole : List Note) (views : List Holding) (i : ℕ) (v : Holding) (l : IsLogged next whole views) → get_elem? views i ≡ some v
    → All (λ h. h.drawn ≡ []) (set views i (holding 0 [] [])) → IsPermutation v.noted whole
logged_all next whole views i v l at idle =
    let none = holding 0 [] [] in
    let apart = one_apart noted_of views i v at in
    let all = flat_map noted_of views in
    let nothing_else : flat_map noted_of (set views i none) ≡ [] =
    none_noted (set views i none) idle (All-set IsIdle views i none (λ _. refl) l.idle) in
    let long = length_permutation (flat_map noted_of (set views i none)) apart.others (apart.after none) in
    let zero_long = ap length nothing_else in
    let empty = nothing apart.others (omega arith) in
    let alone = subst (λ (ns : List Note). IsPermutation all ns) (ap (λ (ns : List Note). v.noted ++ ns) empty ∙ append-nil v.noted) apart.before in
    IsPermutation-trans v.noted all whole (IsPermutation-sym all v.noted alone) l.once

-- if all others have drawn nothing, the notes of the pass that knows the log are all that it knows
pub logged_whole : (next : ℕ) (whole : List Note) (views : List Holding) (i : ℕ) (v : Holding) (l : IsLogged next whole views) → get_elem? views i ≡ some v → knows_log v
    → All (λ h. h.drawn ≡ []) (set views i (holding 0 [] [])) → IsPermutation v.noted (known_log v.log) × LooksRise 0 (known_log v.log) next
logged_whole next whole views i v l at knows idle =
    let is = known_is whole v knows (at_place (λ h. Knows whole h.log) views i v at l.known) in (
      subst (IsPermutation v.noted) (sym is) (logged_all next whole views i v l at idle),
      subst (λ (ns : List Note). LooksRise 0 ns next) (sym is) l.rise,
    )
