-- Elements of lists: numbers without repetition, and lists whose tickets rise.
use Rattle.std.proofs.lemmas.Bool.{cases_eq}
use Rattle.std.proofs.Common.{◌≡◌, ℕ, zero, suc, ◌+◌, ◌<◌, List, [], ◌∷◌, get_or, Option, Some, None, refl, sym}
use Rattle.std.proofs.Common.{◌∙◌, ap, subst, inl, inr, arith, ◌≤◌}
use Rattle.std.specs.Prelude.{AllPairs, Contains, filter_map, slice_get, flat_map}
use Rattle.std.specs.List.{range_with_len, cons_option}
use Rattle.std.proofs.lemmas.List.Elements.{Contains-append_left, Contains-append_right, Contains-append_cases}
use Rattle.std.proofs.lemmas.List.Elements.{Contains-get_or}
use Rattle.event_records.specs.declared.event.Event.{Event}
use Rattle.event_records.specs.Turns.{TicketsRise}
use Rattle.history_merge.proofs.Distinct.{contains_cons, not_in_none}
use Rattle.history_merge.proofs.Lists.{contains_head, one_deeper, kept, AllPairs-tail, pairs_first}

-- ---- membership

-- a member of one of several lists is one of all
pub contains_joined : {X : Type 0} (lists : List (List X)) (t : ℕ) (list : List X) (x : X)
    → slice_get lists t ≡ Some list → Contains list x
    → Contains (flat_map (λ l. l) lists) x
contains_joined [] t list x at among = cc
contains_joined (l ∷ lists) zero list x at among = let same : l ≡ list = cc in Contains-append_left l (flat_map (λ l. l) lists) x (rw same among)
contains_joined (l ∷ lists) (suc t) list x at among = Contains-append_right l (flat_map (λ l. l) lists) x (contains_joined lists t list x at among)

-- a member of all lists joined is one of a list
pub joined_contains : {X : Type 0} (lists : List (List X)) (x : X) → Contains (flat_map (λ l. l) lists) x
    → (t : ℕ) × (list : List X) × (slice_get lists t ≡ Some list) × Contains list x
joined_contains [] x among = absurd (not_in_none x among)
joined_contains (l ∷ lists) x among = elim (Contains-append_cases l (flat_map (λ l. l) lists) x among) [
  | inl here ↦ (zero, l, refl, here)
  | inr there ↦ let more = joined_contains lists x there in (suc more.0, more.1, more.2, more.3)
]

-- ---- pairs

-- one more element in front
pub pairs_cons : {X : Type 0} (R : X → X → Type 0) (x : X) (xs : List X) → ((y : X) → Contains xs y → R x y)
    → AllPairs R xs → AllPairs R (x ∷ xs)
pairs_cons R x xs first more i zero d below within = absurd (omega arith)
pairs_cons R x xs first more zero (suc j) d below within = first (get_or xs j d) (Contains-get_or xs j d (omega arith))
pairs_cons R x xs first more (suc i) (suc j) d below within = more i j d (omega arith) (omega arith)

-- ---- lists whose tickets rise

-- the ticket of an event is below another's
abbrev pub Below : Event → Event → Type 0
Below e f = e.ticket < f.ticket

-- lists with rising tickets and the same events are equal
pub rising_unique : (xs ys : List Event) → TicketsRise xs → TicketsRise ys
    → ((e : Event) → Contains xs e → Contains ys e)
    → ((e : Event) → Contains ys e → Contains xs e) → xs ≡ ys
rising_unique [] [] up up' there back = refl
rising_unique [] (y ∷ ys) up up' there back = absurd (not_in_none y (back y (contains_head y ys)))
rising_unique (x ∷ xs) [] up up' there back = absurd (not_in_none x (there x (contains_head x xs)))
rising_unique (x ∷ xs) (y ∷ ys) up up' there back =
    ap (λ (l : List Event). x ∷ l) (rising_unique xs ys (AllPairs-tail Below x xs up) (AllPairs-tail Below y ys up') (one_on x y xs ys up same there)
    (one_on y x ys xs up' (sym same) back)) ∙ ap (λ (z : Event). z ∷ ys) same
  where
    same : x ≡ y
    same = elim (contains_cons y ys x (there x (contains_head x xs))) [
      | inl is ↦ sym is
      | inr later ↦ elim (contains_cons x xs y (back y (contains_head y ys))) [
        | inl is ↦ is
        | inr later' ↦
            let a = pairs_first Below y ys x up' later in
            let b = pairs_first Below x xs y up later' in
            absurd (omega (arith, a, b))
      ]
    ]

    one_on : (a b : Event) (more_a more_b : List Event) → TicketsRise (a ∷ more_a) → a ≡ b
        → ((e : Event) → Contains (a ∷ more_a) e → Contains (b ∷ more_b) e) → (e : Event) → Contains more_a e
        → Contains more_b e
    one_on a b more_a more_b rise is over e among = elim (contains_cons b more_b e (over e (one_deeper a more_a e among))) [
      | inl first ↦
          let less = pairs_first Below a more_a e rise among in
          let e1 : a.ticket ≡ e.ticket = ap (λ (z : Event). z.ticket) (is ∙ first) in
          absurd (omega (arith, less, e1))
      | inr later ↦ later
    ]

-- ---- filtered and mapped lists

-- a number of a range is below its end
pub contains_range : (a n v : ℕ) → Contains (range_with_len a n) v → v < a + n
contains_range a zero v among = absurd (not_in_none v among)
contains_range a (suc n) v among = elim (contains_cons a (range_with_len (a + 1) n) v among) [
  | inl same ↦ omega (arith, same)
  | inr later ↦ omega (arith, contains_range (a + 1) n v later)
]

-- a list without elements is empty
pub nil_from_none : {X : Type 0} (xs : List X) → ((x : X) → Contains xs x → ⊥) → xs ≡ []
nil_from_none [] none = refl
nil_from_none (x ∷ xs) none = absurd (none x (contains_head x xs))

-- a relation of all pairs of items holds, in another form, of what `filter_map` gives
pub pairs_filter_map : {X Y : Type 0} (R : X → X → Type 0) (S : Y → Y → Type 0) (h : X → Option Y) (xs : List X)
    → ((a b : X) (c d : Y) → Contains xs a → Contains xs b → R a b → h a ≡ Some c → h b ≡ Some d → S c d)
    → AllPairs R xs → AllPairs S (filter_map h xs)
pairs_filter_map R S h [] turn pairs = λ i j d below within. absurd (omega arith)
pairs_filter_map {X} {Y} R S h (x ∷ xs) turn pairs =
    by_head (h x) refl (pairs_filter_map R S h xs (λ a b c d in_a in_b. turn a b c d (one_deeper x xs a in_a) (one_deeper x xs b in_b))
    (AllPairs-tail R x xs pairs))
  where
    by_head : (o : Option Y) → h x ≡ o → AllPairs S (filter_map h xs) → AllPairs S (cons_option o (filter_map h xs))
    by_head None is more = more
    by_head (Some w) is more = pairs_cons S w (filter_map h xs)
        (λ y among.
        let m = kept h xs y among in
        turn x m.0 w y (contains_head x xs) (one_deeper x xs m.0 m.1) (pairs_first R x xs m.0 pairs m.1) is m.2) more

-- a number between the ends of a range is in it
pub in_range : (a n v : ℕ) → a ≤ v → v < a + n → Contains (range_with_len a n) v
in_range a zero v above below = absurd (omega arith)
in_range a (suc n) v above below = elim (cases_eq a v) [
  | inl same ↦ subst (λ (z : ℕ). Contains (a ∷ range_with_len (a + 1) n) z) same (contains_head a (range_with_len (a + 1) n))
  | inr other ↦ one_deeper a (range_with_len (a + 1) n) v (in_range (a + 1) n v (omega arith) (omega arith))
]
