-- Elements of lists, properties of all their elements or pairs, and lists made from lists. Crates above cite these
-- lemmas too.
use Rattle.std.proofs.Common.{◌≡◌, ℕ, zero, suc, ◌+◌, ◌<◌, ◌≤◌, ◌⊎◌, inl, inr, Bool, true, List, [], ◌∷◌, ◌++◌, length}
use Rattle.std.proofs.Common.{get_or, take, map}
use Rattle.std.proofs.Common.{Option, Some, None, refl, ap, sym, subst, ◌∙◌, arith, length-append}
use Rattle.std.specs.Prelude.{All, AllPairs, Contains, filter, filter_map, flat_map, not, slice_get}
use Rattle.std.specs.List.{AllZip, cons_option}
use Rattle.std.specs.Option.{option_to_list}
use Rattle.std.proofs.lemmas.List.{append-nil, get_or-map, get_or_append_left, length-map, take_more}
use Rattle.std.proofs.lemmas.List.Elements.{All-append, All-contains, All-contains_itself, All-filter, All-map}
use Rattle.std.proofs.lemmas.List.Elements.{All-tail, All-weaker}
use Rattle.std.proofs.lemmas.List.Elements.{Contains-append_left, Contains-append_right, Contains-get_or}
use Rattle.std.proofs.lemmas.List.Elements.{filter-append, filter_map-append, filter_passes}
use Rattle.std.proofs.lemmas.List.Filters.{length-filter_both}
use Rattle.std.proofs.lemmas.List.Kept.{AllPairs-cons}
use Rattle.std.proofs.lemmas.Option.{slice_get-get_or}
use Rattle.history_merge.proofs.Distinct.{contains_cons, cut_at, not_in_none, pairs_at, place_of}

-- ---- places

-- each place of a list has its element
pub at_place : {X : Type 0} (xs : List X) (i : ℕ) → i < length xs → (x : X) × (slice_get xs i ≡ Some x)
at_place [] i within = absurd (omega arith)
at_place (x ∷ xs) i within = (_, slice_get-get_or (x ∷ xs) i x within)

-- a place within the first of two lists is one of the first
pub slice_get-append_left : {X : Type 0} (xs ys : List X) (i : ℕ) → i < length xs
    → slice_get (xs ++ ys) i ≡ slice_get xs i
slice_get-append_left [] ys i within = absurd (omega arith)
slice_get-append_left (x ∷ xs) ys zero within = refl
slice_get-append_left (x ∷ xs) ys (suc i) within = slice_get-append_left xs ys i (omega arith)

-- a place of a list with one more element is one of the list, or the last
pub with_one_more : {X : Type 0} (xs : List X) (x y : X) (k : ℕ) → slice_get (xs ++ x ∷ []) k ≡ Some y
    → (slice_get xs k ≡ Some y) ⊎ ((k ≡ length xs) × (x ≡ y))
with_one_more [] x y zero at = let same : x ≡ y = cc in inr (refl, same)
with_one_more [] x y (suc k) at = cc
with_one_more (z ∷ xs) x y zero at = inl at
with_one_more (z ∷ xs) x y (suc k) at = elim (with_one_more xs x y k at) [ inl before ↦ inl before | inr last ↦ inr (omega (arith, last.0), last.1) ]

-- ---- elements

-- a list contains its first element
pub contains_head : {X : Type 0} (x : X) (xs : List X) → Contains (x ∷ xs) x
contains_head x xs = (zero, omega arith, refl)

-- an element of a list is one of the list with one more first element
pub one_deeper : {X : Type 0} (x : X) (xs : List X) (y : X) → Contains xs y → Contains (x ∷ xs) y
one_deeper x xs y among = (suc among.0, omega (arith, among.1), among.2)

-- an element of what `filter_map` gives comes from one of the list
pub kept : {X Y : Type 0} (h : X → Option Y) (xs : List X) (y : Y) → Contains (filter_map h xs) y
    → (x : X) × Contains xs x × (h x ≡ Some y)
kept h [] y among = absurd (not_in_none y among)
kept {X} {Y} h (x ∷ xs) y among = pick (kept h xs y) (h x) refl among
  where
    pick : (Contains (filter_map h xs) y → (x' : X) × Contains xs x' × (h x' ≡ Some y)) → (o : Option Y) → h x ≡ o
        → Contains (cons_option o (filter_map h xs)) y → (x' : X) × Contains (x ∷ xs) x' × (h x' ≡ Some y)
    pick rest None same among' = let more = rest among' in (more.0, one_deeper x xs more.0 more.1, more.2)
    pick rest (Some z) same among' = elim (contains_cons z (filter_map h xs) y among') [
      | inl here ↦ (x, (zero, omega arith, refl), same ∙ ap (λ w. Some w) here)
      | inr there ↦ let more = rest there in (more.0, one_deeper x xs more.0 more.1, more.2)
    ]

-- the image of an element is in what `filter_map` gives
pub keeps : {X Y : Type 0} (h : X → Option Y) (xs : List X) (x : X) (y : Y) → Contains xs x → h x ≡ Some y
    → Contains (filter_map h xs) y
keeps h xs x y among same = let at = place_of xs x among in subst (λ all. Contains (filter_map h all) y) (sym (cut_at xs at.0 x at.1))
    (rw (filter_map-append, same) (Contains-append_right (filter_map h (take at.0 xs)) _ y (zero, omega arith, refl)))

-- `filter_map` gives no more elements than there are
pub some_of : {X Y : Type 0} (f : X → Option Y) (xs : List X) → length (filter_map f xs) ≤ length xs
some_of f [] = omega arith
some_of f (x ∷ xs) = grind (arith, some_of f xs)

-- an optional first element comes before the others
pub option_cons : {X : Type 0} (o : Option X) (xs : List X) → cons_option o xs ≡ option_to_list o ++ xs
option_cons None xs = refl
option_cons (Some x) xs = refl

-- an image in a mapped list comes from an element
pub mapped_from : {X Y : Type 0} (f : X → Y) (xs : List X) (y : Y) → Contains (map f xs) y
    → (x : X) × Contains xs x × (f x ≡ y)
mapped_from {X} f xs y among = All-contains (λ z. (x : X) × Contains xs x × (f x ≡ z)) (map f xs) y
    (All-map (λ z. (x : X) × Contains xs x × (f x ≡ z)) f xs
    (All-weaker (Contains xs) (λ z. (x : X) × Contains xs x × (f x ≡ f z)) (λ x here. (x, here, refl)) xs (All-contains_itself xs))) among

-- the image of an element is in the mapped list
pub mapped_to : {X Y : Type 0} (f : X → Y) (xs : List X) (x : X) → Contains xs x → Contains (map f xs) (f x)
mapped_to f xs x among = (among.0, rw (length-map xs f) among.1, get_or-map f xs among.0 x (f x) among.1 ∙ ap f among.2)

-- an element that passes a test is in the filtered list
pub passes_filter : {X : Type 0} (p : X → Bool) (xs : List X) (x : X) → p x ≡ true → Contains xs x
    → Contains (filter p xs) x
passes_filter p xs x is among = let at = place_of xs x among in subst (λ all. Contains (filter p all) x) (sym (cut_at xs at.0 x at.1))
    (rw (filter-append, is) (Contains-append_right (filter p (take at.0 xs)) _ x (zero, omega arith, refl)))

-- an element of the filtered list is in the list and passes
pub passed_filter : {X : Type 0} (p : X → Bool) (xs : List X) (x : X) → Contains (filter p xs) x
    → Contains xs x × (p x ≡ true)
passed_filter p xs x among = (
  All-contains (Contains xs) (filter p xs) x (All-filter p (Contains xs) xs (All-contains_itself xs)) among,
  All-contains (λ y. p y ≡ true) (filter p xs) x (filter_passes p xs) among,
)

-- an element of one part is in the flattened list
pub into_flat_map : {X Y : Type 0} (f : X → List Y) (xs : List X) (x : X) (y : Y) → Contains xs x → Contains (f x) y
    → Contains (flat_map f xs) y
into_flat_map f [] x y among at = absurd (not_in_none x among)
into_flat_map f (z ∷ xs) x y among at = elim (contains_cons z xs x among) [
  | inl same ↦ Contains-append_left (f z) (flat_map f xs) y (subst (λ w. Contains (f w) y) (sym same) at)
  | inr later ↦ Contains-append_right (f z) (flat_map f xs) y (into_flat_map f xs x y later at)
]

-- ---- properties of all elements

-- a property of each element is one of all
pub all_members : {X : Type 0} (P : X → Type 0) (xs : List X) → ((x : X) → Contains xs x → P x) → All P xs
all_members P xs each k d below = each (get_or xs k d) (Contains-get_or xs k d below)

-- a property of all elements of two lists holds of all of the first
pub All-left : {X : Type 0} (P : X → Type 0) (xs ys : List X) → All P (xs ++ ys) → All P xs
All-left P xs ys all k d below = subst P (get_or_append_left xs ys d k below) (all k d (omega (arith, below, length-append xs ys)))

-- a property of all elements of two lists holds of all of the second
pub All-right : {X : Type 0} (P : X → Type 0) (xs ys : List X) → All P (xs ++ ys) → All P ys
All-right P [] ys all = all
All-right P (x ∷ xs) ys all = All-right P xs ys (All-tail P x (xs ++ ys) all)

-- zipped lists with one more pair
pub one_more_zipped : {A B : Type 0} (R : A → B → Type 0) (xs : List A) (ys : List B) (x : A) (y : B) → AllZip R xs ys
    → R x y
    → AllZip R (xs ++ x ∷ []) (ys ++ y ∷ [])
one_more_zipped R [] [] x y zip is = (is, zip)
one_more_zipped R (z ∷ xs) (w ∷ ys) x y zip is = (zip.0, one_more_zipped R xs ys x y zip.1 is)
one_more_zipped _ _ _ _ _ zip _ = absurd zip

-- ---- pairs

-- a relation of all pairs holds of all pairs of the rest
pub AllPairs-tail : {X : Type 0} (R : X → X → Type 0) (x : X) (xs : List X) → AllPairs R (x ∷ xs) → AllPairs R xs
AllPairs-tail R x xs pairs i j d below within = pairs (suc i) (suc j) d (omega arith) (omega arith)

-- a relation of all pairs holds of the first element and each other
pub pairs_first : {X : Type 0} (R : X → X → Type 0) (x : X) (xs : List X) (y : X) → AllPairs R (x ∷ xs) → Contains xs y
    → R x y
pairs_first R x xs y pairs among = let at = place_of xs y among in pairs_at R (x ∷ xs) zero (suc at.0) x y pairs (omega arith) refl at.1

-- a relation of all pairs of two lists holds of all of the second
pub pairs_back : {X : Type 0} (R : X → X → Type 0) (xs ys : List X) → AllPairs R (xs ++ ys) → AllPairs R ys
pairs_back R [] ys pairs = pairs
pairs_back R (x ∷ xs) ys pairs = pairs_back R xs ys (AllPairs-tail R x (xs ++ ys) pairs)

-- a relation of all pairs of each of two lists, and of one element of each, holds of all pairs of both
pub pairs_append : {X : Type 0} (R : X → X → Type 0) (xs ys : List X) → AllPairs R xs → AllPairs R ys
    → ((x y : X) → Contains xs x → Contains ys y → R x y) → AllPairs R (xs ++ ys)
pairs_append R [] ys first second across = second
pairs_append R (x ∷ xs) ys first second across =
    AllPairs-cons R x (xs ++ ys)
    (All-append (R x) xs ys (all_members (R x) xs (λ y among. pairs_first R x xs y first among))
    (all_members (R x) ys (λ y among. across x y (contains_head x xs) among)))
    (pairs_append R xs ys (AllPairs-tail R x xs first) second (λ y z in_y in_z. across y z (one_deeper x xs y in_y) in_z))

-- a relation of the images of all pairs holds of all pairs of images
pub pairs_map : {X Y : Type 0} (R : Y → Y → Type 0) (f : X → Y) (xs : List X) → AllPairs (λ x y. R (f x) (f y)) xs
    → AllPairs R (map f xs)
pairs_map R f [] pairs = λ i j d below inside. absurd (omega arith)
pairs_map R f (x ∷ xs) pairs =
    AllPairs-cons R (f x) (map f xs) (All-map (R (f x)) f xs (λ k d inside. pairs zero (suc k) d (omega arith) (omega arith)))
    (pairs_map R f xs (AllPairs-tail (λ x y. R (f x) (f y)) x xs pairs))

-- ---- elements that `filter_map` gives

module _ {X Y : Type 0} (find : X → Option Y) (xs : List X) (i : ℕ) (d : X) (before : List Y) (within : i < length xs)
    (was : before ≡ filter_map find (take i xs)) where
  one_more : filter_map find (take (i + 1) xs) ≡ before ++ cons_option (find (get_or xs i d)) []
  one_more =
      ap (filter_map find) (take_more xs i d within) ∙ filter_map-append find (take i xs) (get_or xs i d ∷ [])
      ∙ ap (λ (ys : List Y). ys ++ cons_option (find (get_or xs i d)) []) (sym was)

  -- an element is found at the next place
  pub found_one : (y : Y) (now : List Y) → find (get_or xs i d) ≡ Some y → now ≡ before ++ y ∷ []
      → now ≡ filter_map find (take (i + 1) xs)
  found_one y now is pushed = pushed ∙ sym (one_more ∙ ap (λ (r : Option Y). before ++ cons_option r []) is)

  -- no element is found at the next place
  pub found_none : find (get_or xs i d) ≡ None → before ≡ filter_map find (take (i + 1) xs)
  found_none is = sym (one_more ∙ ap (λ (r : Option Y). before ++ cons_option r []) is ∙ append-nil before)

-- ---- filtered lists

-- a filtered list is no longer than the list
pub no_longer : {X : Type 0} (p : X → Bool) (xs : List X) → length (filter p xs) ≤ length xs
no_longer p xs = let parts = length-filter_both p (λ x. not (p x)) (λ x. refl) xs in omega arith
