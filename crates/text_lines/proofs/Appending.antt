-- Bytes written in turn.
use Rattle.text_lines.proofs.Common.{take_rest, ◌≡◌, ℕ, ◌+◌, ◌-◌, ◌<◌, Bool, get_or, ◌∷◌, ◌||◌, ◌&&◌, not, List, []}
use Rattle.text_lines.proofs.Common.{◌++◌, length, take, drop, Option, append-nil, append_assoc, sym, ◌∙◌, ap, subst}
use Rattle.text_lines.proofs.Common.{inl, inr, Ok, Err, ◌==◌, OnOk, Result, Appends, Keeps, flat_map, Appends-trans}
use Rattle.text_lines.proofs.Common.{take-add, or-false, take-append-drop, eqb_tells, AppendsFront, append_known}
use Rattle.std.proofs.lemmas.Grind.{flat_map-append}
use Rattle.std.proofs.KnownBytes.{Appends-kept, Keeps-trans, append_known-moved}
use Rattle.std.proofs.lemmas.List.{take_more}
use Rattle.text_lines.specs.Writing.{Puts}

-- a fact that holds anyway holds if a call succeeded
pub on_ok : {T E : Type 0} (r : Result T E) (P : Type 0) → P → OnOk r P
on_ok (Ok x) P p = p
on_ok (Err e) P p = tt

-- ---- one piece, in several calls

stops : (piece : List ℕ) (done : ℕ) (a c : Option (List ℕ)) → Appends a c (take done piece) → AppendsFront a c piece
stops piece done a c h = record { front = take done piece; rest = drop done piece; whole = sym (take-append-drop done piece); written = h }

-- a write that took nothing leaves a prefix of the piece
pub stops_at_zero : (piece rest : List ℕ) (done n : ℕ) (a b c : Option (List ℕ)) → n ≡ 0
    → Appends a b (take done piece) → Appends b c (take n rest)
    → AppendsFront a c piece
stops_at_zero piece rest done n a b c none before now =
    let nothing : Appends b c [] = subst (λ (m : ℕ). Appends b c (take m rest)) none now in
    stops piece done a c (subst (Appends a c) (append-nil (take done piece)) (Appends-trans a b c _ _ before nothing))

-- a write that failed leaves a prefix of the piece
pub stops_at_failure : (piece : List ℕ) (done : ℕ) (a b c : Option (List ℕ)) → Appends a b (take done piece)
    → Keeps b c → AppendsFront a c piece
stops_at_failure piece done a b c before same = stops piece done a c (Appends-kept a b c _ before same)

-- a write that took some bytes leaves a longer front of the piece
pub goes_on : (piece : List ℕ) (done n : ℕ) (a b c : Option (List ℕ)) → Appends a b (take done piece)
    → Appends b c (take n (take (length piece - done) (drop done piece))) → Appends a c (take (done + n) piece)
goes_on piece done n a b c before now =
    subst (Appends a c) (ap (λ (r : List ℕ). take done piece ++ take n r) (take_rest piece done) ∙ sym (take-add done n piece)) (Appends-trans a b c _ _ before now)

-- a write that took some bytes doesn't refuse
pub no_refusal : (before after first : Bool) (n : ℕ) (piece : List ℕ)
    → after ≡ (before || ((n == 0) && not (length piece == 0))) → (n ≡ 0 → ⊥)
    → before ≡ first → after ≡ first
no_refusal before after first n piece e some same =
    elim (eqb_tells n 0) [
      | inl h ↦ absurd (some h.1)
      | inr h ↦ e ∙ ap (λ (b : Bool). before || (b && not (length piece == 0))) h.0 ∙ or-false before ∙ same
    ]

-- ---- a text in several pieces

-- a prefix of the first text is a prefix of both texts
pub front_first : (a b : Option (List ℕ)) (xs ys : List ℕ) → AppendsFront a b xs → AppendsFront a b (xs ++ ys)
front_first a b xs ys h = record {
  front = h.front;
  rest = h.rest ++ ys;
  whole = ap (λ (r : List ℕ). r ++ ys) h.whole ∙ append_assoc h.front h.rest ys;
  written = h.written;
}

-- a text is appended, and then a prefix of the next one
pub front_after : (a b c : Option (List ℕ)) (xs ys : List ℕ) → Appends a b xs → AppendsFront b c ys
    → AppendsFront a c (xs ++ ys)
front_after a b c xs ys h k = record {
  front = xs ++ k.front;
  rest = k.rest;
  whole = ap (λ (r : List ℕ). xs ++ r) k.whole ∙ sym (append_assoc xs k.front k.rest);
  written = Appends-trans a b c xs k.front h k.written;
}

-- two texts are written in turn
pub Puts-append : (a b c : Option (List ℕ)) (kept mid rest xs ys : List ℕ) → Puts a b kept mid xs
    → Puts b c mid rest ys → Puts a c kept rest (xs ++ ys)
Puts-append a b c kept mid rest xs ys h k = record {
  out = h.out ++ k.out;
  whole = sym (append_assoc kept xs ys) ∙ ap (λ (r : List ℕ). r ++ ys) h.whole ∙ append_assoc h.out mid ys ∙ ap (λ (r : List ℕ). h.out ++ r) k.whole
      ∙ sym (append_assoc h.out k.out rest);
  written = Appends-trans a b c h.out k.out h.written k.written;
}

-- the first text is written, and then a prefix of the bytes held back and of the second text
pub front_next : (a b c : Option (List ℕ)) (kept mid xs ys : List ℕ) → Puts a b kept mid xs
    → AppendsFront b c (mid ++ ys)
    → AppendsFront a c (kept ++ (xs ++ ys))
front_next a b c kept mid xs ys h k =
    let whole = sym (append_assoc h.out mid ys) ∙ ap (λ (r : List ℕ). r ++ ys) (sym h.whole) ∙ append_assoc kept xs ys in
    subst (AppendsFront a c) whole (front_after a b c h.out (mid ++ ys) h.written k)

-- ---- a text for each element of a list

module _ {X : Type 0} (f : X → List ℕ) where
  -- the texts of one more item are those of the items before it and its own
  pub flat_map-more : (xs : List X) (i : ℕ) (d : X) → i < length xs
      → flat_map f (take (i + 1) xs) ≡ flat_map f (take i xs) ++ f (get_or xs i d)
  flat_map-more xs i d within = ap (flat_map f) (take_more xs i d within) ∙ flat_map-append f (take i xs) (get_or xs i d ∷ [])
      ∙ ap (λ (r : List ℕ). flat_map f (take i xs) ++ r) (append-nil (f (get_or xs i d)))

  -- the texts of the first items and of the rest are those of all
  pub flat_map-parts : (xs : List X) (i : ℕ) → flat_map f (take i xs) ++ flat_map f (drop i xs) ≡ flat_map f xs
  flat_map-parts xs i = sym (flat_map-append f (take i xs) (drop i xs)) ∙ ap (flat_map f) (take-append-drop i xs)

-- ---- the beginning and the end of a text

-- more bytes are held back
pub Puts-last : (a b : Option (List ℕ)) (kept mid rest xs ys : List ℕ) → rest ≡ mid ++ ys → Puts a b kept mid xs
    → Puts a b kept rest (xs ++ ys)
Puts-last a b kept mid rest xs ys is h = record {
  out = h.out;
  whole = sym (append_assoc kept xs ys) ∙ ap (λ (r : List ℕ). r ++ ys) h.whole ∙ append_assoc h.out mid ys ∙ ap (λ (r : List ℕ). h.out ++ r) (sym is);
  written = h.written;
}

-- the bytes held back are written
pub puts_all : (a b c : Option (List ℕ)) (kept text : List ℕ) → Puts a b [] kept text → Appends b c kept
    → Appends a c text
puts_all a b c kept text h k = subst (Appends a c) (sym h.whole) (Appends-trans a b c h.out kept h.written k)

-- a prefix of the bytes held back is written
pub puts_front : (a b c : Option (List ℕ)) (kept text : List ℕ) → Puts a b [] kept text → AppendsFront b c kept
    → AppendsFront a c text
puts_front a b c kept text h k = subst (AppendsFront a c) (sym h.whole) (front_after a b c h.out kept h.written k)

-- ---- bytes that a sink holds back, and passes on in turn

module _ (first a b : Option (List ℕ)) (all kept : List ℕ) (at : ℕ)
    (known : Keeps (append_known first all) (append_known a (drop at kept))) where
  -- the inner sink took some of the bytes
  pub some_passed_on : (n : ℕ) → (drop n (drop at kept) ≡ drop (at + n) kept)
      → Appends a b (take n (take (length kept - at) (drop at kept)))
      → Keeps (append_known first all) (append_known b (drop (at + n) kept))
  some_passed_on n later now =
      let front : Appends a b (take n (drop at kept)) = subst (λ (t : List ℕ). Appends a b (take n t)) (take_rest kept at) now in
      let whole : drop at kept ≡ take n (drop at kept) ++ drop (at + n) kept =
      sym (take-append-drop n (drop at kept)) ∙ ap (λ (t : List ℕ). take n (drop at kept) ++ t) later in
      Keeps-trans _ _ _ known (append_known-moved a b (take n (drop at kept)) (drop (at + n) kept) (drop at kept) front whole)
