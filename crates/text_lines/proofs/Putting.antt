-- Texts written to a sink in turn.
use Rattle.text_lines.proofs.Common.{or-true, ◌≡◌, ℕ, ◌+◌, ◌<◌, Bool, ◌||◌, List, [], ◌++◌, length, take, drop}
use Rattle.text_lines.proofs.Common.{get_or, Option, sym, ◌∙◌, ap, subst, append_assoc, Ok, Err, OnOk, Result}
use Rattle.text_lines.proofs.Common.{Appends, flat_map, Appends-trans, or-false, Asked, AppendsFront, TakesAll}
use Rattle.text_lines.proofs.Common.{IsWritten, IsRefused}
use Rattle.std.specs.Prelude.{OnErr, is_err}
use Rattle.std.specs.Result.{IsErrAnd}
use Rattle.text_lines.specs.Writing.{PutsText, TakesFront, TakesSome, Writes}
use Rattle.text_lines.proofs.Appending.{Puts-append, Puts-last, flat_map-more, flat_map-parts, front_after}
use Rattle.text_lines.proofs.Appending.{front_first, front_next, puts_all, puts_front}
use Rattle.text_lines.proofs.Asking.{refused_then, written_then}

module _ {S : Type 0} (contents : S → Option (List ℕ))
    (has_refused : S → Bool) (transition : S → Asked → S → Type 0) where
  abbrev All : List ℕ → S → S → Type 0
  All text old new = TakesAll contents has_refused transition text old new

  abbrev Front : List ℕ → S → S → Type 0
  Front text old new = TakesFront contents has_refused transition text old new

  abbrev Some : List ℕ → List ℕ → List ℕ → S → S → Type 0
  Some kept rest text old new = TakesSome contents has_refused transition kept rest text old new

  -- ---- a prefix of a text

  -- a prefix of a text is a prefix of a longer one
  pub longer_front : (xs ys : List ℕ) (a b : S) → Front xs a b → Front (xs ++ ys) a b
  longer_front xs ys a b h = record { bytes = front_first (contents a) (contents b) xs ys h.bytes; asked = h.asked; refused = h.refused }

  -- leaving by `?` after a call that wrote a prefix
  pub refused_text : {T E : Type 0} (Q : E → Type 0) (r : Result T E) (text : List ℕ) (a b : S) → IsErrAnd r Q
      → Front text a b
      → Writes contents has_refused transition text a b r
  refused_text Q (Ok x) text a b is h = absurd is
  refused_text Q (Err e) text a b is h = h

  -- ---- whole texts

  -- two texts are written in turn
  pub all_then : (xs ys : List ℕ) (a b c : S) → All xs a b → All ys b c → All (xs ++ ys) a c
  all_then xs ys a b c h k = record {
    bytes = Appends-trans (contents a) (contents b) (contents c) xs ys h.bytes k.bytes;
    asked = written_then transition a b c h.asked k.asked;
    refused = k.refused ∙ h.refused;
  }

  -- a text is written, and then a prefix of the next one
  pub front_then : (xs ys : List ℕ) (a b c : S) → All xs a b → Front ys b c → Front (xs ++ ys) a c
  front_then xs ys a b c h k = record {
    bytes = front_after (contents a) (contents b) (contents c) xs ys h.bytes k.bytes;
    asked = refused_then transition a b c h.asked k.asked;
    refused = k.refused;
  }

  -- a text is written, and then that of a call
  pub writes_then : {T E : Type 0} (r : Result T E) (xs ys : List ℕ) (a b c : S) → All xs a b
      → Writes contents has_refused transition ys b c r
      → Writes contents has_refused transition (xs ++ ys) a c r
  writes_then (Ok x) xs ys a b c h k = all_then xs ys a b c h k
  writes_then (Err e) xs ys a b c h k = front_then xs ys a b c h k

  -- ---- while bytes are held back

  -- a text is held back after the one before it
  pub some_kept : (kept mid rest xs ys : List ℕ) (a b : S) → rest ≡ mid ++ ys → Some kept mid xs a b
      → Some kept rest (xs ++ ys) a b
  some_kept kept mid rest xs ys a b is h = record {
    bytes = Puts-last (contents a) (contents b) kept mid rest xs ys is h.bytes;
    asked = h.asked;
    refused = h.refused;
  }

  -- two texts are written in turn
  pub some_then : (kept mid rest xs ys : List ℕ) (a b c : S) → Some kept mid xs a b → Some mid rest ys b c
      → Some kept rest (xs ++ ys) a c
  some_then kept mid rest xs ys a b c h k = record {
    bytes = Puts-append (contents a) (contents b) (contents c) kept mid rest xs ys h.bytes k.bytes;
    asked = written_then transition a b c h.asked k.asked;
    refused = k.refused ∙ h.refused;
  }

  -- a text is written, and then a prefix of the bytes held back and of the next text
  pub front_of_some : (kept mid xs ys : List ℕ) (a b c : S) → Some kept mid xs a b → Front (mid ++ ys) b c
      → Front (kept ++ (xs ++ ys)) a c
  front_of_some kept mid xs ys a b c h k = record {
    bytes = front_next (contents a) (contents b) (contents c) kept mid xs ys h.bytes k.bytes;
    asked = refused_then transition a b c h.asked k.asked;
    refused = k.refused;
  }

  -- a text is written, and then that of a call
  pub puts_then : {T E : Type 0} (r : Result T E) (kept mid rest xs ys : List ℕ) (a b c : S) → Some kept mid xs a b
      → PutsText contents has_refused transition mid rest ys b c r
      → PutsText contents has_refused transition kept rest (xs ++ ys) a c r
  puts_then (Ok x) kept mid rest xs ys a b c h k = some_then kept mid rest xs ys a b c h k
  puts_then (Err e) kept mid rest xs ys a b c h k = front_of_some kept mid xs ys a b c h k

  -- leaving by `?` after a call that wrote a prefix, when more was to come
  pub stops_before : {T E : Type 0} (Q : E → Type 0) (r : Result T E) (kept rest xs ys : List ℕ) (a b : S)
      → IsErrAnd r Q → Front (kept ++ xs) a b
      → PutsText contents has_refused transition kept rest (xs ++ ys) a b r
  stops_before Q (Ok x) kept rest xs ys a b is h = absurd is
  stops_before Q (Err e) kept rest xs ys a b is h =
      subst (λ (t : List ℕ). Front t a b) (append_assoc kept xs ys) (longer_front (kept ++ xs) ys a b h)

  -- a text is written, and then leaving by `?` after a call that wrote a prefix of the next one, when more was to
  -- come
  pub stops_inside : {T E : Type 0} (Q : E → Type 0) (r : Result T E) (kept mid rest xs ys zs : List ℕ) (a b c : S)
      → Some kept mid xs a b → IsErrAnd r Q
      → Front (mid ++ ys) b c → PutsText contents has_refused transition kept rest (xs ++ (ys ++ zs)) a c r
  stops_inside Q (Ok x) kept mid rest xs ys zs a b c h is k = absurd is
  stops_inside Q (Err e) kept mid rest xs ys zs a b c h is k = front_of_some kept mid xs (ys ++ zs) a b c h
      (subst (λ (t : List ℕ). Front t b c) (append_assoc mid ys zs) (longer_front (mid ++ ys) zs b c k))

  -- a text that begins with the bytes held back
  pub puts_after : {T E : Type 0} (r : Result T E) (kept rest front xs : List ℕ) (a b : S) → kept ≡ front
      → PutsText contents has_refused transition kept rest xs a b r
      → PutsText contents has_refused transition [] rest (front ++ xs) a b r
  puts_after (Ok x) kept rest front xs a b is h = record {
    bytes = record { out = h.bytes.out; whole = ap (λ (r : List ℕ). r ++ xs) (sym is) ∙ h.bytes.whole; written = h.bytes.written };
    asked = h.asked;
    refused = h.refused;
  }
  puts_after (Err e) kept rest front xs a b is h = subst (λ (r : List ℕ). Front (r ++ xs) a b) is h

  -- ---- the bytes held back are written last

  -- all bytes held back are written, or a prefix of them
  pub goes_out : {T E : Type 0} (r : Result T E) (kept text : List ℕ) (a b c : S) → Some [] kept text a b
      → Writes contents has_refused transition kept b c r → Writes contents has_refused transition text a c r
  goes_out (Ok x) kept text a b c h k = record {
    bytes = puts_all (contents a) (contents b) (contents c) kept text h.bytes k.bytes;
    asked = written_then transition a b c h.asked k.asked;
    refused = k.refused ∙ h.refused;
  }
  goes_out (Err e) kept text a b c h k = record {
    bytes = puts_front (contents a) (contents b) (contents c) kept text h.bytes k.bytes;
    asked = refused_then transition a b c h.asked k.asked;
    refused = k.refused;
  }

  -- ---- a text for each element of a list

  module _ {X : Type 0} (f : X → List ℕ) where
    -- one more text is held back or written
    pub one_more_put : (xs : List X) (i : ℕ) (d : X) (kept mid rest : List ℕ) (a b c : S) → i < length xs
        → Some kept mid (flat_map f (take i xs)) a b
        → Some mid rest (f (get_or xs i d)) b c → Some kept rest (flat_map f (take (i + 1) xs)) a c
    one_more_put xs i d kept mid rest a b c within before now = subst (λ (t : List ℕ). Some kept rest t a c) (sym (flat_map-more f xs i d within))
        (some_then kept mid rest _ _ a b c before now)

    -- some texts are held back or written, and then a prefix of the next one is written
    pub stops_at_next : {T E : Type 0} (Q : E → Type 0) (r : Result T E) (xs : List X) (i : ℕ) (d : X)
        (kept mid rest : List ℕ) (a b c : S) → i < length xs
        → Some kept mid (flat_map f (take i xs)) a b → IsErrAnd r Q → Front (mid ++ f (get_or xs i d)) b c
        → PutsText contents has_refused transition kept rest (flat_map f xs) a c r
    stops_at_next Q r xs i d kept mid rest a b c within before is now =
        subst (λ (t : List ℕ). PutsText contents has_refused transition kept rest t a c r) (flat_map-parts f xs (i + 1))
        (stops_before Q r kept rest (flat_map f (take (i + 1) xs)) (flat_map f (drop (i + 1) xs)) a c is
        (subst (λ (t : List ℕ). Front (kept ++ t) a c) (sym (flat_map-more f xs i d within)) (front_of_some kept mid _ _ a b c before now)))

    -- one more text is written
    pub one_more_written : (xs : List X) (i : ℕ) (d : X) (a b c : S) → i < length xs → All (flat_map f (take i xs)) a b
        → All (f (get_or xs i d)) b c
        → All (flat_map f (take (i + 1) xs)) a c
    one_more_written xs i d a b c within before now = subst (λ (t : List ℕ). All t a c) (sym (flat_map-more f xs i d within))
        (all_then _ _ a b c before now)

    -- some texts are written, and then a prefix of the next one
    pub stops_in_next : {T E : Type 0} (Q : E → Type 0) (r : Result T E) (xs : List X) (i : ℕ) (d : X) (a b c : S)
        → i < length xs
        → All (flat_map f (take i xs)) a b → IsErrAnd r Q → Front (f (get_or xs i d)) b c
        → Writes contents has_refused transition (flat_map f xs) a c r
    stops_in_next Q r xs i d a b c within before is now = refused_text Q r (flat_map f xs) a c is
        (subst (λ (t : List ℕ). Front t a c)
        (ap (λ (t : List ℕ). t ++ flat_map f (drop (i + 1) xs)) (sym (flat_map-more f xs i d within)) ∙ flat_map-parts f xs (i + 1))
        (longer_front _ (flat_map f (drop (i + 1) xs)) a c (front_then _ _ a b c before now)))

  -- ---- facts about the result alone

  pub bytes_if_ok : {T E : Type 0} (r : Result T E) (text : List ℕ) (a b : S)
      → Writes contents has_refused transition text a b r
      → OnOk r (Appends (contents a) (contents b) text)
  bytes_if_ok (Ok x) text a b h = h.bytes
  bytes_if_ok (Err e) text a b h = tt

  pub bytes_if_err : {T E : Type 0} (r : Result T E) (text : List ℕ) (a b : S)
      → Writes contents has_refused transition text a b r
      → OnErr r (AppendsFront (contents a) (contents b) text)
  bytes_if_err (Ok x) text a b h = tt
  bytes_if_err (Err e) text a b h = h.bytes

  pub asked_if_ok : {T E : Type 0} (r : Result T E) (text : List ℕ) (a b : S)
      → Writes contents has_refused transition text a b r
      → OnOk r (IsWritten transition a b)
  asked_if_ok (Ok x) text a b h = h.asked
  asked_if_ok (Err e) text a b h = tt

  pub asked_if_err : {T E : Type 0} (r : Result T E) (text : List ℕ) (a b : S)
      → Writes contents has_refused transition text a b r
      → OnErr r (IsRefused transition a b)
  asked_if_err (Ok x) text a b h = tt
  asked_if_err (Err e) text a b h = h.asked

  pub refused_if_err : {T E : Type 0} (r : Result T E) (text : List ℕ) (a b : S)
      → Writes contents has_refused transition text a b r
      → has_refused b ≡ (has_refused a || is_err r)
  refused_if_err (Ok x) text a b h = h.refused ∙ sym (or-false (has_refused a))
  refused_if_err (Err e) text a b h = h.refused ∙ sym (or-true (has_refused a))
