-- Structs that are events, one more at a time.
use Rattle.fifobench_c.proofs.Common.{[], ◌++◌, ◌+◌, ◌<◌, ◌∙◌, ◌∷◌, ◌≡◌, add-one, ap, arith, drop, get_or, length}
use Rattle.fifobench_c.proofs.Common.{List, map, None, Option, refl, slice_get, Some, subst, suc, sym, take, take-suc}
use Rattle.fifobench_c.proofs.Common.{zero, ℕ, Event, AreEvents, event_of, IsFirstUnknown}
use Rattle.std.proofs.Math.Seq.{take-length}
use Rattle.std.proofs.lemmas.List.{map-append, length-map}
use Rattle.fifobench_c.specs.declared.recorded.RecordedEvent.{RecordedEvent}
use Rattle.std.proofs.lemmas.Option.{slice_get_within}

-- there are as many events as structs
pub as_many : (structs : List RecordedEvent) (events : List Event) → AreEvents structs events
    → length events ≡ length structs
as_many structs events are =
    sym (length-map events (λ (e : Event). Some e)) ∙ ap (λ (l : List (Option Event)). length l) (sym are) ∙ length-map structs event_of

-- one more struct that is an event
pub one_more : (structs : List RecordedEvent) (i : ℕ) (here : RecordedEvent) (event : Event) (events : List Event)
    → i < length structs
    → here ≡ get_or structs i here → event_of here ≡ Some event → AreEvents (take i structs) events
    → AreEvents (take (i + 1) structs) (events ++ event ∷ [])
one_more structs i here event events inside is known are =
    ap (λ n. map event_of (take n structs)) (add-one i)
    ∙ ap (map event_of) (take-suc structs i here inside ∙ ap (λ z. take i structs ++ z ∷ []) (sym is))
    ∙ map-append event_of (take i structs) (here ∷ [])
    ∙ ap (λ l. l ++ event_of here ∷ []) are
    ∙ ap (λ o. map (λ (e : Event). Some e) events ++ o ∷ []) known
    ∙ sym (map-append (λ (e : Event). Some e) events (event ∷ []))

-- among structs that are events, none has an unknown kind
pub unknown_is_behind : (structs : List RecordedEvent) (n : ℕ) (events : List Event) (place : ℕ) (here : RecordedEvent)
    → AreEvents (take n structs) events → place < n → slice_get structs place ≡ Some here → event_of here ≡ None → ⊥
unknown_is_behind [] n events place here are before at unknown = cc
unknown_is_behind (s ∷ ss) zero events place here are before at unknown = omega (arith, before)
unknown_is_behind (s ∷ ss) (suc n) [] place here are before at unknown = cc
unknown_is_behind (s ∷ ss) (suc n) (e ∷ es) zero here are before at unknown = cc
unknown_is_behind (s ∷ ss) (suc n) (e ∷ es) (suc place) here are before at unknown =
    unknown_is_behind ss n es place here (ap (drop 1) are) (omega (arith, before)) at unknown

-- structs that are events have no unknown kind
pub none_unknown : (structs : List RecordedEvent) (events : List Event) → AreEvents structs events → (place : ℕ)
    → IsFirstUnknown structs place → ⊥
none_unknown structs events are place first =
    let all = subst (λ l. AreEvents l events) (sym (take-length structs)) are in
    unknown_is_behind structs (length structs) events place first.here all (slice_get_within structs place first.here first.at) first.at first.unknown

-- structs are only one list of events
pub one_list : (structs : List RecordedEvent) (xs ys : List Event) → AreEvents structs xs → AreEvents structs ys
    → xs ≡ ys
one_list structs xs ys are_x are_y = same_events xs ys (sym are_x ∙ are_y)
  where
    same_events : (xs ys : List Event) → map (λ (e : Event). Some e) xs ≡ map (λ (e : Event). Some e) ys → xs ≡ ys
    same_events [] [] same = refl
    same_events (x ∷ xs) (y ∷ ys) same = let tail : xs ≡ ys = same_events xs ys (cc) in cc
    same_events xs ys same = cc

-- only one struct is the first of unknown kind
pub one_first : (structs : List RecordedEvent) (i j : ℕ) → IsFirstUnknown structs i → IsFirstUnknown structs j → i ≡ j
one_first structs i j x y =
    let not_before : ¬ (i < j) = λ less. unknown_is_behind structs j y.before i x.here y.known less x.at x.unknown in
    let not_behind : ¬ (j < i) = λ less. unknown_is_behind structs i x.before j y.here x.known less y.at y.unknown in
    omega (arith, not_before, not_behind)
