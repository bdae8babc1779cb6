-- The places of operations by producer.
use Rattle.std.proofs.Common.{◌≡◌, ℕ, zero, suc, ◌+◌, ◌<◌, ◌++◌, inl, inr, Bool, true, false, cond, List, []}
use Rattle.std.proofs.Common.{◌∷◌, length, get_or, set, take, Some, None, refl, ap, sym, subst, ◌∙◌, arith}
use Rattle.std.specs.Prelude.{filter, replicate, slice_get}
use Rattle.std.proofs.lemmas.Bool.{cases_Bool}
use Rattle.std.proofs.lemmas.List.{append-nil}
use Rattle.std.proofs.lemmas.Option.{get_or_from_slice_get, slice_get-get_or, slice_get_within}
use Rattle.history_merge.specs.declared.operation.Operation.{Operation}
use Rattle.history_merge.specs.Initial.{Contents}
use Rattle.history_merge.specs.Legal.{ArePlacesOf}
use Rattle.value_match.proofs.Lists.{one_more}
use Rattle.conditions.specs.declared.producer.Emptiness.{Emptiness}
use Rattle.conditions.specs.declared.sharing.Share.{Share}
use Rattle.conditions.specs.Inner.Producers.{goes_to, share_of}
use Rattle.conditions.specs.Inner.Sharing.{AreMarked, HasSharedOut, IsSharedOut, ranked}
use Rattle.conditions.proofs.Parts.{past_end, places_more, places_same}

none_marked : (n t : ℕ) → get_or (replicate n false) t false ≡ false
none_marked zero t = refl
none_marked (suc n) zero = refl
none_marked (suc n) (suc t) = none_marked n t

-- no thread is marked at first
pub marks_begin : AreMarked [] (set (replicate 65 false) 0 true)
marks_begin = record { one_each = refl; initial = refl; threads = λ t below. none_marked 64 t }

-- there is an operation at each place of a list
pub nothing_past : (operations : List Operation) (i : ℕ) → i < length operations → ¬ (slice_get operations i ≡ None)
nothing_past operations i below none = let some = slice_get-get_or operations i past_end below in cc

pub marks_further : (operations : List Operation) (i : ℕ) (o : Operation) (used : List Bool)
    → slice_get operations i ≡ Some o
    → AreMarked (take i operations ++ o ∷ []) used → AreMarked (take (i + 1) operations) used
marks_further operations i o used at marked =
    subst (λ os. AreMarked os used) (sym (one_more operations i o (slice_get_within operations i o at) (sym (get_or_from_slice_get operations i o o at)))) marked

-- ---- one more operation is shared out

bucket_more : (test : Operation → Bool) (operations : List Operation) (i : ℕ) (o : Operation) (before now : List ℕ)
    → slice_get operations i ≡ Some o
    → now ≡ before ++ cond (test o) (i ∷ []) [] → ArePlacesOf operations before (filter test (take i operations))
    → ArePlacesOf operations now (filter test (take (i + 1) operations))
bucket_more test operations i o before now at is are = elim (cases_Bool (test o)) [
  | inl passes ↦ places_more test operations i o at before now passes (is ∙ ap (λ b. before ++ cond b (i ∷ []) []) passes) are
  | inr fails ↦
      let same : now ≡ before = is ∙ ap (λ b. before ++ cond b (i ∷ []) []) fails ∙ append-nil before in
      subst (λ ps. ArePlacesOf operations ps (filter test (take (i + 1) operations))) (sym same) (places_same test operations i o at before fails are)
]

pub shared_further : (whole : Contents) (i place : ℕ) (o : Operation) (share : Share) (used : List Bool)
    (emptiness : Emptiness) (before after : List (List ℕ)) → slice_get whole.operations i ≡ Some o → place ≡ i
    → share ≡ share_of whole emptiness o.kind → IsSharedOut share used place before after
    → HasSharedOut whole i used emptiness before → HasSharedOut whole (i + 1) used emptiness after
shared_further whole i place o share used emptiness before after at here known shared has = (
  shared.one_each ∙ has.0,
  λ k below in_use.
      let more = shared.each k (omega (arith, has.0)) in_use
      ∙ ap (λ (s : Share). get_or before k [] ++ cond (goes_to (ranked k) s) (place ∷ []) []) known
      ∙ ap (λ (p : ℕ). get_or before k [] ++ cond (goes_to (ranked k) (share_of whole emptiness o.kind)) (p ∷ []) []) here in
      bucket_more (λ o. goes_to (ranked k) (share_of whole emptiness o.kind)) whole.operations i o (get_or before k []) (get_or after k []) at more
      (has.1 k below in_use),
)
