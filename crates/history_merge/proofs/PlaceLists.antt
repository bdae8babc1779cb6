-- Operations at places of a list.
use Rattle.std.proofs.Common.{◌≡◌, ℕ, zero, suc, ◌+◌, ◌<◌, ◌++◌, List, [], ◌∷◌, length, get_or, map, take, Some, None}
use Rattle.std.proofs.Common.{ap, sym, ◌∙◌, arith}
use Rattle.std.specs.Prelude.{slice_get}
use Rattle.std.proofs.lemmas.List.{length-map, take_more}
use Rattle.std.proofs.lemmas.Option.{get_or_from_slice_get, slice_get-get_or}
use Rattle.history_merge.specs.declared.operation.Operation.{Operation}
use Rattle.history_merge.specs.declared.operation.OpKind.TheVariants.{DequeueEmpty}
use Rattle.history_merge.specs.Legal.{ArePlacesOf}

-- the entry at an index of the places is the place of the operation at this index
pub placed_at : (operations : List Operation) (places : List ℕ) (listed : List Operation) (p d : ℕ)
    → ArePlacesOf operations places listed
    → p < length listed → slice_get operations (get_or places p d) ≡ slice_get listed p
placed_at operations [] [] p d at below = absurd (omega arith)
placed_at operations [] (o ∷ listed) p d at below = cc
placed_at operations (q ∷ places) [] p d at below = absurd (omega arith)
placed_at operations (q ∷ places) (o ∷ listed) zero d at below = cc
placed_at operations (q ∷ places) (o ∷ listed) (suc p) d at below =
    let later : map (slice_get operations) places ≡ map (λ x. Some x) listed = cc in
    placed_at operations places listed p d later (omega arith)

-- there are as many places as operations
pub as_many_placed : (operations : List Operation) (places : List ℕ) (listed : List Operation)
    → ArePlacesOf operations places listed
    → length places ≡ length listed
as_many_placed operations places listed at =
    sym (length-map places (slice_get operations)) ∙ ap (λ xs. length xs) at ∙ length-map listed (λ x. Some x)

module _ (operations : List Operation) (places : List ℕ) (listed : List Operation) (at : ArePlacesOf operations places listed) (i d : ℕ)
    (below : i < length places) where
  abbrev past : Operation
  past = record { call = 0; ret = 0; thread = 0; kind = DequeueEmpty }

  within : i < length listed
  within = let many = as_many_placed operations places listed at in omega (arith, below, many)

  -- there is an operation at each place
  pub stands_there : ¬ (slice_get operations (get_or places i d) ≡ None)
  stands_there none =
      let clash : Some (get_or listed i past) ≡ None = sym (slice_get-get_or listed i past within) ∙ sym (placed_at operations places listed i d at within) ∙ none in
      cc

  -- this operation is the next one
  pub one_more_placed : (o : Operation) → slice_get operations (get_or places i d) ≡ Some o
      → take (i + 1) listed ≡ take i listed ++ o ∷ []
  one_more_placed o is =
      let here = get_or_from_slice_get listed i o past (sym (placed_at operations places listed i d at within) ∙ is) in
      take_more listed i past within ∙ ap (λ (x : Operation). take i listed ++ x ∷ []) here
