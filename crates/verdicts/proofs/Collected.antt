-- Lists made by loops and `collect`: a set of numbers, the tickets of selected operations.
use Rattle.verdicts.proofs.Common.{[], ap, arith, Bool, BTreeSet, cond, Contains, contains, false, filter}
use Rattle.verdicts.proofs.Common.{holds_ticket, IfOk}
use Rattle.verdicts.proofs.Common.{IfOk-weaker, is_eq, IsFromIterResult, IsTrue, List, list_any-append, nat_cmp}
use Rattle.verdicts.proofs.Common.{nat_eq}
use Rattle.verdicts.proofs.Common.{Operation, Result, true, ℕ, ◌++◌, ◌||◌, ◌↔◌, ◌∙◌, ◌∷◌, ◌≡◌}
use Rattle.std.proofs.lemmas.Cmp.{nat_cmp_total}
use Rattle.std.proofs.lemmas.Map.Lookups.{exact_unsigned}
use Rattle.std.proofs.lemmas.Map.Views.{btree_set_contains_from_list}
use Rattle.std.proofs.lemmas.List.Elements.{filter-append}
use Rattle.history_merge.proofs.KnownValues.{is_eq-nat_cmp}

-- the set has the numbers of the list and no others
pub holds_found : {E : Type 0} (result : Result (BTreeSet ℕ) E) (found : List ℕ)
    → IfOk result (IsFromIterResult nat_cmp found)
    → IfOk result (λ set. (n : ℕ) → IsTrue (contains nat_cmp set n) ↔ Contains found n)
holds_found result found =
    IfOk-weaker result (IsFromIterResult nat_cmp found) _ (btree_set_contains_from_list nat_cmp_total exact_unsigned found)

-- one more operation, whose tickets are held if it is selected
held_with : (test : Operation → Bool) (seen : List Operation) (o : Operation) (t : ℕ) (passes : Bool) → test o ≡ passes
    → holds_ticket (filter test (seen ++ o ∷ [])) t
    ≡ (holds_ticket (filter test seen) t || holds_ticket (cond passes (o ∷ []) []) t)
held_with test seen o t passes is =
    ap (λ (kept : List Operation). holds_ticket kept t) (filter-append test seen (o ∷ []))
    ∙ list_any-append (λ (x : Operation). nat_eq x.call t || nat_eq x.ret t) (filter test seen) (cond (test o) (o ∷ []) [])
    ∙ ap (λ (b : Bool). holds_ticket (filter test seen) t || holds_ticket (cond b (o ∷ []) []) t) is

-- one more operation that isn't selected
pub held_same : (test : Operation → Bool) (seen : List Operation) (o : Operation) (t : ℕ) (before : Bool)
    → test o ≡ false
    → before ≡ holds_ticket (filter test seen) t → before ≡ holds_ticket (filter test (seen ++ o ∷ [])) t
held_same test seen o t before is was = grind (arith, held_with test seen o t false is)

-- one more operation that is selected; its tickets are put into the set
pub held_more : (test : Operation → Bool) (seen : List Operation) (o : Operation) (t : ℕ) (before called now : Bool)
    → test o ≡ true → before ≡ holds_ticket (filter test seen) t
    → called ≡ cond (is_eq (nat_cmp o.call t)) true before
    → now ≡ cond (is_eq (nat_cmp o.ret t)) true called
    → now ≡ holds_ticket (filter test (seen ++ o ∷ [])) t
held_more test seen o t before called now is was calls returns =
    grind (arith, held_with test seen o t true is, is_eq-nat_cmp o.ret t, is_eq-nat_cmp o.call t)
