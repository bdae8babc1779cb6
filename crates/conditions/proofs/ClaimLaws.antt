-- Verdicts and claims under weaker conditions.
use Rattle.std.proofs.Common.{◌≡◌, ℕ, zero, suc, ◌<◌, ◌≤◌, ◌++◌, inl, inr, Bool, true, false, List, []}
use Rattle.std.proofs.Common.{◌∷◌, length, map, refl, ap, ap₂, sym, subst, ◌∙◌, arith}
use Rattle.std.specs.Prelude.{All, Contains, flat_map, slice_get}
use Rattle.std.proofs.lemmas.Bool.{cases_Bool, cases_lt}
use Rattle.std.proofs.lemmas.List.Elements.{All-head, All-tail, Contains-get_or, filter_map-append}
use Rattle.event_records.specs.declared.limits.TheConstants.{MAX_INITIAL, MAX_THREADS}
use Rattle.history_merge.specs.declared.operation.Operation.{Operation}
use Rattle.history_merge.specs.Initial.{Contents, HistoryView, IsCompleteFrom}
use Rattle.history_merge.specs.Legal.{IsLegalOrder}
use Rattle.history_merge.specs.Operations.{operations_of}
use Rattle.value_match.specs.declared.violation.Violation.{Violation}
use Rattle.history_merge.proofs.Distinct.{contains_cons, not_in_none}
use Rattle.value_match.proofs.Lists.{mapped_to, passes_filter}
use Rattle.claims.specs.Claiming.{operations_at}
use Rattle.verdicts.specs.Decided.{IsDecided}
use Rattle.verdicts.specs.Selection.{AreLinearizable, contents_of, select, selects}
use Rattle.claims.specs.declared.verdict.Verdict.{Verdict}
use Rattle.claims.specs.declared.verdict.Verdict.TheVariants.{No, Yes}
use Rattle.claims.specs.declared.claimed.Claimed.{Claimed}
use Rattle.claims.specs.declared.claimed.Claimed.TheVariants as claimed
use Rattle.verdicts.proofs.OneVerdict.{verdict_is_one}
use Rattle.history_merge.proofs.Lists.{no_longer}
use Rattle.verdicts.proofs.Selections.{kept_is_complete_from}
use Rattle.verdicts.proofs.TrueClaims.{operations_there, true_claim_decides}
use Rattle.conditions.specs.declared.local.LocalOrder.{LocalOrder}
use Rattle.conditions.specs.declared.local.LocalVerdict.TheVariants as local
use Rattle.conditions.specs.declared.producer.Emptiness.{Emptiness}
use Rattle.conditions.specs.declared.producer.Producer.{Producer}
use Rattle.conditions.specs.declared.producer.Producer.TheVariants.{Initial, Thread}
use Rattle.conditions.specs.ClaimLaws.{claim_on, FirstRefutedIsOne, LocalEvidenceIsTrueClaim, LocalVerdictIsOne}
use Rattle.conditions.specs.ClaimLaws.{RefutedIsRefutedInTheWhole}
use Rattle.conditions.specs.ClaimLaws.{SaysOf, TrueLocalClaimDecides, TrueWeakClaimDecides, WeakEvidenceIsTrueClaim}
use Rattle.conditions.specs.ClaimLaws.{WeakVerdictIsOne}
use Rattle.conditions.specs.Claims.{AreOrdersInTurn, IsTrueLocalClaim, IsTrueOf, selections_of}
use Rattle.conditions.specs.Conditions.{all_producers, ComesBefore, counts_for, has_values, IsLocallyLinearizable}
use Rattle.conditions.specs.Conditions.{judges_empties, producers_of}
use Rattle.conditions.specs.Conditions.{selection_of, without_empties}
use Rattle.conditions.specs.Decided.{IsDecidedOf, IsFirstRefuted}
use Rattle.conditions.proofs.Judged.{idle_is_linearizable, none_beyond, rank_stands}
use Rattle.conditions.proofs.Minimal.{selected, selected_contents}
use Rattle.conditions.proofs.Showing.{violations_are_of_the_whole}

-- ---- evidence

module _ (emptiness : Emptiness) (whole : Contents) where
  abbrev part : Producer → Contents
  part p = selection_of emptiness p whole

  abbrev HasOne : LocalOrder → Type 0
  HasOne x = IsDecidedOf whole (part x.producer) (Yes x.order)

  -- the operations of the orders, one after another
  abbrev lines_of : List LocalOrder → List Operation
  lines_of orders = operations_at whole.operations (flat_map (λ (x : LocalOrder). x.order) orders)

  lines_more : (x : LocalOrder) (orders : List LocalOrder)
      → lines_of (x ∷ orders) ≡ operations_at whole.operations x.order ++ lines_of orders
  lines_more x orders = filter_map-append (slice_get whole.operations) x.order (flat_map (λ (x : LocalOrder). x.order) orders)

  orders_in_turn : (orders : List LocalOrder) → All HasOne orders
      → AreOrdersInTurn (map part (map (λ x. x.producer) orders)) (lines_of orders)
  orders_in_turn [] each = refl
  orders_in_turn (x ∷ orders) each =
      let decided = All-head HasOne x orders each in
      let order = decided.evidence.0 in
      let same = operations_there whole.operations x.order order decided.evidence.1 in (
        order,
        lines_of orders,
        lines_more x orders ∙ ap (λ os. os ++ lines_of orders) same,
        decided.evidence.2,
        orders_in_turn orders (All-tail HasOne x orders each),
      )

pub local_evidence_is_a_true_claim : LocalEvidenceIsTrueClaim
local_evidence_is_a_true_claim emptiness whole (local.Yes orders) decided =
    subst (λ ps. AreOrdersInTurn (map (λ p. selection_of emptiness p whole) ps) (lines_of emptiness whole orders)) decided.producers
    (orders_in_turn emptiness whole orders decided.decided)
local_evidence_is_a_true_claim emptiness whole (local.No p violation) decided = (p, decided.decided.evidence.1)

pub weak_evidence_is_a_true_claim : WeakEvidenceIsTrueClaim
weak_evidence_is_a_true_claim whole (Yes places) decided =
    let order = decided.evidence.0 in
    subst (IsLegalOrder (without_empties whole).initial (without_empties whole).operations)
    (sym (operations_there whole.operations places order decided.evidence.1)) decided.evidence.2
weak_evidence_is_a_true_claim whole (No violation) decided = decided.evidence.1

pub refuted_is_refuted_in_the_whole : RefutedIsRefutedInTheWhole
refuted_is_refuted_in_the_whole whole kind lines = (
  λ emptiness shown. violations_are_of_the_whole (counts_for whole shown.0) (λ call. judges_empties emptiness) whole kind lines shown.1,
  λ shown. violations_are_of_the_whole (λ value. true) (λ call. false) whole kind lines shown,
)

-- ---- claims that decide

-- each of the contents has a linearization
each_in_turn : (parts : List Contents) (lines : List Operation) → AreOrdersInTurn parts lines → (part : Contents)
    → Contains parts part → AreLinearizable part
each_in_turn [] lines in_turn part among = absurd (not_in_none part among)
each_in_turn (first ∷ parts) lines in_turn part among = elim (contains_cons first parts part among) [
  | inl here ↦ subst AreLinearizable here (in_turn.0, in_turn.3)
  | inr later ↦ each_in_turn parts in_turn.1 in_turn.4 part later
]

module _ (history : HistoryView) (complete : IsCompleteFrom history.initial history.events)
    (few : length history.initial ≤ MAX_INITIAL) where
  abbrev contents : Contents
  contents = contents_of history

  module _ (values empties : ℕ → Bool) where
    abbrev own : HistoryView
    own = selected history complete few values empties

    own_complete : IsCompleteFrom own.initial own.events
    own_complete = kept_is_complete_from history.initial history.events complete values (selects values empties)

    own_few : length own.initial ≤ MAX_INITIAL
    own_few = let shorter = no_longer values history.initial in omega arith

    same_contents : contents_of own ≡ select values empties contents
    same_contents = selected_contents history complete few values empties

    -- a true claim on a selection decides it
    decides_selection : (said : Claimed) → IsTrueOf (select values empties contents) said
        → SaysOf (AreLinearizable (select values empties contents)) said
    decides_selection (claimed.Yes lines) true_claim = (lines, true_claim)
    decides_selection (claimed.No kind lines) true_claim =
        let there : IsTrueOf (contents_of own) (claimed.No kind lines) = subst (λ c. IsTrueOf c (claimed.No kind lines)) (sym same_contents) true_claim in
        let none = true_claim_decides own.initial own.events (claimed.No kind lines) own_complete own_few there in
        subst (λ c. ¬ (AreLinearizable c)) same_contents none

    -- two verdicts on a selection have the same claim
    one_claim : (x y : Verdict) → IsDecidedOf contents (select values empties contents) x
        → IsDecidedOf contents (select values empties contents) y
        → claim_on contents x ≡ claim_on contents y
    one_claim x y of_x of_y =
        let by_x = of_x.chosen in
        let by_y = of_y.chosen in
        let decided_x : IsDecided own.initial (operations_of own.events) by_x.0 = subst (λ c. IsDecided c.initial c.operations by_x.0) (sym same_contents) by_x.1 in
        let decided_y : IsDecided own.initial (operations_of own.events) by_y.0 = subst (λ c. IsDecided c.initial c.operations by_y.0) (sym same_contents) by_y.1 in
        let one = verdict_is_one own.initial own.events by_x.0 by_y.0 own_complete own_few decided_x.chosen decided_x.exact decided_y.chosen decided_y.exact in
        by_x.2 ∙ ap (claim_on (select values empties contents)) one ∙ sym by_y.2

  module _ (emptiness : Emptiness) where
    abbrev selection : Producer → Contents
    selection p = selection_of emptiness p contents

    abbrev Decided : LocalOrder → Type 0
    Decided x = IsDecidedOf contents (selection x.producer) (Yes x.order)

    -- two verdicts on the selection of one producer
    one_of_producer : (p q : Producer) (x y : Verdict) → p ≡ q → IsDecidedOf contents (selection p) x
        → IsDecidedOf contents (selection q) y
        → claim_on contents x ≡ claim_on contents y
    one_of_producer p q x y same of_x of_y =
        one_claim (counts_for contents q) (λ call. judges_empties emptiness) x y (subst (λ r. IsDecidedOf contents (selection r) x) same of_x) of_y

    -- a thread's selection is linearizable if those of the history's producers are
    all_producers_linearizable : ((p : Producer) → Contains (producers_of contents) p → AreLinearizable (selection p))
        → IsLocallyLinearizable emptiness contents
    all_producers_linearizable each Initial = each Initial (zero, omega arith, refl)
    all_producers_linearizable each (Thread t) = elim (cases_Bool (has_values contents (Thread t))) [
      | inr none ↦ idle_is_linearizable history complete few emptiness t none (each Initial (zero, omega arith, refl))
      | inl some ↦ elim (cases_lt t MAX_THREADS) [
        | inr beyond ↦ let none = none_beyond history complete few emptiness t beyond in let clash : true ≡ false = sym some ∙ none in cc
        | inl below ↦
            let at = rank_stands (suc t) (omega (arith, below)) in
            let there : Contains all_producers (Thread t) = subst (Contains all_producers) at (Contains-get_or all_producers (suc t) Initial (omega (arith, below))) in
            each (Thread t) (passes_filter (has_values contents) all_producers (Thread t) some there)
      ]
    ]

    decides_locally : (said : Claimed) → IsTrueLocalClaim emptiness contents said
        → SaysOf (IsLocallyLinearizable emptiness contents) said
    decides_locally (claimed.Yes lines) in_turn =
        all_producers_linearizable (λ p among. each_in_turn (selections_of emptiness contents) lines in_turn (selection p) (mapped_to selection (producers_of contents) p among))
    decides_locally (claimed.No kind lines) shown =
        λ all. decides_selection (counts_for contents shown.0) (λ call. judges_empties emptiness) (claimed.No kind lines) shown.1 (all shown.0)

    -- ---- one verdict

    same_lines : (xs ys : List LocalOrder) → map (λ x. x.producer) xs ≡ map (λ y. y.producer) ys → All Decided xs
        → All Decided ys
        → lines_of emptiness contents xs ≡ lines_of emptiness contents ys
    same_lines [] [] same all_x all_y = refl
    same_lines [] (y ∷ ys) same all_x all_y = cc
    same_lines (x ∷ xs) [] same all_x all_y = cc
    same_lines (x ∷ xs) (y ∷ ys) same all_x all_y =
        let first : x.producer ≡ y.producer = cc in
        let later : map (λ (x : LocalOrder). x.producer) xs ≡ map (λ (y : LocalOrder). y.producer) ys = cc in
        let head = one_of_producer x.producer y.producer (Yes x.order) (Yes y.order) first (All-head Decided x xs all_x) (All-head Decided y ys all_y) in
        let here : operations_at contents.operations x.order ≡ operations_at contents.operations y.order = cc in
        lines_more emptiness contents x xs ∙ ap₂ (λ (a b : List Operation). a ++ b) here (same_lines xs ys later (All-tail Decided x xs all_x) (All-tail Decided y ys all_y))
        ∙ sym (lines_more emptiness contents y ys)

-- ---- the first selection without a linearization

earlier_clash : (emptiness : Emptiness) (whole : Contents) (p q : Producer) (x y : Violation)
    → IsFirstRefuted emptiness whole p x
    → IsFirstRefuted emptiness whole q y → ¬ (ComesBefore p q)
earlier_clash emptiness whole p q x y of_p of_q before = of_p.decided.exact (of_q.first p before)

pub first_refuted_is_one : FirstRefutedIsOne
first_refuted_is_one emptiness whole Initial Initial x y of_p of_q = refl
first_refuted_is_one emptiness whole Initial (Thread t) x y of_p of_q = absurd (earlier_clash emptiness whole Initial (Thread t) x y of_p of_q tt)
first_refuted_is_one emptiness whole (Thread s) Initial x y of_p of_q = absurd (earlier_clash emptiness whole Initial (Thread s) y x of_q of_p tt)
first_refuted_is_one emptiness whole (Thread s) (Thread t) x y of_p of_q =
    let not_less : ¬ (s < t) = λ less. earlier_clash emptiness whole (Thread s) (Thread t) x y of_p of_q less in
    let not_more : ¬ (t < s) = λ more. earlier_clash emptiness whole (Thread t) (Thread s) y x of_q of_p more in
    elim (cases_lt s t) [
      | inl less ↦ absurd (not_less less)
      | inr past ↦ elim (cases_lt t s) [
        | inl more ↦ absurd (not_more more)
        | inr same ↦ ap Thread (let e : s ≡ t = omega arith in e)
      ]
    ]

pub true_local_claim_decides : TrueLocalClaimDecides
true_local_claim_decides emptiness history said complete few true_claim = decides_locally history complete few emptiness said true_claim

pub true_weak_claim_decides : TrueWeakClaimDecides
true_weak_claim_decides history said complete few true_claim = decides_selection history complete few (λ value. true) (λ call. false) said true_claim

pub local_verdict_is_one : LocalVerdictIsOne
local_verdict_is_one emptiness history (local.Yes xs) (local.Yes ys) complete few of_x of_y =
    ap claimed.Yes (same_lines history complete few emptiness xs ys (of_x.producers ∙ sym of_y.producers) of_x.decided of_y.decided)
local_verdict_is_one emptiness history (local.Yes xs) (local.No q y) complete few of_x of_y = absurd (of_y.decided.exact (of_x.linearizable q))
local_verdict_is_one emptiness history (local.No p x) (local.Yes ys) complete few of_x of_y = absurd (of_x.decided.exact (of_y.linearizable p))
local_verdict_is_one emptiness history (local.No p x) (local.No q y) complete few of_x of_y =
    one_of_producer history complete few emptiness p q (No x) (No y) (first_refuted_is_one emptiness (contents_of history) p q x y of_x of_y) of_x.decided of_y.decided

pub weak_verdict_is_one : WeakVerdictIsOne
weak_verdict_is_one history x y complete few of_x of_y = one_claim history complete few (λ value. true) (λ call. false) x y of_x of_y
