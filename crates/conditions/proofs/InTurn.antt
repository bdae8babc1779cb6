-- The selections of producers are compared with a claim, one after another.
use Rattle.std.proofs.Common.{◌≡◌, ◌↔◌, ℕ, suc, ◌+◌, ◌<◌, ◌≤◌, ◌++◌, inl, inr, Bool, true, false, cond, List, []}
use Rattle.std.proofs.Common.{◌∷◌, drop, length, map, take, refl, ap, sym, subst, ◌∙◌, arith}
use Rattle.std.specs.Prelude.{◌==◌, filter, IsTrue}
use Rattle.std.proofs.lemmas.Bool.{cases_Bool, cases_lt, eqb-true}
use Rattle.std.proofs.lemmas.List.Sorted.{length_permutation}
use Rattle.std.proofs.lemmas.List.{drop_all, drop_more, drop-append-le, length-append, take_all, take-append-drop}
use Rattle.std.proofs.lemmas.List.{take-append-le}
use Rattle.event_records.specs.declared.limits.TheConstants.{MAX_INITIAL, MAX_THREADS}
use Rattle.history_merge.specs.declared.operation.Operation.{Operation}
use Rattle.history_merge.specs.Initial.{Contents, HistoryView, IsCompleteFrom}
use Rattle.history_merge.specs.Legal.{IsLegalOrder}
use Rattle.verdicts.specs.Selection.{contents_of}
use Rattle.claims.specs.declared.claimed.ClaimLine.{ClaimLine}
use Rattle.claims.specs.declared.claimed.ViolationKind.{ViolationKind}
use Rattle.claims.specs.declared.claimed.Claimed.{Claimed}
use Rattle.claims.specs.declared.claimed.Claimed.TheVariants.{No}
use Rattle.conditions.specs.declared.producer.Emptiness.{Emptiness}
use Rattle.conditions.specs.declared.producer.Producer.{Producer}
use Rattle.conditions.specs.declared.producer.Producer.TheVariants.{Initial, Thread}
use Rattle.conditions.specs.declared.ranks.TheConstants.{PRODUCERS}
use Rattle.conditions.specs.Claims.{AreOrdersInTurn, IsTrueLocalClaim, IsTrueOf}
use Rattle.conditions.specs.Conditions.{all_producers, has_values, judges_empties, selection_of}
use Rattle.conditions.specs.Inner.Sharing.{ranked}
use Rattle.conditions.proofs.Judged.{is_nobodys, none_beyond, rank_stands, selection_within}
use Rattle.conditions.proofs.Showing.{violations_are_of_the_whole}

-- ---- lists

-- a list is split in only one way into a prefix of this length and the rest
cut_front : {X : Type 0} (n : ℕ) (xs front back : List X) → xs ≡ front ++ back → length front ≡ n → front ≡ take n xs
cut_front n xs front back is long =
    sym (ap (take n) is ∙ take-append-le n front back (omega (arith, long)) ∙ take_all n front (omega (arith, long)))

cut_back : {X : Type 0} (n : ℕ) (xs front back : List X) → xs ≡ front ++ back → length front ≡ n → back ≡ drop n xs
cut_back n xs front back is long =
    sym (ap (drop n) is ∙ drop-append-le n front back (omega (arith, long)) ∙ ap (λ f. f ++ back) (drop_all n front (omega (arith, long))))

-- ---- the lines of one selection

module _ (first : Contents) (parts : List Contents) (rest : List Operation) where
  long_as : (order : List Operation) → IsLegalOrder first.initial first.operations order
      → length order ≡ length first.operations
  long_as order legal = length_permutation first.operations order legal.holds_each_once

  pub too_short : length rest < length first.operations → ¬ (AreOrdersInTurn (first ∷ parts) rest)
  too_short short in_turn =
      let long = long_as in_turn.0 in_turn.3 in
      let sum = ap (λ xs. length xs) in_turn.2 ∙ length-append in_turn.0 in_turn.1 in
      omega (arith, short, long, sum)

  pub not_legal : (n : ℕ) → n ≡ length first.operations → ¬ (IsLegalOrder first.initial first.operations (take n rest))
      → ¬ (AreOrdersInTurn (first ∷ parts) rest)
  not_legal n is none in_turn =
      none (subst (IsLegalOrder first.initial first.operations)
      (cut_front n rest in_turn.0 in_turn.1 in_turn.2 (long_as in_turn.0 in_turn.3 ∙ sym is)) in_turn.3)

  pub one_legal : (n : ℕ) → n ≡ length first.operations → IsLegalOrder first.initial first.operations (take n rest)
      → AreOrdersInTurn parts (drop n rest) ↔ AreOrdersInTurn (first ∷ parts) rest
  one_legal n is legal = (
    λ later. (take n rest, drop n rest, sym (take-append-drop n rest), legal, later),
    λ in_turn. subst (AreOrdersInTurn parts) (cut_back n rest in_turn.0 in_turn.1 in_turn.2 (long_as in_turn.0 in_turn.3 ∙ sym is)) in_turn.4,
  )

-- ---- the selections that are left

module _ (emptiness : Emptiness) (whole : Contents) where
  abbrev part : Producer → Contents
  part p = selection_of emptiness p whole

  -- the selections of the producers from this rank on
  abbrev pub left_from : ℕ → List Contents
  left_from k = map part (filter (has_values whole) (drop k all_producers))

  long_enough : length all_producers ≡ PRODUCERS
  long_enough = refl

  left_by : (k : ℕ) (b : Bool) → k < PRODUCERS → has_values whole (ranked k) ≡ b
      → left_from k ≡ cond b (part (ranked k) ∷ left_from (k + 1)) (left_from (k + 1))
  left_by k b below is =
      ap (λ ps. map part (filter (has_values whole) ps)) (drop_more all_producers k Initial (omega (arith, below, long_enough)))
      ∙ ap (λ (p : Producer). map part (filter (has_values whole) (p ∷ drop (k + 1) all_producers))) (rank_stands k below)
      ∙ by_test b is
    where
      by_test : (b : Bool) → has_values whole (ranked k) ≡ b
          → map part (filter (has_values whole) (ranked k ∷ drop (k + 1) all_producers))
          ≡ cond b (part (ranked k) ∷ left_from (k + 1)) (left_from (k + 1))
      by_test true is = rw is refl
      by_test false is = rw is refl

  pub none_left : (k : ℕ) → PRODUCERS ≤ k → left_from k ≡ []
  none_left k past = ap (λ ps. map part (filter (has_values whole) ps)) (drop_all k all_producers (omega (arith, past, long_enough)))

  -- the state while the lines of the selections are compared, one after another
  abbrev pub IsLeft : ℕ → List Operation → List Operation → Type 0
  IsLeft k rest lines = AreOrdersInTurn (left_from k) rest ↔ AreOrdersInTurn (left_from 0) lines

  pub left_used : (k : ℕ) (rest lines : List Operation) (n : ℕ) → k < PRODUCERS → has_values whole (ranked k) ≡ true
      → n ≡ length (part (ranked k)).operations
      → IsLegalOrder (part (ranked k)).initial (part (ranked k)).operations (take n rest)
      → IsLeft k rest lines → IsLeft (k + 1) (drop n rest) lines
  left_used k rest lines n below has is legal known =
      let step = one_legal (part (ranked k)) (left_from (k + 1)) rest n is legal in
      let before = subst (λ cs. AreOrdersInTurn cs rest ↔ AreOrdersInTurn (left_from 0) lines) (left_by k true below has) known in (
        λ later. before.0 (step.0 later),
        λ all. step.1 (before.1 all),
      )

  pub left_idle : (k : ℕ) (rest lines : List Operation) → k < PRODUCERS → has_values whole (ranked k) ≡ false
      → IsLeft k rest lines → IsLeft (k + 1) rest lines
  left_idle k rest lines below has known = subst (λ cs. AreOrdersInTurn cs rest ↔ AreOrdersInTurn (left_from 0) lines) (left_by k false below has) known

  pub left_refused : (k : ℕ) (rest lines : List Operation) → k < PRODUCERS → has_values whole (ranked k) ≡ true
      → ¬ (AreOrdersInTurn (part (ranked k) ∷ left_from (k + 1)) rest) → IsLeft k rest lines
      → ¬ (AreOrdersInTurn (left_from 0) lines)
  left_refused k rest lines below has none known all = none (subst (λ cs. AreOrdersInTurn cs rest) (left_by k true below has) (known.1 all))

  -- at the end no line is left
  pub all_compared : (k : ℕ) (rest lines : List Operation) (b : Bool) → PRODUCERS ≤ k → b ≡ (length rest == 0)
      → IsLeft k rest lines
      → IsTrue b ↔ AreOrdersInTurn (left_from 0) lines
  all_compared k rest lines b past is known = by_rest rest is (subst (λ cs. AreOrdersInTurn cs rest ↔ AreOrdersInTurn (left_from 0) lines) (none_left k past) known)
    where
      by_rest : (rest : List Operation) → b ≡ (length rest == 0)
          → AreOrdersInTurn [] rest ↔ AreOrdersInTurn (left_from 0) lines
          → IsTrue b ↔ AreOrdersInTurn (left_from 0) lines
      by_rest [] is known = (λ yes. known.0 refl, λ all. is)
      by_rest (x ∷ rest) is known = (
        λ yes. let same = eqb-true (length (x ∷ rest)) 0 (sym is ∙ yes) in absurd (omega (arith, same)),
        λ all. let clash : x ∷ rest ≡ [] = known.1 all in cc,
      )

-- ---- a `NO`

-- the claim is evidence in no selection of the producers before this rank
abbrev pub IsOfNone : Emptiness → Contents → ℕ → Claimed → Type 0
IsOfNone emptiness whole rank claimed =
    (k : ℕ) → k < rank → has_values whole (ranked k) ≡ true → ¬ (IsTrueOf (selection_of emptiness (ranked k) whole) claimed)

module _ (history : HistoryView) (complete : IsCompleteFrom history.initial history.events) (few : length history.initial ≤ MAX_INITIAL)
    (emptiness : Emptiness) where
  abbrev contents : Contents
  contents = contents_of history

  pub of_none : (rank : ℕ) (kind : ViolationKind) (lines : List ClaimLine) → PRODUCERS ≤ rank
      → IsOfNone emptiness contents rank (No kind lines)
      → ¬ (IsTrueLocalClaim emptiness contents (No kind lines))
  of_none rank kind lines past none shown = each shown.0 shown.1
    where
      each : (p : Producer) → ¬ (IsTrueOf (selection_of emptiness p contents) (No kind lines))
      each Initial of_p = none 0 (omega (arith, past)) refl of_p
      each (Thread t) of_p = elim (cases_Bool (has_values contents (Thread t))) [
        | inl some ↦ elim (cases_lt t MAX_THREADS) [
          | inl below ↦ none (suc t) (omega (arith, past, below)) some of_p
          | inr beyond ↦ let idle = none_beyond history complete few emptiness t beyond in let clash : true ≡ false = sym some ∙ idle in cc
        ]
        | inr idle ↦
            let within = selection_within contents t idle emptiness in
            let shown = violations_are_of_the_whole (is_nobodys contents) (λ call. judges_empties emptiness) (selection_of emptiness Initial contents) kind lines
            (subst (λ c. IsTrueOf c (No kind lines)) (sym within) of_p) in
            none 0 (omega (arith, past)) refl shown
      ]
