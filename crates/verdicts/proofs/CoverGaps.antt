-- Without any one of its values, a chosen cover leaves a gap of the window open.
use Rattle.verdicts.proofs.Common.{[], ap, arith, Bool, call_or_never, Contains, contains_cons, Covers, Dequeue}
use Rattle.verdicts.proofs.Common.{dequeue_call, dequeued_if_called, Did, DequeueEmpty, Enqueue, enqueue_of}
use Rattle.verdicts.proofs.Common.{enqueue_return}
use Rattle.verdicts.proofs.Common.{false, inl, inr, IsChosenCoverFrom, IsClear, IsCovered, IsLife, IsNextOfCover, Life}
use Rattle.verdicts.proofs.Common.{List, ltb-false, MatchBool, MatchOption, nat_lt, no_enqueue, NoneDid, not_in_none}
use Rattle.verdicts.proofs.Common.{on, Operation, refl, return_differs_from_call, return_in_range, subst, sym, true, ℕ}
use Rattle.verdicts.proofs.Common.{◌<◌, ◌∙◌, ◌∷◌, ◌≡◌, ◌≢◌, ◌≤◌}

below_if_not_same : (m n : ℕ) → m ≤ n → m ≢ n → m < n
below_if_not_same m n le differs = grind arith

-- the consequences of both cases of a test
pub match_then : {P P' Q Q' : Type 0} (b : Bool) → MatchBool b P Q → (P → P') → (Q → Q') → MatchBool b P' Q'
match_then true p first second = first p
match_then false q first second = second q

module _ (operations : List Operation) (empty : Operation) where
  -- if a value of the cover isn't the last, the others are chosen from its dequeue on
  others_chosen : (life : Life) (rest : List Life) (y : Life) → Contains rest y → (b : Bool)
      → nat_lt empty.ret (dequeue_call life) ≡ b
      → MatchBool b (rest ≡ []) (IsChosenCoverFrom (on operations) empty (dequeue_call life) rest)
      → (dequeue_call life ≤ empty.ret) × IsChosenCoverFrom (on operations) empty (dequeue_call life) rest
  others_chosen life rest y among true test ends = absurd (not_in_none y (subst (λ lives. Contains lives y) ends among))
  others_chosen life rest y among false test further = (ltb-false empty.ret (dequeue_call life) test, further)

  -- the values of a chosen cover are lives of the history
  pub chosen_are_lives : (cover : List Life) (frontier : ℕ) (y : Life)
      → IsChosenCoverFrom (on operations) empty frontier cover → Contains cover y
      → IsLife (on operations) y
  chosen_are_lives [] frontier y chosen among = absurd chosen
  chosen_are_lives (life ∷ rest) frontier y chosen among = elim (contains_cons life rest y among) [
    | inl same ↦ subst (IsLife (on operations)) same chosen.0.is_life
    | inr later ↦ chosen_are_lives rest (dequeue_call life) y (others_chosen life rest y later (nat_lt empty.ret (dequeue_call life)) refl chosen.1).1 later
  ]

  module _ (clear : IsClear (on operations)) (did : Did operations empty DequeueEmpty)
      (covered : IsCovered (on operations) empty) where
    -- an operation called inside the window of the empty dequeue
    pub record IsCalledInside (before : Operation) : Type 0 where
      pub among : Contains operations before
      pub after_call : empty.call ≤ before.call
      pub before_return : before.call < empty.ret
      pub is_other : (v : ℕ) → before.kind ≢ Enqueue v

    enters_before : (before : Operation) (life : Life) → IsCalledInside before → IsLife (on operations) life
        → Covers life before.call
        → enqueue_return life < before.call
    enters_before before life inside is covers =
        below_if_not_same (enqueue_return life) before.call covers.0 (return_differs_from_call operations
        (enqueue_of life) before clear.complete is.1.0 inside.among inside.is_other)

    next_stays : (before : Operation) (life : Life) → IsCalledInside before
        → IsNextOfCover (on operations) before.call life → before.call < dequeue_call life
    next_stays before life inside next =
        let z = covered before.call (inside.after_call, inside.before_return) in
        let stays = next.longest z.0 z.1 (enters_before before z.0 inside z.1 z.2) in
        omega (arith, stays.0, z.2.1)

    -- the dequeue of a value of the cover that is not the last
    pub record IsHandover (life : Life) (rest : List Life) (d : Operation) : Type 0 where
      pub calls : dequeue_call life ≡ d.call
      pub inside : IsCalledInside d
      pub further : IsChosenCoverFrom (on operations) empty d.call rest

    pub handover : (before : Operation) (life : Life) (rest : List Life) (y : Life) → IsCalledInside before
        → IsChosenCoverFrom (on operations) empty before.call (life ∷ rest) → Contains rest y
        → (d : Operation) × IsHandover life rest d
    handover before life rest y inside chosen among =
        let others = others_chosen life rest y among (nat_lt empty.ret (dequeue_call life)) refl chosen.1 in
        let range = return_in_range operations empty clear.complete did.0 in
        let past = next_stays before life inside chosen.0 in
        let found = dequeued_if_called life (omega (arith, others.0)) in
        let d = found.0 in
        let calls : dequeue_call life ≡ d.call = ap call_or_never found.1 in
        let did_d = subst (λ o. MatchOption o (NoneDid operations (Dequeue chosen.0.is_life.0)) (λ d. Did operations d (Dequeue chosen.0.is_life.0))) found.1
        chosen.0.is_life.2 in
        let other = no_enqueue d (Dequeue chosen.0.is_life.0) did_d.1 refl in
        let differs = return_differs_from_call operations empty d clear.complete did.0 did_d.0 other in
        let below : d.call < empty.ret = below_if_not_same d.call empty.ret (omega (arith, others.0)) (λ same. differs (sym same)) in (
          d,
          record {
            calls = calls;
            inside = record { among = did_d.0; after_call = omega (arith, inside.after_call); before_return = below; is_other = other };
            further = subst (λ c. IsChosenCoverFrom (on operations) empty c rest) calls others.1;
          },
        )

    pub all_stay : (cover : List Life) (before : Operation) (y : Life) → IsCalledInside before
        → IsChosenCoverFrom (on operations) empty before.call cover
        → Contains cover y → before.call < dequeue_call y
    all_stay [] before y inside chosen among = absurd chosen
    all_stay (life ∷ rest) before y inside chosen among = elim (contains_cons life rest y among) [
      | inl same ↦ subst (λ x. before.call < dequeue_call x) same (next_stays before life inside chosen.0)
      | inr later ↦
          let next = handover before life rest y inside chosen later in
          let past = next_stays before life inside chosen.0 in
          let rest' = all_stay rest next.0 y next.1.inside next.1.further later in
          omega (arith, next.1.calls)
    ]

    -- a gap of the window, from this ticket on, which no value of the cover but x covers
    pub record IsLeftBy (cover : List Life) (from : ℕ) (x : Life) (c : ℕ) : Type 0 where
      pub after : from ≤ c
      pub before_return : c < empty.ret
      pub no_other : (y : Life) → Contains cover y → Covers y c → y ≡ x

    -- without x the cover leaves a gap of the window open
    pub left_by : (cover : List Life) (before : Operation) (x : Life) → IsCalledInside before
        → IsChosenCoverFrom (on operations) empty before.call cover
        → Contains cover x → (c : ℕ) × IsLeftBy cover before.call x c
    left_by [] before x inside chosen among = absurd chosen
    left_by (life ∷ rest) before x inside chosen among = elim (contains_cons life rest x among) [
      | inl same ↦ (
        before.call,
        record {
          after = omega arith;
          before_return = inside.before_return;
          no_other = λ y among' covers. elim (contains_cons life rest y among') [
            | inl here ↦ sym here ∙ same
            | inr later ↦ absurd (not_yet y later covers)
          ];
        },
      )
      | inr later ↦
          let next = handover before life rest x inside chosen later in
          let left = left_by rest next.0 x next.1.inside next.1.further later in
          let past = next_stays before life inside chosen.0 in (
            left.0,
            record {
              after = omega (arith, left.1.after, next.1.calls);
              before_return = left.1.before_return;
              no_other = λ y among' covers. elim (contains_cons life rest y among') [
                | inl here ↦
                    let gone : left.0 < dequeue_call life = subst (λ z. left.0 < dequeue_call z) (sym here) covers.1 in
                    absurd (omega (arith, left.1.after, next.1.calls))
                | inr later' ↦ left.1.no_other y later' covers
              ];
            },
          )
    ]
      where
        -- no later value was in the queue when the first took over
        not_yet : (y : Life) → Contains rest y → Covers y before.call → ⊥
        not_yet y later covers =
            let next = handover before life rest y inside chosen later in
            let stays = all_stay rest next.0 y next.1.inside next.1.further later in
            let is = chosen_are_lives rest next.0.call y next.1.further later in
            let longest = chosen.0.longest y is (enters_before before y inside is covers) in
            omega (arith, next.1.calls, longest.0)
