-- The counts of each thread, after any schedule.
use Rattle.std.proofs.Common.{◌≡◌, ℕ, suc, ◌+◌, ◌-◌, ◌<◌, ◌≤◌, min, Bool, true, List, [], ◌∷◌, ◌++◌, length}
use Rattle.std.proofs.Common.{Option, None, Some, refl, subst, inl}
use Rattle.std.proofs.Common.{inr, arith, eqb, is_some, length-append}
use Rattle.std.proofs.lemmas.Bool.{ne_eqb, cases_eq}
use Rattle.std.specs.Option.{option_map}
use Rattle.recorder_core.specs.declared.step.Step.{Step}
use Rattle.recorder_core.specs.declared.step.Step.TheVariants.{AskEnq, AskDeq, Push, Effect, Say, Ret, Drain, Close}
use Rattle.recorder_core.specs.Setting.{Setting}
use Rattle.recorder_core.specs.Schedule.{Attempt, refusal, accepted, asks, answers, returns, pushes, drained, events}
use Rattle.recorder_core.specs.Schedule.{with_last, answered, thread_of}
use Rattle.recorder_core.proofs.Runs.{same_number, after_each, may_ask, may_push, may_effect, may_say, may_return}

-- relations between the counts of one thread
pub record AreCounts (ring asked answered returned pushed drained_ happened : ℕ) : Type 0 where
  pub events_are : happened ≡ asked + returned
  pub pushed_below : pushed ≤ asked + returned
  pub one_held : asked + returned ≤ suc pushed
  pub returned_below : returned ≤ answered
  pub answered_below : answered ≤ asked
  pub one_pending : asked ≤ suc returned
  pub drained_below : drained_ ≤ pushed
  pub fits : pushed ≤ drained_ + ring

-- the counts of a thread after these steps
abbrev pub Counted : Setting → ℕ → List Step → Type 0
Counted setting t steps = AreCounts setting.ring (asks t steps) (answers t steps) (returns t steps) (pushes t steps) (drained t steps)
    (length (events setting t steps))

-- ---- the counts after one more step

-- the counts before the first step
pub counts_none : (ring : ℕ) → AreCounts ring 0 0 0 0 0 0
counts_none ring = search arith

module _ (ring a n r p d e : ℕ) (k : AreCounts ring a n r p d e) where
  counts_asked : a + r ≤ p → a ≤ r → AreCounts ring (suc a) n r p d (suc e)
  counts_asked none_held none_pending = search arith

  counts_answered : r < a → n ≤ r → AreCounts ring a (suc n) r p d e
  counts_answered one_pending no_answer = search arith

  counts_returned : a + r ≤ p → r < a → r < n → AreCounts ring a n (suc r) p d (suc e)
  counts_returned none_held one_pending has_answer = search arith

  counts_pushed : p < a + r → p - d < ring → AreCounts ring a n r (suc p) d e
  counts_pushed one_held has_room = search arith

  counts_drained : (m : ℕ) → AreCounts ring a n r p (d + min m (p - d)) e
  counts_drained m = search arith

-- the length of a list with one more element
pub length-with_last : {X : Type 0} (items : List X) (x : X) → length (items ++ x ∷ []) ≡ suc (length items)
length-with_last items x = omega (arith, length-append items (x ∷ []))

length-with_map : {X Y : Type 0} (items : List Y) (f : X → Y) (o : Option X) → is_some o ≡ true
    → length (with_last items (option_map f o)) ≡ suc (length items)
length-with_map items f None h = cc
length-with_map items f (Some x) h = length-with_last items (f x)

-- if a thread was answered, it has a last answer
pub has_answer : (setting : Setting) (t : ℕ) (steps : List Step) → 0 < answers t steps
    → is_some (answered setting t steps) ≡ true
has_answer setting t [] h = absurd (omega arith)
has_answer setting t (AskEnq u ∷ before) h = has_answer setting t before h
has_answer setting t (AskDeq u ∷ before) h = has_answer setting t before h
has_answer setting t (Push u ∷ before) h = has_answer setting t before h
has_answer setting t (Ret u ∷ before) h = has_answer setting t before h
has_answer setting t (Drain u k ∷ before) h = has_answer setting t before h
has_answer setting t (Close u ∷ before) h = has_answer setting t before h
has_answer setting t (Effect u ∷ before) h = elim (cases_eq u t) [
  | inl same ↦ let e : eqb u t ≡ true = rw same (same_number t) in rw e refl
  | inr other ↦ rw (ne_eqb u t other) (has_answer setting t before (rw (ne_eqb u t other) at h))
]
has_answer setting t (Say u answer ∷ before) h = elim (cases_eq u t) [
  | inl same ↦ let e : eqb u t ≡ true = rw same (same_number t) in rw e refl
  | inr other ↦ rw (ne_eqb u t other) (has_answer setting t before (rw (ne_eqb u t other) at h))
]

-- a step of another thread leaves the counts
other_counts : (setting : Setting) (t : ℕ) (step : Step) (before : List Step) → (thread_of step ≡ t → ⊥)
    → Counted setting t before
    → Counted setting t (step ∷ before)
other_counts setting t (AskEnq u) before ne k = rw (ne_eqb u t ne) k
other_counts setting t (AskDeq u) before ne k = rw (ne_eqb u t ne) k
other_counts setting t (Push u) before ne k = rw (ne_eqb u t ne) k
other_counts setting t (Effect u) before ne k = rw (ne_eqb u t ne) k
other_counts setting t (Say u answer) before ne k = rw (ne_eqb u t ne) k
other_counts setting t (Ret u) before ne k = rw (ne_eqb u t ne) k
other_counts setting t (Drain u m) before ne k = rw (ne_eqb u t ne) k
other_counts setting t (Close u) before ne k = k

-- a step that isn't refused keeps the relations of the counts
own_counts : (setting : Setting) (step : Step) (starved : Bool) (before : List Step)
    → Counted setting (thread_of step) before
    → refusal setting before (record { step = step; starved = starved }) ≡ None
    → Counted setting (thread_of step) (step ∷ before)
own_counts setting (AskEnq u) starved before k none =
    let m = may_ask setting before u starved none in
    rw (same_number u, length-with_last (events setting u before)) (counts_asked _ _ _ _ _ _ _ k m.none_held m.none_pending)
own_counts setting (AskDeq u) starved before k none =
    let m = may_ask setting before u starved none in
    rw (same_number u, length-with_last (events setting u before)) (counts_asked _ _ _ _ _ _ _ k m.none_held m.none_pending)
own_counts setting (Push u) starved before k none =
    let m = may_push setting before u starved none in
    rw (same_number u) (counts_pushed _ _ _ _ _ _ _ k m.one_held m.has_room)
own_counts setting (Effect u) starved before k none =
    let m = may_effect setting before u starved none in
    rw (same_number u) (counts_answered _ _ _ _ _ _ _ k m.one_pending m.no_answer)
own_counts setting (Say u answer) starved before k none =
    let m = (may_say setting before u answer starved none).0 in
    rw (same_number u) (counts_answered _ _ _ _ _ _ _ k m.one_pending m.no_answer)
own_counts setting (Ret u) starved before k none =
    let m = may_return setting before u starved none in
    let some : is_some (answered setting u before) ≡ true = has_answer setting u before (omega arith) in
    rw (same_number u, length-with_map (events setting u before) _ (answered setting u before) some)
    (counts_returned _ _ _ _ _ _ _ k m.none_held m.one_pending m.has_answer)
own_counts setting (Drain u m) starved before k none = rw (same_number u) (counts_drained _ _ _ _ _ _ _ k m)
own_counts setting (Close u) starved before k none = k

-- the counts after one more step
pub counts_go_on : (setting : Setting) (t : ℕ) (before : List Step) (attempt : Attempt) → Counted setting t before
    → refusal setting before attempt ≡ None → Counted setting t (attempt.step ∷ before)
counts_go_on setting t before attempt k none = elim (cases_eq (thread_of attempt.step) t) [
  | inl same ↦
      let P : ℕ → Type 0 = λ v. Counted setting v before → Counted setting v (attempt.step ∷ before) in
      subst P same (λ own. own_counts setting attempt.step attempt.starved before own none) k
  | inr other ↦ other_counts setting t attempt.step before other k
]

-- the counts of a thread are related in this way after every schedule
pub counted : (setting : Setting) (t : ℕ) (schedule : List Attempt) → Counted setting t (accepted setting schedule)
counted setting t schedule = after_each setting (Counted setting t) (counts_none setting.ring) (counts_go_on setting t) schedule
