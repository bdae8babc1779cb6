-- The counts of all threads together.
use Rattle.std.proofs.Common.{◌≡◌, ℕ, zero, suc, ◌+◌, ◌*◌, ◌<◌, ◌≤◌, Bool, true, false, cond, List, ◌∷◌}
use Rattle.std.proofs.Common.{length, None, refl, sym, ap, ◌∙◌, inl, inr}
use Rattle.std.proofs.Common.{arith, eqb, subst}
use Rattle.std.proofs.lemmas.Bool.{ne_eqb, cases_eq}
use Rattle.event_records.specs.declared.limits.TheConstants.{MAX_OPERATIONS}
use Rattle.recorder_core.specs.declared.step.Step.{Step}
use Rattle.recorder_core.specs.declared.step.Step.TheVariants.{AskEnq, AskDeq, Push, Effect, Say, Ret, Drain, Close}
use Rattle.recorder_core.specs.Setting.{Setting}
use Rattle.recorder_core.specs.View.{MachineView}
use Rattle.recorder_core.specs.Schedule.{Attempt, refusal, accepted, asks, all_asks, returns, tickets}
use Rattle.recorder_core.specs.After.{IsReachable}
use Rattle.recorder_core.proofs.Runs.{same_number, after_each, may_ask, may_return}
use Rattle.recorder_core.proofs.Counts.{Counted, counted}

-- the sum over the first n threads
abbrev pub total : (ℕ → ℕ) → ℕ → ℕ
total f zero = 0
total f (suc n) = total f n + f n

-- a sum of smaller terms is smaller
pub total_below : (f g : ℕ → ℕ) (n : ℕ) → ((t : ℕ) → f t ≤ g t) → total f n ≤ total g n
total_below f g zero h = omega arith
total_below f g (suc n) h = omega (arith, total_below f g n h, h n)

total_same : (f : ℕ → ℕ) (u n : ℕ) → n ≤ u → total (λ t. cond (eqb u t) (suc (f t)) (f t)) n ≡ total f n
total_same f u zero h = refl
total_same f u (suc n) h =
    let ne : u ≡ n → ⊥ = λ e. omega arith in
    rw (ne_eqb u n ne) (ap (λ (s : ℕ). s + f n) (total_same f u n (omega arith)))

-- one more in one thread is one more in the sum
pub total_more : (f : ℕ → ℕ) (u n : ℕ) → u < n → total (λ t. cond (eqb u t) (suc (f t)) (f t)) n ≡ suc (total f n)
total_more f u zero h = absurd (omega arith)
total_more f u (suc n) h = elim (cases_eq u n) [
  | inl same ↦
      let e : eqb u n ≡ true = rw same (same_number n) in
      rw e (omega (arith, total_same f u n (omega arith)))
  | inr other ↦ rw (ne_eqb u n other) (omega (arith, total_more f u n (omega arith)))
]

total_like : (f g : ℕ → ℕ) (n : ℕ) → ((t : ℕ) → f t ≡ g t) → total f n ≡ total g n
total_like f g zero h = refl
total_like f g (suc n) h = omega (arith, total_like f g n h, h n)

longer : {X : Type 0} (b : Bool) (x : X) (xs : List X)
    → length (cond b (x ∷ xs) xs) ≡ cond b (suc (length xs)) (length xs)
longer true x xs = refl
longer false x xs = refl

-- the asks of all threads are the sum of those of each; each ticket is that of an ask or of a return
pub record AddUp (threads asked ticketed : ℕ) (asked_by returned_by : ℕ → ℕ) : Type 0 where
  pub asks_are : asked ≡ total asked_by threads
  pub tickets_are : ticketed ≡ asked + total returned_by threads
  pub limited : asked ≤ MAX_OPERATIONS

-- facts about all threads together
abbrev pub Added : Setting → List Step → Type 0
Added setting steps = AddUp setting.threads (all_asks steps) (tickets steps) (λ t. asks t steps) (λ t. returns t steps)

adds_step : (setting : Setting) (step : Step) (starved : Bool) (before : List Step) → Added setting before
    → refusal setting before (record { step = step; starved = starved }) ≡ None → Added setting (step ∷ before)
adds_step setting (AskEnq u) starved before k none =
    let m = may_ask setting before u starved none in
    let e = total_like (λ t. asks t (AskEnq u ∷ before)) _ setting.threads (λ t. longer (eqb u t) (AskEnq u) _)
    ∙ total_more (λ t. asks t before) u setting.threads m.known in
    record { asks_are = ap suc k.asks_are ∙ sym e; tickets_are = omega (arith, k.tickets_are); limited = m.machine_may }
adds_step setting (AskDeq u) starved before k none =
    let m = may_ask setting before u starved none in
    let e = total_like (λ t. asks t (AskDeq u ∷ before)) _ setting.threads (λ t. longer (eqb u t) (AskDeq u) _)
    ∙ total_more (λ t. asks t before) u setting.threads m.known in
    record { asks_are = ap suc k.asks_are ∙ sym e; tickets_are = omega (arith, k.tickets_are); limited = m.machine_may }
adds_step setting (Push u) starved before k none = k
adds_step setting (Effect u) starved before k none = k
adds_step setting (Say u answer) starved before k none = k
adds_step setting (Ret u) starved before k none =
    let m = may_return setting before u starved none in
    let e = total_like (λ t. returns t (Ret u ∷ before)) _ setting.threads (λ t. longer (eqb u t) (Ret u) _)
    ∙ total_more (λ t. returns t before) u setting.threads m.known in
    record { asks_are = k.asks_are; tickets_are = omega (arith, k.tickets_are, e); limited = k.limited }
adds_step setting (Drain u n) starved before k none = k
adds_step setting (Close u) starved before k none = k

none_yet : (n : ℕ) → 0 ≡ total (λ t. 0) n
none_yet zero = refl
none_yet (suc n) = omega (arith, none_yet n)

-- these hold after any schedule
pub added : (setting : Setting) (schedule : List Attempt) → Added setting (accepted setting schedule)
added setting schedule = after_each setting (Added setting)
    (record { asks_are = none_yet setting.threads; tickets_are = omega (arith, none_yet setting.threads); limited = omega arith })
    (λ before attempt k none. adds_step setting attempt.step attempt.starved before k none) schedule

-- no schedule takes more than two tickets for each operation that may be asked
pub tickets_limited : (setting : Setting) (schedule : List Attempt)
    → tickets (accepted setting schedule) ≤ 2 * MAX_OPERATIONS
tickets_limited setting schedule =
    let k = added setting schedule in
    let steps = accepted setting schedule in
    let b : total (λ t. returns t steps) setting.threads ≤ total (λ t. asks t steps) setting.threads =
    total_below _ _ setting.threads (λ t. let c : Counted setting t steps = counted setting t schedule in omega (arith, c.returned_below, c.answered_below)) in
    omega (arith, k.limited, k.tickets_are, k.asks_are, b)

-- a reachable machine has asked no more than it may, and has taken at most two tickets for each operation
pub is_small : (machine : MachineView) → IsReachable machine
    → (machine.asked ≤ MAX_OPERATIONS) × (machine.next_ticket ≤ 2 * MAX_OPERATIONS)
is_small machine (setting, schedule, after) = (
  omega (arith, after.asked, (added setting schedule).limited),
  omega
      (arith, after.next_ticket, tickets_limited setting schedule),
)

-- ---- sums of two kinds, thread by thread

-- a bound by doubles holds of sums
pub total_doubled : (f g : ℕ → ℕ) (n : ℕ) → ((t : ℕ) → t < n → 2 * f t ≤ g t) → 2 * total f n ≤ total g n
total_doubled f g zero h = omega arith
total_doubled f g (suc n) h = omega (arith, total_doubled f g n (λ t below. h t (omega arith)), h n (omega arith))

-- the bound of sums, with two to spare in one thread
pub total_doubled_less : (f g : ℕ → ℕ) (u n : ℕ) → ((t : ℕ) → t < n → 2 * f t ≤ g t) → u < n → 2 * f u + 2 ≤ g u
    → 2 * total f n + 2 ≤ total g n
total_doubled_less f g u zero h within more = absurd (omega arith)
total_doubled_less f g u (suc n) h within more = elim (cases_eq u n) [
  | inl same ↦
      let here : 2 * f n + 2 ≤ g n = subst (λ (t : ℕ). 2 * f t + 2 ≤ g t) same more in
      omega (arith, total_doubled f g n (λ t below. h t (omega arith)), here)
  | inr other ↦ omega (arith, total_doubled_less f g u n (λ t below. h t (omega arith)) (omega arith) more, h n (omega arith))
]
