-- A closed thread doesn't change.
use Rattle.std.proofs.Common.{◌≡◌, ℕ, ◌+◌, ◌<◌, ◌≤◌, Bool, true, false, cond, List, [], ◌∷◌, ◌++◌, Option, None, Some}
use Rattle.std.proofs.Common.{refl, subst, inl, inr, arith}
use Rattle.std.proofs.lemmas.Bool.{ne_eqb, cases_eq, lt-leb, or_right}
use Rattle.std.proofs.lemmas.List.{take_all}
use Rattle.std.specs.Option.{is_none}
use Rattle.recorder_core.specs.declared.step.Step.{Step}
use Rattle.recorder_core.specs.declared.step.Step.TheVariants.{AskEnq, AskDeq, Push, Effect, Say, Ret, Drain, Close}
use Rattle.recorder_core.specs.declared.step.StepRefused.{StepRefused}
use Rattle.recorder_core.specs.declared.step.StepRefused.TheVariants.{Closed}
use Rattle.recorder_core.specs.Setting.{Setting}
use Rattle.recorder_core.specs.Schedule.{Attempt, refusal, accepted, asks, returns, pushes, drained, events, is_closed}
use Rattle.recorder_core.specs.Schedule.{is_close, thread_of}
use Rattle.recorder_core.specs.Laws.{IsDone, NeedsOpenThread, events_in, collected_in}
use Rattle.recorder_core.proofs.Runs.{same_number, after_each, may_ask, may_push, may_return, may_close}
use Rattle.recorder_core.proofs.Counts.{Counted, counted}

-- a closed thread holds no event and has no pending operation
abbrev pub ClosedIdle : ℕ → List Step → Type 0
ClosedIdle t steps = is_closed t steps ≡ true → (asks t steps + returns t steps ≤ pushes t steps) × (asks t steps ≤ returns t steps)

other_closed : (t : ℕ) (step : Step) (before : List Step) → (thread_of step ≡ t → ⊥) → ClosedIdle t before
    → ClosedIdle t (step ∷ before)
other_closed t (AskEnq u) before ne k = rw (ne_eqb u t ne) k
other_closed t (AskDeq u) before ne k = rw (ne_eqb u t ne) k
other_closed t (Push u) before ne k = rw (ne_eqb u t ne) k
other_closed t (Effect u) before ne k = k
other_closed t (Say u answer) before ne k = k
other_closed t (Ret u) before ne k = rw (ne_eqb u t ne) k
other_closed t (Drain u n) before ne k = k
other_closed t (Close u) before ne k = rw (ne_eqb u t ne) k

no_way : {A : Type 0} (b : Bool) → b ≡ false → b ≡ true → A
no_way b p q = cc

own_closed : (setting : Setting) (step : Step) (starved : Bool) (before : List Step)
    → ClosedIdle (thread_of step) before
    → refusal setting before (record { step = step; starved = starved }) ≡ None
    → ClosedIdle (thread_of step) (step ∷ before)
own_closed setting (AskEnq u) starved before k none closed = no_way (is_closed u before) (may_ask setting before u starved none).open_still closed
own_closed setting (AskDeq u) starved before k none closed = no_way (is_closed u before) (may_ask setting before u starved none).open_still closed
own_closed setting (Push u) starved before k none closed = no_way (is_closed u before) (may_push setting before u starved none).open_still closed
own_closed setting (Effect u) starved before k none closed = k closed
own_closed setting (Say u answer) starved before k none closed = k closed
own_closed setting (Ret u) starved before k none closed = no_way (is_closed u before) (may_return setting before u starved none).open_still closed
own_closed setting (Drain u n) starved before k none closed = k closed
own_closed setting (Close u) starved before k none closed = let m = may_close setting before u starved none in (m.none_held, m.none_pending)

closed_goes_on : (setting : Setting) (t : ℕ) (before : List Step) (attempt : Attempt) → ClosedIdle t before
    → refusal setting before attempt ≡ None
    → ClosedIdle t (attempt.step ∷ before)
closed_goes_on setting t before attempt k none = elim (cases_eq (thread_of attempt.step) t) [
  | inl same ↦
      let P : ℕ → Type 0 = λ v. ClosedIdle v before → ClosedIdle v (attempt.step ∷ before) in
      subst P same (λ own. own_closed setting attempt.step attempt.starved before own none) k
  | inr other ↦ other_closed t attempt.step before other k
]

-- a closed thread holds no event and has no pending operation, after any schedule
pub closed_idle : (setting : Setting) (t : ℕ) (schedule : List Attempt) → ClosedIdle t (accepted setting schedule)
closed_idle setting t schedule = after_each setting (ClosedIdle t) (λ closed. (omega arith, omega arith)) (closed_goes_on setting t) schedule

-- a done schedule has collected all events of each thread
pub all_collected : (setting : Setting) (schedule : List Attempt) → IsDone setting schedule → (t : ℕ)
    → t < setting.threads
    → collected_in setting schedule t ≡ events_in setting schedule t
all_collected setting schedule done t within =
    let steps = accepted setting schedule in
    let d = done t within in
    let k : Counted setting t steps = counted setting t schedule in
    let c = (closed_idle setting t schedule d.0).0 in
    take_all (drained t steps) (events setting t steps) (omega (arith, k.events_are, d.1, c))

-- a closed thread stays closed after one more step
stays : (t : ℕ) (r : Option StepRefused) (step : Step) (before : List Step) → is_closed t before ≡ true
    → is_closed t (cond (is_none r) (step ∷ before) before) ≡ true
stays t None step before h = or_right (is_close t step) (is_closed t before) h
stays t (Some refused) step before h = h

-- a closed thread stays closed
pub stays_closed : (setting : Setting) (t : ℕ) (later before : List Attempt)
    → is_closed t (accepted setting before) ≡ true
    → is_closed t (accepted setting (later ++ before)) ≡ true
stays_closed setting t [] before h = h
stays_closed setting t (attempt ∷ later) before h =
    stays t (refusal setting (accepted setting (later ++ before)) attempt) attempt.step (accepted setting (later ++ before))
    (stays_closed setting t later before h)

-- each step of a closed thread but a drain is refused
closed_refused : (setting : Setting) (steps : List Step) (step : Step) (starved : Bool) → NeedsOpenThread step
    → thread_of step < setting.threads
    → is_closed (thread_of step) steps ≡ true
    → refusal setting steps (record { step = step; starved = starved }) ≡ Some Closed
closed_refused setting steps (AskEnq u) starved o within closed = rw (lt-leb setting.threads u within, closed) refl
closed_refused setting steps (AskDeq u) starved o within closed = rw (lt-leb setting.threads u within, closed) refl
closed_refused setting steps (Push u) starved o within closed = rw (lt-leb setting.threads u within, closed) refl
closed_refused setting steps (Effect u) starved o within closed = rw (lt-leb setting.threads u within, closed) refl
closed_refused setting steps (Say u answer) starved o within closed = rw (lt-leb setting.threads u within, closed) refl
closed_refused setting steps (Ret u) starved o within closed = rw (lt-leb setting.threads u within, closed) refl
closed_refused setting steps (Drain u n) starved o within closed = absurd o
closed_refused setting steps (Close u) starved o within closed = rw (lt-leb setting.threads u within, closed) refl

-- an accepted attempt is the latest accepted step
pub accepted_is : (setting : Setting) (before : List Attempt) (attempt : Attempt)
    → refusal setting (accepted setting before) attempt ≡ None
    → accepted setting (attempt ∷ before) ≡ attempt.step ∷ accepted setting before
accepted_is setting before attempt none = rw none refl

-- a refused step changes nothing
pub refused_is : (setting : Setting) (before : List Attempt) (attempt : Attempt) (r : StepRefused)
    → refusal setting (accepted setting before) attempt ≡ Some r
    → accepted setting (attempt ∷ before) ≡ accepted setting before
refused_is setting before attempt r is = rw is refl

-- after its close a thread takes no step of its own
pub closes : (setting : Setting) (before later : List Attempt) (close attempt : Attempt)
    → close.step ≡ Close (thread_of attempt.step)
    → refusal setting (accepted setting before) close ≡ None → NeedsOpenThread attempt.step
    → refusal setting (accepted setting (later ++ close ∷ before)) attempt ≡ Some Closed
closes setting before later close attempt is none o =
    let t = thread_of attempt.step in
    let none' : refusal setting (accepted setting before) (record { step = Close t; starved = close.starved }) ≡ None =
    subst (λ (s : Step). refusal setting (accepted setting before) (record { step = s; starved = close.starved }) ≡ None) is none in
    let m = may_close setting (accepted setting before) t close.starved none' in
    let here : is_closed t (accepted setting (close ∷ before)) ≡ true =
    rw (accepted_is setting before close none, is, same_number t) refl in
    closed_refused setting (accepted setting (later ++ close ∷ before)) attempt.step attempt.starved o m.known
    (stays_closed setting t later (close ∷ before) here)
