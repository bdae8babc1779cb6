-- The place of an event's step in a schedule.
use Rattle.std.proofs.Common.{◌≡◌, ℕ, suc, ◌<◌, ◌≤◌, Bool, true, false, cond, List, [], ◌∷◌, ◌++◌, length, take, drop}
use Rattle.std.proofs.Common.{Option, Some, None, refl, sym}
use Rattle.std.proofs.Common.{ap, ◌∙◌, subst, inl, inr, ◌⊎◌, arith, eqb, Contains}
use Rattle.std.proofs.lemmas.List.{take-append-drop}
use Rattle.std.proofs.lemmas.List.Elements.{Contains-append_left, Contains-push_cases}
use Rattle.std.proofs.lemmas.Option.{same_Some}
use Rattle.std.specs.Option.{is_none, option_map}
use Rattle.std.specs.List.{filter}
use Rattle.event_records.specs.declared.event.Event.{Event}
use Rattle.recorder_core.specs.declared.step.Step.{Step}
use Rattle.recorder_core.specs.declared.step.Step.TheVariants.{AskEnq, AskDeq, Push, Effect, Say, Ret, Drain, Close}
use Rattle.recorder_core.specs.declared.step.StepRefused.{StepRefused}
use Rattle.recorder_core.specs.Setting.{Setting}
use Rattle.recorder_core.specs.Schedule.{Attempt, refusal, accepted, events, event_of, with_last, tickets}
use Rattle.recorder_core.specs.Schedule.{is_ticket_step, drained, answered}
use Rattle.recorder_core.specs.Laws.{Gives, StandsBefore, collected_in}
use Rattle.recorder_core.proofs.Closing.{accepted_is}

-- the place of an event's step
pub record Place (setting : Setting) (schedule : List Attempt) (event : Event) : Type 0 where
  pub later : List Attempt
  pub attempt : Attempt
  pub before : List Attempt
  pub schedule_is : schedule ≡ later ++ attempt ∷ before
  pub gives : Gives setting before attempt event

further : (setting : Setting) (schedule : List Attempt) (event : Event) (latest : Attempt)
    → Place setting schedule event
    → Place setting (latest ∷ schedule) event
further setting schedule event latest p = record {
  later = latest ∷ p.later;
  attempt = p.attempt;
  before = p.before;
  schedule_is = ap (λ (l : List Attempt). latest ∷ l) p.schedule_is;
  gives = p.gives;
}

of_if : {X Y : Type 0} (b : Bool) (x y : X) (f : X → Y) (z : Y) → f x ≡ z → cond b (Some x) None ≡ Some y → f y ≡ z
of_if true x y f z h is = ap f (sym (same_Some x y is)) ∙ h
of_if false x y f z h is = cc

of_if_map : {X Y Z : Type 0} (b : Bool) (g : X → Y) (o : Option X) (y : Y) (f : Y → Z) (z : Z)
    → ((x : X) → f (g x) ≡ z)
    → cond b (option_map g o) None ≡ Some y → f y ≡ z
of_if_map true g None y f z h is = cc
of_if_map true g (Some x) y f z h is = ap f (sym (same_Some (g x) y is)) ∙ h x
of_if_map false g o y f z h is = cc

-- the event of t that a step gives is of thread t, takes the next ticket, and comes from a ticket step
pub event_is : (setting : Setting) (t : ℕ) (step : Step) (before : List Step) (event : Event)
    → event_of setting t step before ≡ Some event
    → (event.thread ≡ t) × (event.ticket ≡ tickets before) × (is_ticket_step step ≡ true)
event_is setting t (AskEnq u) before event is = (
  of_if (eqb u t) _ event (λ e. e.thread) t refl is,
  of_if (eqb u t) _ event (λ e. e.ticket)
      (tickets before) refl is,
  refl,
)
event_is setting t (AskDeq u) before event is = (
  of_if (eqb u t) _ event (λ e. e.thread) t refl is,
  of_if (eqb u t) _ event (λ e. e.ticket)
      (tickets before) refl is,
  refl,
)
event_is setting t (Push u) before event is = cc
event_is setting t (Effect u) before event is = cc
event_is setting t (Say u answer) before event is = cc
event_is setting t (Ret u) before event is = (
  of_if_map (eqb u t) _ (answered setting t before) event (λ e. e.thread) t (λ a. refl) is,
  of_if_map
      (eqb u t) _ (answered setting t before) event (λ e. e.ticket) (tickets before) (λ a. refl) is,
  refl,
)
event_is setting t (Drain u n) before event is = cc
event_is setting t (Close u) before event is = cc

by_last : (setting : Setting) (t : ℕ) (before : List Attempt) (attempt : Attempt) (event : Event) (xs : List Event)
    (o : Option Event)
    → (Contains xs event → Place setting before event) → refusal setting (accepted setting before) attempt ≡ None
    → event_of setting t attempt.step (accepted setting before) ≡ o → Contains (with_last xs o) event → Place setting (attempt ∷ before) event
by_last setting t before attempt event xs None ih none is h = further setting before event attempt (ih h)
by_last setting t before attempt event xs (Some e) ih none is h = elim (Contains-push_cases xs e event h) [
  | inl earlier ↦ further setting before event attempt (ih earlier)
  | inr same ↦
      let is' : event_of setting t attempt.step (accepted setting before) ≡ Some event = is ∙ ap Some same in
      let own = (event_is setting t attempt.step (accepted setting before) event is').0 in
      record {
        later = [];
        attempt = attempt;
        before = before;
        schedule_is = refl;
        gives = (none, ap (λ (v : ℕ). event_of setting v attempt.step (accepted setting before)) own ∙ is');
      }
]

by_refusal : (setting : Setting) (t : ℕ) (before : List Attempt) (attempt : Attempt) (event : Event)
    (r : Option StepRefused)
    → (Contains (events setting t (accepted setting before)) event → Place setting before event)
    → refusal setting (accepted setting before) attempt ≡ r → Contains
    (events setting t (cond (is_none r) (attempt.step ∷ accepted setting before) (accepted setting before))) event
    → Place setting (attempt ∷ before) event
by_refusal setting t before attempt event (Some r) ih is h = further setting before event attempt (ih h)
by_refusal setting t before attempt event None ih is h = by_last setting t before attempt event (events setting t (accepted setting before))
    (event_of setting t attempt.step (accepted setting before)) ih is refl h

-- each event has its place
pub place_of : (setting : Setting) (t : ℕ) (schedule : List Attempt) (event : Event)
    → Contains (events setting t (accepted setting schedule)) event
    → Place setting schedule event
place_of setting t [] event (k, within, is) = absurd (omega arith)
place_of setting t (attempt ∷ before) event h =
    by_refusal setting t before attempt event (refusal setting (accepted setting before) attempt) (place_of setting t before event) refl h

-- tickets are never taken back
kept_tickets : (r : Option StepRefused) (step : Step) (steps : List Step)
    → tickets steps ≤ tickets (cond (is_none r) (step ∷ steps) steps)
kept_tickets (Some r) step steps = omega arith
kept_tickets None step steps = one (is_ticket_step step)
  where
    one : (b : Bool) → tickets steps
        ≤ length (cond b (step ∷ filter is_ticket_step steps) (filter is_ticket_step steps))
    one true = omega arith
    one false = omega arith

-- tickets never fall
pub tickets_rise : (setting : Setting) (later before : List Attempt)
    → tickets (accepted setting before) ≤ tickets (accepted setting (later ++ before))
tickets_rise setting [] before = omega arith
tickets_rise setting (attempt ∷ later) before =
    omega (
      arith,
      tickets_rise setting later before,
      kept_tickets (refusal setting (accepted setting (later ++ before)) attempt) attempt.step
          (accepted setting (later ++ before)),
    )

ticket_is : (setting : Setting) (before : List Attempt) (attempt : Attempt) (event : Event)
    → Gives setting before attempt event
    → (event.ticket ≡ tickets (accepted setting before))
    × (tickets (accepted setting (attempt ∷ before)) ≡ suc (tickets (accepted setting before)))
ticket_is setting before attempt event gives =
    let e = event_is setting event.thread attempt.step (accepted setting before) event gives.1 in
    (e.1, rw (accepted_is setting before attempt gives.0, e.2) refl)

-- the later of two places has the higher ticket
pub later_is_higher : (setting : Setting) (between before : List Attempt) (one other : Attempt) (first second : Event)
    → Gives setting before one first → Gives setting (between ++ one ∷ before) other second
    → first.ticket < second.ticket
later_is_higher setting between before one other first second g h =
    let a = ticket_is setting before one first g in
    let b = ticket_is setting (between ++ one ∷ before) other second h in
    omega (arith, a.0, a.1, b.0, tickets_rise setting between (one ∷ before))

-- two places in one list
two_places : (xs ys : List Attempt) (a b : Attempt) (p q : List Attempt) → xs ++ a ∷ p ≡ ys ++ b ∷ q
    → (p ≡ q) ⊎ (((mid : List Attempt) × (q ≡ mid ++ a ∷ p)) ⊎ ((mid : List Attempt) × (p ≡ mid ++ b ∷ q)))
two_places [] [] a b p q h = inl (ap (drop 1) h)
two_places [] (y ∷ ys) a b p q h = inr (inr (ys, ap (drop 1) h))
two_places (x ∷ xs) [] a b p q h = inr (inl (xs, sym (ap (drop 1) h)))
two_places (x ∷ xs) (y ∷ ys) a b p q h = two_places xs ys a b p q (ap (drop 1) h)

-- the event with the lower ticket comes first
pub lower_stands_before : (setting : Setting) (schedule : List Attempt) (first second : Event)
    → Place setting schedule first
    → Place setting schedule second → first.ticket < second.ticket → StandsBefore setting schedule first second
lower_stands_before setting schedule first second x y less =
    let a = ticket_is setting x.before x.attempt first x.gives in
    let b = ticket_is setting y.before y.attempt second y.gives in
    elim (two_places x.later y.later x.attempt y.attempt x.before y.before (sym x.schedule_is ∙ y.schedule_is)) [
      | inl same ↦
          let e = ap (λ (l : List Attempt). tickets (accepted setting l)) same in
          absurd (omega (arith, a.0, b.0, e, less))
      | inr (inl (mid, is)) ↦ record {
        before = x.before;
        one = x.attempt;
        between = mid;
        other = y.attempt;
        later = y.later;
        schedule_is = y.schedule_is ∙ ap (λ (l : List Attempt). y.later ++ y.attempt ∷ l) is;
        gives_first = x.gives;
        gives_second = subst (λ (l : List Attempt). Gives setting l y.attempt second) is y.gives;
      }
      | inr (inr (mid, is)) ↦
          let more = later_is_higher setting mid y.before y.attempt x.attempt second first y.gives
          (subst (λ (l : List Attempt). Gives setting l x.attempt first) is x.gives) in
          absurd (omega (arith, more, less))
    ]

-- the event that comes first has the lower ticket
pub stands_before_is_lower : (setting : Setting) (schedule : List Attempt) (first second : Event)
    → StandsBefore setting schedule first second
    → first.ticket < second.ticket
stands_before_is_lower setting schedule first second s = later_is_higher setting s.between s.before s.one s.other first second s.gives_first s.gives_second

-- a collected event of a thread is an event of it
pub collected_is_event : (setting : Setting) (schedule : List Attempt) (t : ℕ) (event : Event)
    → Contains (collected_in setting schedule t) event
    → Contains (events setting t (accepted setting schedule)) event
collected_is_event setting schedule t event h =
    let steps = accepted setting schedule in
    subst (λ (l : List Event). Contains l event) (take-append-drop (drained t steps) (events setting t steps))
    (Contains-append_left (take (drained t steps) (events setting t steps)) (drop (drained t steps) (events setting t steps)) event h)
