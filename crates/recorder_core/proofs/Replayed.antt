-- The end of a replay: every thread is closed, and every list is collected.
use Rattle.std.proofs.Common.{◌≡◌, ℕ, zero, suc, ◌+◌, ◌<◌, ◌≤◌, Bool, true, ◌||◌, ◌&&◌, List, [], ◌∷◌, ◌++◌}
use Rattle.std.proofs.Common.{length, get_or, map, Some, refl, sym}
use Rattle.std.proofs.Common.{◌∙◌, ap, subst, inl, inr, arith, eqb, ltb}
use Rattle.std.specs.Prelude.{Contains, slice_get, flat_map, not}
use Rattle.std.specs.List.{range_with_len, list_all}
use Rattle.std.proofs.lemmas.Bool.{cases_eq, cases_lt, ne_eqb, eq-eqb, lt-ltb, le-ltb}
use Rattle.std.proofs.lemmas.List.{append-nil, take_all}
use Rattle.std.proofs.lemmas.List.FromFn.{fill_by_all}
use Rattle.std.proofs.lemmas.List.Elements.{All-contains, Contains-append_right}
use Rattle.std.proofs.lemmas.List.Sorted.{Contains-permutation}
use Rattle.std.proofs.lemmas.Option.{slice_get-get_or}
use Rattle.event_records.specs.declared.event.Event.{Event}
use Rattle.event_records.specs.Turns.{TakesTurns}
use Rattle.recorder_core.specs.declared.step.Step.{Step}
use Rattle.recorder_core.specs.declared.step.Step.TheVariants.{Close}
use Rattle.recorder_core.specs.Setting.{Setting}
use Rattle.recorder_core.specs.Schedule.{Attempt, asks, returns, pushes, drained, events, is_closed}
use Rattle.recorder_core.specs.Laws.{collected_in}
use Rattle.recorder_core.specs.Replay.{Replays, is_effect, setting_for}
use Rattle.recorder_core.proofs.Members.{contains_joined, contains_range, nil_from_none}
use Rattle.recorder_core.proofs.Fitting.{AreFit}
use Rattle.recorder_core.proofs.Granted.{AllGranted, granted_attempt, one_granted, granted_recorded, close_granted}
use Rattle.recorder_core.proofs.Turns.{turns_from_call}
use Rattle.recorder_core.proofs.Replaying.{IsReplayed, replayed, without_effects}
use Rattle.history_merge.proofs.Lists.{mapped_to}

-- the events of t are its list, all of them collected, and it may be closed
pub record IsCollected (setting : Setting) (t : ℕ) (list : List Event) (steps : List Step) : Type 0 where
  pub pushed : pushes t steps ≡ asks t steps + returns t steps
  pub all_drained : drained t steps ≡ pushes t steps
  pub none_pending : asks t steps ≤ returns t steps
  pub events_are : events setting t steps ≡ list

module _ (lists : List (List Event)) (fit : AreFit lists) (ring : ℕ) (initial : List ℕ) (room : 1 ≤ ring) where
  abbrev on : Setting
  on = setting_for ring initial lists

  abbrev all : List Event
  all = flat_map (λ (list : List Event). list) lists

  -- the first j threads are closed
  record IsClosedUpTo (j : ℕ) : Type 0 where
    pub steps : List Step
    pub granted : AllGranted on steps
    pub silent : without_effects steps ≡ true
    pub closed_are : (t : ℕ) → t < length lists → is_closed t steps ≡ ltb t j
    pub each : (t : ℕ) (list : List Event) → slice_get lists t ≡ Some list → IsCollected on t list steps

  whole : IsReplayed lists fit ring initial room (length all)
  whole = replayed lists fit ring initial room (length all) (omega arith)

  low : (t : ℕ) (list : List Event) (e : Event) → slice_get lists t ≡ Some list → Contains list e
      → e.ticket < length all
  low t list e at among =
      omega (
        arith,
        contains_range 0 (length all) e.ticket (Contains-permutation (map (λ (x : Event). x.ticket) all)
            (range_with_len 0 (length all)) e.ticket fit.tickets (mapped_to (λ (x : Event). x.ticket) all e (contains_joined lists t list e at among))),
      )

  list_collected : (t : ℕ) (list : List Event) → slice_get lists t ≡ Some list → IsCollected on t list whole.steps
  list_collected t list at =
      let k = whole.each t list at in
      let c = granted_recorded on t whole.steps whole.granted in
      let none = nil_from_none k.rest (λ e among.
      let in_list = subst (λ (l : List Event). Contains l e) (sym k.list_is) (Contains-append_right (events on t whole.steps) k.rest e among) in
      omega (arith, low t list e at in_list, All-contains (λ (x : Event). length all ≤ x.ticket) k.rest e k.later among)) in
      let is : events on t whole.steps ≡ list = sym (k.list_is ∙ ap (λ (l : List Event). events on t whole.steps ++ l) none
      ∙ append-nil (events on t whole.steps)) in
      record {
        pushed = omega (arith, k.pushed);
        all_drained = k.all_drained;
        none_pending = elim (cases_lt (returns t whole.steps) (asks t whole.steps)) [
          | inl busy ↦
              let b = c.1.busy busy in
              let turns = subst TakesTurns (sym is ∙ b.events_are ∙ sym (append-nil (b.earlier ++ b.call ∷ []))) (fit.each t list at).alternates.takes_turns in
              absurd (turns_from_call b.earlier b.call [] b.take_turns turns)
          | inr idle ↦ idle
        ];
        events_are = is;
      }

  none_closed : IsClosedUpTo 0
  none_closed = record {
    steps = whole.steps;
    granted = whole.granted;
    silent = whole.silent;
    closed_are = λ t within. (whole.each t (get_or lists t []) (slice_get-get_or lists t [] within)).still_open ∙ sym (le-ltb t 0 (omega arith));
    each = list_collected;
  }

  closed_so_far : (t j : ℕ) → (eqb j t || ltb t j) ≡ ltb t (suc j)
  closed_so_far t j = elim (cases_eq j t) [
    | inl same ↦ rw (eq-eqb j t same, lt-ltb t (suc j) (omega arith)) refl
    | inr other ↦ elim (cases_lt t j) [
      | inl below ↦ rw (ne_eqb j t other, lt-ltb t j below, lt-ltb t (suc j) (omega arith)) refl
      | inr above ↦ rw (ne_eqb j t other, le-ltb t j above, le-ltb t (suc j) (omega arith)) refl
    ]
  ]

  one_closed : (j : ℕ) → j < length lists → IsClosedUpTo j → IsClosedUpTo (suc j)
  one_closed j within k =
      let c = k.each j (get_or lists j []) (slice_get-get_or lists j [] within) in
      record {
        steps = Close j ∷ k.steps;
        granted = one_granted on (Close j) k.steps k.granted (close_granted on j k.steps
            (record {
              known = within;
              open_still = k.closed_are j within ∙ le-ltb j j (omega arith);
              none_held =
                  omega (arith, c.pushed);
              none_pending = c.none_pending;
            }));
        silent = k.silent;
        closed_are = λ t below. ap (λ (b : Bool). eqb j t || b) (k.closed_are t below) ∙ closed_so_far t j;
        each = λ t list at. let d = k.each t list at in record {
          pushed = d.pushed;
          all_drained = d.all_drained;
          none_pending =
              d.none_pending;
          events_are = d.events_are;
        };
      }

  closed : (j : ℕ) → j ≤ length lists → IsClosedUpTo j
  closed zero below = none_closed
  closed (suc j) below = one_closed j (omega arith) (closed j (omega arith))

  -- ---- the schedule

  steps_back : (steps : List Step) → map (λ (a : Attempt). a.step) (map granted_attempt steps) ≡ steps
  steps_back [] = refl
  steps_back (step ∷ steps) = ap (λ (l : List Step). step ∷ l) (steps_back steps)

  silent_attempts : (steps : List Step)
      → list_all (λ (a : Attempt). not (is_effect a.step)) (map granted_attempt steps) ≡ without_effects steps
  silent_attempts [] = refl
  silent_attempts (step ∷ steps) = ap (λ (b : Bool). not (is_effect step) && b) (silent_attempts steps)

  -- there is a schedule that collects lists that fit
  pub lists_replay : Replays ring initial lists
  lists_replay =
      let end = closed (length lists) (omega arith) in
      let schedule = map granted_attempt end.steps in
      let collected : (t : ℕ) → t < length lists → get_or lists t [] ≡ collected_in on schedule t = λ t within.
      let k = end.each t (get_or lists t []) (slice_get-get_or lists t [] within) in
      let c = granted_recorded on t end.steps end.granted in
      rw end.granted (sym (take_all (drained t end.steps) (events on t end.steps) (omega (arith, c.0.events_are, k.pushed, k.all_drained)) ∙ k.events_are)) in
      record {
        schedule = schedule;
        without_effects = silent_attempts end.steps ∙ end.silent;
        all_accepted = end.granted ∙ sym (steps_back end.steps);
        is_done = λ t within.
            let k = end.each t (get_or lists t []) (slice_get-get_or lists t [] within) in
            rw end.granted (end.closed_are t within ∙ lt-ltb t (length lists) within, sym k.all_drained);
        collects = sym (fill_by_all (collected_in on schedule) lists (length lists) [] refl collected);
      }
