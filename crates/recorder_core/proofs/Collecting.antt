-- The lists that a done schedule collects fit together.
use Rattle.std.proofs.Common.{◌≡◌, ℕ, zero, suc, ◌<◌, ◌≤◌, Bool, List, [], ◌∷◌, ◌++◌, length, map, Some, None, refl}
use Rattle.std.proofs.Common.{sym, ◌∙◌, ap, arith}
use Rattle.std.specs.Prelude.{IsPermutation, slice_get, flat_map}
use Rattle.std.specs.List.{range_with_len}
use Rattle.std.proofs.lemmas.Bool.{ne_eqb}
use Rattle.std.proofs.lemmas.List.{map_push, map-append, length-map}
use Rattle.std.proofs.lemmas.List.FromFn.{length-range_with_len, length-map-range_with_len, get_or-map-range_with_len}
use Rattle.std.proofs.lemmas.List.Sorted.{IsPermutation-sym, IsPermutation-trans, IsPermutation-append_left}
use Rattle.std.proofs.lemmas.List.Sorted.{length_permutation}
use Rattle.std.proofs.lemmas.Option.{slice_get_within, get_or_from_slice_get}
use Rattle.event_records.specs.declared.limits.TheConstants.{MAX_THREADS}
use Rattle.recorder_core.specs.declared.step.Step.{Step}
use Rattle.recorder_core.specs.declared.step.Step.TheVariants.{AskEnq, AskDeq, Push, Effect, Say, Ret, Drain, Close}
use Rattle.recorder_core.specs.Setting.{Setting}
use Rattle.recorder_core.specs.Schedule.{Attempt, refusal, accepted, asks, returns, tickets, events}
use Rattle.recorder_core.specs.Laws.{IsDone, collected_in, events_in, collected_lists}
use Rattle.recorder_core.specs.Replay.{IsListOf}
use Rattle.recorder_core.proofs.Runs.{same_number, after_each, may_ask, may_return}
use Rattle.recorder_core.proofs.Blocks.{no_blocks, blocks, blocks_same, blocks_grow, range_more, joined_blocks}
use Rattle.recorder_core.proofs.Blocks.{same_permutation}
use Rattle.recorder_core.proofs.Closing.{all_collected, closed_idle}
use Rattle.recorder_core.proofs.Events.{CountedAndRecorded, recorded, recorded_goes_on, told_last}
use Rattle.recorder_core.proofs.Fitting.{ticket_of, AreFit}
use Rattle.recorder_core.proofs.Totals.{tickets_limited}

-- ---- the tickets of all threads

-- the tickets of a thread's events
abbrev pub tickets_of : Setting → List Step → ℕ → List ℕ
tickets_of setting steps t = map ticket_of (events setting t steps)

-- the tickets of all events are the tickets taken
abbrev pub TicketsAre : Setting → List Step → Type 0
TicketsAre setting steps = ((t : ℕ) → CountedAndRecorded setting t steps)
    × IsPermutation (range_with_len 0 (tickets steps)) (blocks (tickets_of setting steps) setting.threads)

-- a step of u that gives an event
tickets_grow : (setting : Setting) (step : Step) (before : List Step) (u : ℕ) → u < setting.threads
    → tickets_of setting (step ∷ before) u ≡ tickets_of setting before u ++ tickets before ∷ []
    → ((t : ℕ) → (u ≡ t → ⊥) → tickets_of setting (step ∷ before) t ≡ tickets_of setting before t)
    → tickets (step ∷ before) ≡ suc (tickets before) →
    IsPermutation (range_with_len 0 (tickets before)) (blocks (tickets_of setting before) setting.threads)
    → IsPermutation (range_with_len 0 (tickets (step ∷ before))) (blocks (tickets_of setting (step ∷ before)) setting.threads)
tickets_grow setting step before u within here others more k =
    let a = same_permutation _ _ (ap (range_with_len 0) more ∙ range_more (tickets before)) in
    let b = IsPermutation-append_left (tickets before ∷ []) _ _ k in
    let c = blocks_grow (tickets_of setting before) (tickets_of setting (step ∷ before)) u setting.threads (tickets before ∷ []) within here others in
    IsPermutation-trans _ _ _ a (IsPermutation-trans _ _ _ b c)

tickets_step : (setting : Setting) (step : Step) (starved : Bool) (before : List Step) → TicketsAre setting before
    → refusal setting before (record { step = step; starved = starved }) ≡ None
    → IsPermutation (range_with_len 0 (tickets (step ∷ before)))
    (blocks (tickets_of setting (step ∷ before)) setting.threads)
tickets_step setting (AskEnq u) starved before k none =
    tickets_grow setting (AskEnq u) before u (may_ask setting before u starved none).known
    (rw (same_number u) (map_push ticket_of (events setting u before) _)) (λ t other. rw (ne_eqb u t other) refl) refl k.1
tickets_step setting (AskDeq u) starved before k none =
    tickets_grow setting (AskDeq u) before u (may_ask setting before u starved none).known
    (rw (same_number u) (map_push ticket_of (events setting u before) _)) (λ t other. rw (ne_eqb u t other) refl) refl k.1
tickets_step setting (Ret u) starved before k none =
    let m = may_return setting before u starved none in
    let a = told_last setting u before (k.0 u).1 m.has_answer in
    tickets_grow setting (Ret u) before u m.known (rw (same_number u, a.1) (map_push ticket_of (events setting u before) _))
    (λ t other. rw (ne_eqb u t other) refl) refl k.1
tickets_step setting (Push u) starved before k none = k.1
tickets_step setting (Effect u) starved before k none = k.1
tickets_step setting (Say u answer) starved before k none = k.1
tickets_step setting (Drain u n) starved before k none = k.1
tickets_step setting (Close u) starved before k none = k.1

-- the tickets of all events are those that were drawn
pub tickets_are : (setting : Setting) (schedule : List Attempt) → TicketsAre setting (accepted setting schedule)
tickets_are setting schedule = after_each setting (TicketsAre setting)
    (λ t. recorded setting t [], same_permutation _ _ (no_blocks setting.threads))
    (λ before attempt k none. (
      λ t. recorded_goes_on setting t before attempt (k.0 t) none,
      tickets_step setting attempt.step attempt.starved before k none,
    )) schedule

-- ---- a done schedule

-- the element at a place of a list made by number
pub list_at : {X : Type 0} (f : ℕ → X) (n t : ℕ) (x : X) → slice_get (map f (range_with_len 0 n)) t ≡ Some x
    → (t < n) × (x ≡ f t)
list_at f n t x at =
    let within : t < n = omega (arith, slice_get_within (map f (range_with_len 0 n)) t x at, length-map-range_with_len f 0 n) in
    (within, sym (get_or_from_slice_get (map f (range_with_len 0 n)) t x x at) ∙ get_or-map-range_with_len f 0 n t t x within (omega arith))

-- mapping blocks maps each of them
pub map_blocks : {X Y : Type 0} (h : X → Y) (f : ℕ → List X) (n : ℕ) → map h (blocks f n) ≡ blocks (λ t. map h (f t)) n
map_blocks h f zero = refl
map_blocks {X} {Y} h f (suc n) = map-append h (blocks f n) (f n) ∙ ap (λ (l : List Y). l ++ map h (f n)) (map_blocks h f n)

module _ (setting : Setting) (schedule : List Attempt)
    (few : setting.threads ≤ MAX_THREADS) (done : IsDone setting schedule) where
  -- each call of a thread has its return
  pub all_returned : (t : ℕ) → t < setting.threads
      → asks t (accepted setting schedule) ≡ returns t (accepted setting schedule)
  all_returned t within =
      let c = (recorded setting t schedule).0 in
      omega (arith, (closed_idle setting t schedule (done t within).0).1, c.returned_below, c.answered_below)

  list_of : (t : ℕ) → t < setting.threads → IsListOf t (events_in setting schedule t)
  list_of t within =
      let k = recorded setting t schedule in
      let same = all_returned t within in
      record {
        own = k.1.own;
        alternates = record { takes_turns = k.1.idle same; tickets_rise = k.1.rise };
        names = k.1.named;
        not_too_long = omega (arith, k.0.events_are, same, k.1.few);
      }

  -- all collected events are those of the threads, one thread after another
  pub joined_are : flat_map (λ list. list) (collected_lists setting schedule)
      ≡ blocks (λ t. events_in setting schedule t) setting.threads
  joined_are = joined_blocks (λ t. collected_in setting schedule t) setting.threads ∙ blocks_same _ _ setting.threads (all_collected setting schedule done)

  tickets_joined : IsPermutation (map ticket_of (flat_map (λ list. list) (collected_lists setting schedule)))
      (range_with_len 0 (tickets (accepted setting schedule)))
  tickets_joined = rw (joined_are, map_blocks ticket_of (λ t. events_in setting schedule t) setting.threads)
      (IsPermutation-sym _ _ (tickets_are setting schedule).1)

  many_joined : length (flat_map (λ list. list) (collected_lists setting schedule))
      ≡ tickets (accepted setting schedule)
  many_joined = omega (
    arith,
    length_permutation _ _ tickets_joined,
    length-map
        (flat_map (λ list. list) (collected_lists setting schedule)) ticket_of,
    length-range_with_len 0 (tickets (accepted setting schedule)),
  )

  -- the collected lists fit
  pub collected_is_fit : AreFit (collected_lists setting schedule)
  collected_is_fit = record {
    not_too_many = omega (arith, length-map-range_with_len (λ t. collected_in setting schedule t) 0 setting.threads, few);
    each = λ t list at.
        let l = list_at (λ t. collected_in setting schedule t) setting.threads t list at in
        rw (l.1, all_collected setting schedule done t l.0) (list_of t l.0);
    tickets = rw many_joined tickets_joined;
    not_too_long = omega (arith, many_joined, tickets_limited setting schedule);
  }
