-- Recorded lists merge to a complete history.
use Rattle.std.proofs.Common.{◌≡◌, ◌≢◌, ℕ, zero, suc, ◌*◌, ◌^◌, ◌<◌, ◌≤◌, true, false, List, [], ◌∷◌, length}
use Rattle.std.proofs.Common.{get_or, map, Option, Some, None, refl}
use Rattle.std.proofs.Common.{sym, ◌∙◌, ap, subst, arith, eqb}
use Rattle.std.specs.Prelude.{Contains, IsPermutation, slice_get, flat_map}
use Rattle.std.specs.List.{range_with_len}
use Rattle.std.proofs.lemmas.Bool.{eqb-true, eq-eqb}
use Rattle.std.proofs.lemmas.List.Elements.{All-contains, Contains-get_or}
use Rattle.std.proofs.lemmas.List.Sorted.{length_permutation, IsNonDecreasingBy-from_sort, IsPermutation-sym}
use Rattle.std.proofs.lemmas.List.Sorted.{Contains-permutation}
use Rattle.std.proofs.lemmas.Option.{slice_get_within, slice_get_read, same_Some}
use Rattle.event_records.specs.declared.event.Event.{Event}
use Rattle.event_records.specs.declared.event.What.{What}
use Rattle.event_records.specs.declared.event.What.TheVariants.{CallEnq}
use Rattle.event_records.specs.declared.limits.TheConstants.{MAX_EVENTS, MAX_OPERATIONS, LEAST_INITIAL_NAME}
use Rattle.event_records.specs.Projection.{projection}
use Rattle.event_records.specs.Question.{value_name}
use Rattle.event_records.specs.Turns.{TakesTurns, TicketsRise, is_call}
use Rattle.history_merge.specs.Complete.{IsCompleteHistory, called_value, called_values}
use Rattle.history_merge.specs.Initial.{IsCompleteFrom}
use Rattle.history_merge.specs.Merge.{IsMerged}
use Rattle.event_records.specs.declared.limits.TheConstants.{MAX_THREADS}
use Rattle.recorder_core.specs.Initial.{AreInitialNames}
use Rattle.recorder_core.specs.Replay.{IsListOf, AreRecorded}
use Rattle.recorder_core.proofs.Members.{Below, contains_joined, joined_contains, contains_range}
use Rattle.recorder_core.proofs.Members.{nil_from_none, pairs_filter_map, rising_unique}
use Rattle.recorder_core.proofs.Blocks.{Once, once_apart, once_permutation, once_map, once_range}
use Rattle.history_merge.proofs.Turns.{answer_is_return}
use Rattle.std.proofs.lemmas.List.Kept.{AllPairs-filter}
use Rattle.history_merge.proofs.Lists.{kept, mapped_to, passes_filter, passed_filter, pairs_append}

-- the place of a member
pub place_in : {X : Type 0} (xs : List X) (x : X) → Contains xs x → (k : ℕ) × (slice_get xs k ≡ Some x)
place_in xs x among = (among.0, slice_get_read xs (length xs) among.0 x refl among.1 (sym among.2))

-- if calls and returns take turns, calls are at even places
pub call_at_even : (events : List Event) (k : ℕ) (e : Event) → TakesTurns events → slice_get events k ≡ Some e
    → is_call e.what ≡ true → (n : ℕ) × (k ≡ 2 * n)
call_at_even [] k e turns at calls = cc
call_at_even (call ∷ []) k e turns at calls = absurd turns
call_at_even (call ∷ answer ∷ rest) zero e turns at calls = (zero, refl)
call_at_even (call ∷ answer ∷ rest) (suc zero) e turns at calls =
    let same : answer ≡ e = cc in
    let returns = answer_is_return call.what answer.what turns.0 in
    let clash : true ≡ false = sym calls ∙ ap (λ (z : Event). is_call z.what) (sym same) ∙ returns in
    cc
call_at_even (call ∷ answer ∷ rest) (suc (suc k)) e turns at calls = let more = call_at_even rest k e turns.1 at calls in (suc more.0, omega (arith, more.1))

call_of_value : (what : What) (v : ℕ) → called_value what ≡ Some v → (what ≡ CallEnq v) × (is_call what ≡ true)
call_of_value (CallEnq w) v e = (ap CallEnq (same_Some w v e), refl)
call_of_value _ v e = cc

-- ---- lists that fit together

-- recorded lists; there may be none
pub record AreFit (lists : List (List Event)) : Type 0 where
  pub not_too_many : length lists ≤ MAX_THREADS
  pub each : (t : ℕ) (events : List Event) → slice_get lists t ≡ Some events → IsListOf t events
  pub tickets : let all = flat_map (λ list. list) lists in IsPermutation (map (λ event. event.ticket) all) (range_with_len 0 (length all))
  pub not_too_long : length (flat_map (λ list. list) lists) ≤ 2 * MAX_OPERATIONS

-- an event's ticket
abbrev pub ticket_of : Event → ℕ
ticket_of e = e.ticket

-- no two events of fitting lists have the same ticket
pub once_joined : (lists : List (List Event)) → AreFit lists → Once ticket_of (flat_map (λ list. list) lists)
once_joined lists fit =
    let all = flat_map (λ (list : List Event). list) lists in
    once_map ticket_of all (once_permutation (λ n. n) (range_with_len 0 (length all)) (map ticket_of all) (IsPermutation-sym _ _ fit.tickets)
    (once_range 0 (length all)))

module _ (lists : List (List Event)) (merged : List Event) (fit : AreFit lists) (is : IsMerged lists merged) where
  rises : TicketsRise merged
  rises i j d below within =
      let once = once_permutation ticket_of (flat_map (λ list. list) lists) merged is.holds_each_once (once_joined lists fit) in
      let up = IsNonDecreasingBy-from_sort ticket_of merged is.tickets_rise i j d (omega arith) within in
      let apart : ticket_of (get_or merged i d) ≢ ticket_of (get_or merged j d) = once_apart ticket_of merged once i j d below within in
      omega arith

  -- an event of the merged list is one of the joined lists
  joined : (e : Event) → Contains merged e → Contains (flat_map (λ list. list) lists) e
  joined e among = Contains-permutation merged (flat_map (λ list. list) lists) e (IsPermutation-sym _ _ is.holds_each_once) among

  -- an event of the merged list is in the list of its thread
  pub owned : (e : Event) → Contains merged e
      → (list : List Event) × (slice_get lists e.thread ≡ Some list) × Contains list e
  owned e among =
      let m = joined_contains lists e (joined e among) in
      let own = All-contains (λ (x : Event). x.thread ≡ m.0) m.1 e (fit.each m.0 m.1 m.2).own m.3 in
      (m.1, subst (λ (t : ℕ). slice_get lists t ≡ Some m.1) (sym own) m.2, m.3)

  low_ticket : (e : Event) → Contains merged e → e.ticket < 2 * MAX_OPERATIONS
  low_ticket e among =
      let all = flat_map (λ (list : List Event). list) lists in
      let c = Contains-permutation (map ticket_of all) (range_with_len 0 (length all)) e.ticket fit.tickets (mapped_to ticket_of all e (joined e among)) in
      omega (arith, contains_range 0 (length all) e.ticket c, fit.not_too_long)

  low_thread : (e : Event) → Contains merged e → e.thread < MAX_THREADS
  low_thread e among = let o = owned e among in omega (arith, slice_get_within lists e.thread o.0 o.1, fit.not_too_many)

  -- the projection to a thread is the list of the thread
  pub projection_is : (t : ℕ) (list : List Event) → slice_get lists t ≡ Some list → projection t merged ≡ list
  projection_is t list at = rising_unique (projection t merged) list (AllPairs-filter Below (λ e. eqb e.thread t) merged rises)
      (fit.each t list at).alternates.tickets_rise there back
    where
      there : (e : Event) → Contains (projection t merged) e → Contains list e
      there e among =
          let f = passed_filter (λ (x : Event). eqb x.thread t) merged e among in
          let o = owned e f.0 in
          let same : slice_get lists t ≡ Some o.0 = subst (λ (u : ℕ). slice_get lists u ≡ Some o.0) (eqb-true e.thread t f.1) o.1 in
          subst (λ (l : List Event). Contains l e) (same_Some o.0 list (sym same ∙ at)) o.2

      back : (e : Event) → Contains list e → Contains (projection t merged) e
      back e among =
          let own = All-contains (λ (x : Event). x.thread ≡ t) list e (fit.each t list at).own among in
          let c = Contains-permutation (flat_map (λ l. l) lists) merged e is.holds_each_once (contains_joined lists t list e at among) in
          passes_filter (λ (x : Event). eqb x.thread t) merged e (eq-eqb e.thread t own) c

  takes_turns : (t : ℕ) (o : Option (List Event)) → slice_get lists t ≡ o → TakesTurns (projection t merged)
  takes_turns t (Some list) at = rw (projection_is t list at) (fit.each t list at).alternates.takes_turns
  takes_turns t None at =
      let none = nil_from_none (projection t merged) (λ e among.
      let f = passed_filter (λ (x : Event). eqb x.thread t) merged e among in
      let o = owned e f.0 in
      let same : slice_get lists t ≡ Some o.0 = subst (λ (u : ℕ). slice_get lists u ≡ Some o.0) (eqb-true e.thread t f.1) o.1 in
      cc) in
      rw none tt

  -- the place of an enqueue's call, and the name of its value
  named : (e : Event) (v : ℕ) → Contains merged e → called_value e.what ≡ Some v
      → (list : List Event) × (n : ℕ) × (slice_get lists e.thread ≡ Some list) × (slice_get list (2 * n) ≡ Some e)
      × (v ≡ value_name e.thread n) × (n < 2 ^ 32)
  named e v among called =
      let o = owned e among in
      let own = fit.each e.thread o.0 o.1 in
      let c = call_of_value e.what v called in
      let p = place_in o.0 e o.2 in
      let even = call_at_even o.0 p.0 e own.alternates.takes_turns p.1 c.1 in
      let at : slice_get o.0 (2 * even.0) ≡ Some e = subst (λ (k : ℕ). slice_get o.0 k ≡ Some e) even.1 p.1 in
      (o.0, even.0, o.1, at, own.names even.0 v e at c.0, omega (arith, slice_get_within o.0 (2 * even.0) e at, own.not_too_long))

  distinct : (a b : Event) (v w : ℕ) → Contains merged a → Contains merged b → a.ticket < b.ticket
      → called_value a.what ≡ Some v
      → called_value b.what ≡ Some w → v ≢ w
  distinct a b v w in_a in_b less call_a call_b same =
      let x = named a v in_a call_a in
      let y = named b w in_b call_b in
      let names : value_name a.thread x.1 ≡ value_name b.thread y.1 = sym x.4 ∙ same ∙ y.4 in
      let threads : a.thread ≡ b.thread = omega (arith, names, x.5, y.5) in
      let numbers : x.1 ≡ y.1 = omega (arith, names, threads) in
      let lists_same = same_Some x.0 y.0 (sym x.2 ∙ ap (slice_get lists) threads ∙ y.2) in
      let events : Some a ≡ Some b = sym x.3 ∙ ap (λ (l : List Event). slice_get l (2 * x.1)) lists_same
      ∙ ap (λ (n : ℕ). slice_get y.0 (2 * n)) numbers ∙ y.3 in
      let tickets : a.ticket ≡ b.ticket = ap ticket_of (same_Some a b events) in
      omega arith

  -- lists that fit merge to a complete history
  pub merged_is_complete : IsCompleteHistory merged
  merged_is_complete = record {
    tickets_rise = rises;
    tickets_in_range = λ k d within. omega (arith, low_ticket (get_or merged k d) (Contains-get_or merged k d within));
    threads_in_range = λ k d within. omega (arith, low_thread (get_or merged k d) (Contains-get_or merged k d within));
    threads_take_turns = λ t. takes_turns t (slice_get lists t) refl;
    values_are_distinct = pairs_filter_map Below (λ v w. v ≢ w) (λ e. called_value e.what) merged distinct rises;
  }

  -- the names of the threads' values are below those of initial values
  low_name : (v : ℕ) → Contains (called_values merged) v → v < LEAST_INITIAL_NAME
  low_name v called =
      let m = kept (λ (e : Event). called_value e.what) merged v called in
      let n = named m.0 v m.1 m.2 in
      omega (arith, low_thread m.0 m.1, n.4, n.5)

  -- lists that fit merge to a complete history from initial values whose names no thread gives
  pub merged_is_complete_from : (initial : List ℕ) → AreInitialNames initial → IsCompleteFrom initial merged
  merged_is_complete_from initial names = record {
    complete = merged_is_complete;
    values_are_distinct = pairs_append (λ v w. v ≢ w) initial (called_values merged) names.are_distinct merged_is_complete.values_are_distinct
        (λ v w first called same. omega (arith, All-contains (λ x. LEAST_INITIAL_NAME ≤ x) initial v names.above_names first, low_name w called, same));
  }

-- the merged list of lists that fit has few events
pub merged_is_few : (lists : List (List Event)) (merged : List Event) → AreFit lists → IsMerged lists merged
    → length merged ≤ MAX_EVENTS
merged_is_few lists merged fit is = omega (arith, fit.not_too_long, length_permutation _ _ is.holds_each_once)

-- recorded lists fit together
pub recorded_is_fit : (lists : List (List Event)) → AreRecorded lists → AreFit lists
recorded_is_fit lists r = record { not_too_many = r.not_too_many; each = r.each; tickets = r.tickets; not_too_long = r.not_too_long }
