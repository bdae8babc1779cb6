-- The selection by the lines of the chosen violation of a history: its chosen violation is the same, and nothing can
-- be left out.
use Rattle.verdicts.proofs.Common.{ap, AreComplete, AreLinearizable, ArePartOf, arith, Bool, call_by_return, call_in}
use Rattle.verdicts.proofs.Common.{cases_lt, chosen_of, ClaimLine, Contains, Contains-append_cases}
use Rattle.verdicts.proofs.Common.{Contains-append_left, Contains-append_right, Contents, contents_of, Course, course}
use Rattle.verdicts.proofs.Common.{course_on, Enqueue, enqueue_place, enqueue_stands, Event, false, filter}
use Rattle.verdicts.proofs.Common.{filter_agree}
use Rattle.verdicts.proofs.Common.{FullViolation, HistoryView, holds_ticket, initial_enqueue, initial_enqueues, inl}
use Rattle.verdicts.proofs.Common.{inr, IsChosenFullViolation, IsChosenViolation, IsCompleteFrom, IsMinimal}
use Rattle.verdicts.proofs.Common.{IsViolationOf, keeps, KeepsViolation, kept, later_by, length, line_at, lines_of}
use Rattle.verdicts.proofs.Common.{lines_of_history, List, map, map_map, mapped_from, mapped_to, MAX_INITIAL, Names}
use Rattle.verdicts.proofs.Common.{NEVER, None, on, Operation, operations_of, Option, option_map_or, ORIGIN}
use Rattle.verdicts.proofs.Common.{passed_filter, place_of, refl, same_call, select, selects, SelectsNamed, Some}
use Rattle.verdicts.proofs.Common.{StaysChosen, subst, sym, timeline, timeline_is_complete, true, value_in, value_of}
use Rattle.verdicts.proofs.Common.{Violation, violation_lines, violation_places, ViolationKind, ℕ, ◌+◌, ◌-◌, ◌<◌, ◌∙◌}
use Rattle.verdicts.proofs.Common.{◌≡◌, ◌≢◌, ◌≤◌, ◌⊎◌}
use Rattle.value_match.proofs.HistoryPlaces.{course_back}
use Rattle.verdicts.proofs.Chosen.{chosen_is_violation}
use Rattle.verdicts.proofs.Selections.{filters_swap, kept_is_complete_from, kept_timeline_are_complete, mapped_kind}
use Rattle.history_merge.proofs.Lists.{no_longer}
use Rattle.verdicts.proofs.Selections.{mapped_lines, mapped_violation, operations_kept}
use Rattle.verdicts.proofs.Exactly.{linearizable_without, violation_excludes_order}
use Rattle.verdicts.proofs.Retiming.{all_or_one, back_there, chosen_back, lifted, lifted_late, lifted_rises, map_agree}
use Rattle.verdicts.proofs.Retiming.{none_is_left, retimed, selected_of_timeline, selected_stands, StandsAs, start}
use Rattle.verdicts.proofs.Retiming.{timeline_late, violation_back}
use Rattle.verdicts.proofs.NamedLines.{AreFor, IsFor, lines_are_operations, selects_as_call, selects_as_value}
use Rattle.claims.proofs.Lines.{operation_among, value_among}
use Rattle.verdicts.proofs.NamedPlaces.{accepted_value, call_of_line, each_shown, early_line, late_line, line_of}
use Rattle.verdicts.proofs.NamedPlaces.{line_of_call, line_there, same_line, shown_lines, value_of_line, violation_at}
use Rattle.verdicts.proofs.TrueClaims.{same_kind}
use Rattle.claims.specs.declared.claimed.ClaimLine.TheVariants.{Initial}
use Rattle.claims.specs.declared.claimed.Claimed.TheVariants as claimed

-- the selected empty dequeues, by their calls in the timeline
abbrev pub calls_behind : (ℕ → Bool) → ℕ → Bool
calls_behind empties call = empties (call - ORIGIN)

-- a complete history within its limit of initial values
pub record IsWhole (history : HistoryView) : Type 0 where
  pub complete : IsCompleteFrom history.initial history.events
  pub few : length history.initial ≤ MAX_INITIAL

-- the operations of a history's timeline
abbrev pub timeline_of_history : HistoryView → List Operation
timeline_of_history history = timeline history.initial (operations_of history.events)

-- the course of a history
abbrev pub course_of_history : HistoryView → Course
course_of_history history = course history.initial (operations_of history.events)

-- the timeline of a complete history is complete
pub timeline_is_whole : (history : HistoryView) → IsWhole history → AreComplete (timeline_of_history history)
timeline_is_whole history is = timeline_is_complete history.initial history.events is.complete is.few

-- an operation called before the time of ticket 0 is a successful enqueue
pub among_enqueues : (whole : HistoryView) (o : Operation) → Contains (timeline_of_history whole) o → o.call < ORIGIN
    → (v : ℕ) × (o.kind ≡ Enqueue v)
among_enqueues whole o among early =
    elim (Contains-append_cases (initial_enqueues whole.initial) (map (later_by ORIGIN) (operations_of whole.events)) o among) [
      | inl here ↦ let found = enqueue_place whole.initial o here in (found.1, sym (ap (λ (x : Operation). x.kind) found.3))
      | inr there ↦
          let found = mapped_from (later_by ORIGIN) (operations_of whole.events) o there in
          let calls : found.0.call + ORIGIN ≡ o.call = ap (λ (x : Operation). x.call) found.2 in
          absurd (omega arith)
    ]

-- ---- selections of a history and of its timeline

module _ (whole : HistoryView) (values empties : ℕ → Bool) where
  call_behind : (o : Operation) → selects values (calls_behind empties) (later_by ORIGIN o) ≡ selects values empties o
  call_behind o = ap (λ call. option_map_or values (value_of o.kind) (empties call)) (let e : o.call + ORIGIN - ORIGIN ≡ o.call = omega arith in e)

  -- a selection is part of the timeline, at other times
  pub part_stands : (part : Contents) → part ≡ select values empties (contents_of whole) → IsWhole whole
      → StandsAs values (calls_behind empties)
      (lifted values whole.initial) (start part.initial) (timeline part.initial part.operations) (timeline_of_history whole)
  part_stands part same is = subst (λ c. StandsAs values (calls_behind empties) (lifted values whole.initial) (start c.initial)
      (timeline c.initial c.operations) (timeline_of_history whole)) (sym same)
      (selected_stands values (calls_behind empties) (lifted values whole.initial) (start (filter values whole.initial)) _ (timeline_of_history whole)
      (lifted_rises values whole.initial is.few) (lifted_late values whole.initial NEVER (omega arith), omega arith)
      (timeline_late (filter values whole.initial) (filter (selects values empties) (operations_of whole.events)))
      (kept_timeline_are_complete whole.initial whole.events is.complete values (selects values empties) is.few) (timeline_is_whole whole is)
      (selected_of_timeline values (calls_behind empties) whole.initial (operations_of whole.events) is.few
      ∙ ap (λ os. map (retimed (lifted values whole.initial)) (timeline (filter values whole.initial) os))
      (filter_agree (selects values (λ call. calls_behind empties (call + ORIGIN))) (selects values empties) call_behind (operations_of whole.events))))

  -- a selection other than the whole leaves out an operation of the timeline
  pub one_missing : select values empties (contents_of whole) ≢ contents_of whole
      → (o : Operation) × Contains (timeline_of_history whole) o × (selects values (calls_behind empties) o ≡ false)
  one_missing differs = by_lists (all_or_one values whole.initial) (all_or_one (selects values empties) (operations_of whole.events))
    where
      by_lists : (filter values whole.initial ≡ whole.initial)
          ⊎ ((v : ℕ) × Contains whole.initial v × (values v ≡ false))
          → (filter (selects values empties) (operations_of whole.events) ≡ operations_of whole.events)
          ⊎ ((o : Operation) × Contains (operations_of whole.events) o × (selects values empties o ≡ false))
          → (o : Operation) × Contains (timeline_of_history whole) o
          × (selects values (calls_behind empties) o ≡ false)
      by_lists (inl all) (inl every) = absurd (differs (λ i. record { initial = all i; operations = every i }))
      by_lists (inl all) (inr one) = (
        later_by ORIGIN one.0,
        Contains-append_right (initial_enqueues whole.initial) (map (later_by ORIGIN) (operations_of whole.events)) (later_by ORIGIN one.0)
            (mapped_to (later_by ORIGIN) (operations_of whole.events) one.0 one.1),
        call_behind one.0 ∙ one.2,
      )
      by_lists (inr one) other =
          let at = place_of whole.initial one.0 one.1 in (
            initial_enqueue (length whole.initial) at.0 one.0,
            Contains-append_left (initial_enqueues whole.initial) (map (later_by ORIGIN) (operations_of whole.events)) _
                (enqueue_stands whole.initial at.0 one.0 at.1),
            one.2,
          )

-- ---- the small history: that of the selected values and calls

module _ (whole : HistoryView) (violation : Violation) (is_whole : IsWhole whole)
    (is_chosen : IsChosenViolation whole.initial (operations_of whole.events) violation)
    (values calls : ℕ → Bool) (named : SelectsNamed (violation_lines whole violation) values calls)
    (small : HistoryView) (is_small : IsWhole small) (selected : contents_of small ≡ select values calls (contents_of whole)) where
  abbrev full : FullViolation
  full = is_chosen.0

  chosen : IsChosenFullViolation (on (timeline_of_history whole)) full
  chosen = chosen_of (course_of_history whole) (on (timeline_of_history whole)) (course_on whole.initial (operations_of whole.events)) full is_chosen.2

  abbrev lines : List ClaimLine
  lines = violation_lines whole violation

  abbrev passes : Operation → Bool
  passes = selects values (calls_behind calls)

  complete : AreComplete (timeline_of_history whole)
  complete = timeline_is_whole whole is_whole

  in_whole : (o : Operation) → Contains (lines_of full) o → Contains (timeline_of_history whole) o
  in_whole = lines_are_operations (timeline_of_history whole) full (chosen_is_violation (timeline_of_history whole) full complete chosen)

  -- ---- the lines of the violation

  lines_shown : lines ≡ map line_of (lines_of full)
  lines_shown = shown_lines whole.initial (operations_of whole.events) is_whole.few (violation_places violation) (lines_of full)
      (each_shown whole.initial (operations_of whole.events) is_whole.few violation full is_chosen.1)

  line_shown : (o : Operation) → Contains (lines_of full) o → Contains lines (line_of o)
  line_shown o among = subst (λ ls. Contains ls (line_of o)) (sym lines_shown) (mapped_to line_of (lines_of full) o among)

  shown_for : (line : ClaimLine) → Contains lines line
      → (o : Operation) × Contains (lines_of full) o × (line_of o ≡ line)
  shown_for line among = mapped_from line_of (lines_of full) line (subst (λ ls. Contains ls line) lines_shown among)

  value_shown : (o : Operation) → Contains (lines_of full) o → value_in (line_of o) ≡ value_of o.kind
  value_shown o among = value_of_line o (among_enqueues whole o (in_whole o among))

  -- an operation without a value isn't the enqueue of an initial value
  called_late : (o : Operation) → Contains (timeline_of_history whole) o → value_of o.kind ≡ None → ORIGIN ≤ o.call
  called_late o among none = elim (cases_lt o.call ORIGIN) [
    | inl early ↦
        let found = among_enqueues whole o among early in
        let clash : Some found.0 ≡ None = sym (ap value_of found.1) ∙ none in
        cc
    | inr late ↦ late
  ]

  -- each line is selected
  lines_pass : (o : Operation) → Contains (lines_of full) o → passes o ≡ true
  lines_pass o among = by_value (value_of o.kind) refl
    where
      by_value : (w : Option ℕ) → value_of o.kind ≡ w → passes o ≡ true
      by_value (Some v) is = selects_as_value values (calls_behind calls) o v is
          ∙ (named.values_named v).1 (keeps value_in lines (line_of o) v (line_shown o among) (value_shown o among ∙ is))
      by_value None is =
          let late = called_late o (in_whole o among) is in
          selects_as_call values (calls_behind calls) o is ∙ (named.calls_named (o.call - ORIGIN)).1
          (keeps call_in lines (line_of o) (o.call - ORIGIN) (line_shown o among) (line_of_call o (o.call - ORIGIN) (omega arith)))

  -- each selected operation belongs to a line
  passes_for : (o : Operation) → Contains (timeline_of_history whole) o → passes o ≡ true
      → (line : Operation) × IsFor (lines_of full) o line
  passes_for o among passed = by_value (value_of o.kind) refl
    where
      by_value : (w : Option ℕ) → value_of o.kind ≡ w → (line : Operation) × IsFor (lines_of full) o line
      by_value (Some v) is =
          let found = kept value_in lines v ((named.values_named v).0 (sym (selects_as_value values (calls_behind calls) o v is) ∙ passed)) in
          let line = shown_for found.0 found.1 in (
            line.0,
            record {
              among = line.1;
              same_value = sym (value_shown line.0 line.1) ∙ ap value_in line.2 ∙ found.2 ∙ sym is;
              itself = λ none. let clash : Some v ≡ None = sym is ∙ none in cc;
            },
          )
      by_value None is =
          let found = kept call_in lines (o.call - ORIGIN) ((named.calls_named (o.call - ORIGIN)).0
          (sym (selects_as_call values (calls_behind calls) o is) ∙ passed)) in
          let line = shown_for found.0 found.1 in
          let late = called_late o among is in
          let calls' = call_of_line line.0 (o.call - ORIGIN) (ap call_in line.2 ∙ found.2) in
          let one = same_call (timeline_of_history whole) line.0 o complete (in_whole line.0 line.1) among (omega arith) in
          (line.0, record { among = line.1; same_value = ap (λ x. value_of x.kind) one; itself = λ _. one })

  -- ---- the violation at the small history's times

  abbrev h : ℕ → ℕ
  h = lifted values whole.initial

  stands : StandsAs values (calls_behind calls) h (start small.initial) (timeline_of_history small)
      (timeline_of_history whole)
  stands = part_stands whole values calls (contents_of small) selected is_whole

  line_selected : (o : Operation) → Contains (lines_of full) o
      → Contains (timeline_of_history whole) o × (passes o ≡ true)
  line_selected o among = (in_whole o among, lines_pass o among)

  -- the operation of a line at the small history's times
  brings : (o : Operation) → Contains (lines_of full) o
      → Contains (timeline_of_history small) (stands.back o) × (retimed h (stands.back o) ≡ o)
  brings o among = stands.brings o (in_whole o among) (lines_pass o among)

  abbrev small_full : FullViolation
  small_full = mapped_violation stands.back full

  small_chosen : IsChosenFullViolation (on (timeline_of_history small)) small_full
  small_chosen = chosen_back stands full line_selected chosen

  is_violation : IsViolationOf (on (timeline_of_history small)) small_full
  is_violation = chosen_is_violation (timeline_of_history small) small_full stands.part_complete small_chosen

  -- each operation of the small history belongs to a line
  small_for : AreFor (lines_of small_full) (timeline_of_history small)
  small_for o among =
      let there = stands.there o among in
      let line = passes_for (retimed h o) there.0 there.1 in (
        stands.back line.0,
        record {
          among = subst (λ os. Contains os (stands.back line.0)) (sym (mapped_lines stands.back full))
              (mapped_to stands.back (lines_of full) line.0 line.1.among);
          same_value = ap (λ (x : Operation). value_of x.kind) (brings line.0 line.1.among).1 ∙ line.1.same_value;
          itself = λ none. ap stands.back (line.1.itself none) ∙ back_there stands o among;
        },
      )

  -- ---- the claim of the small history

  small_named : (found : Violation) × Names small.initial (operations_of small.events) found small_full
  small_named = violation_at small.initial (operations_of small.events) is_small.few small_full is_violation
      (lines_are_operations (timeline_of_history small) small_full is_violation)

  same_lines : violation_lines small small_named.0 ≡ lines
  same_lines =
      shown_lines small.initial (operations_of small.events) is_small.few (violation_places small_named.0) (lines_of small_full)
      (each_shown small.initial (operations_of small.events) is_small.few small_named.0 small_full small_named.1)
      ∙ ap (map line_of) (mapped_lines stands.back full) ∙ map_map stands.back line_of (lines_of full)
      ∙ map_agree (λ o. line_of (stands.back o)) line_of (lines_of full) one_line ∙ sym lines_shown
    where
      one_line : (o : Operation) → Contains (lines_of full) o → line_of (stands.back o) ≡ line_of o
      one_line o among =
          let here = brings o among in
          sym (same_line values whole.initial is_whole.few (stands.back o)
          (subst (λ (c : Contents). start c.initial ≤ (stands.back o).call) selected (stands.late (stands.back o) here.0).0)
          (call_by_return (timeline_of_history small) (stands.back o) stands.part_complete here.0)) ∙ ap line_of here.1

  -- the chosen violation of the small history has the same claim
  pub stays : StaysChosen whole violation small
  stays = (
    small_named.0,
    (
      small_full,
      small_named.1,
      chosen_of (on (timeline_of_history small)) (course_of_history small) (course_back small.initial (operations_of small.events)) small_full small_chosen,
    ),
    λ i. claimed.No
        ((same_kind small.initial (operations_of small.events) small_named.0 small_full small_named.1 ∙ mapped_kind stands.back full
        ∙ sym (same_kind whole.initial (operations_of whole.events) violation full is_chosen.1)) i)
        (same_lines i),
  )

  -- each line is one of the small history
  pub keeps_violation : KeepsViolation whole violation small
  keeps_violation = (
    (values, calls, selected),
    λ line among.
        let found = kept (line_at small.initial (operations_of small.events)) (violation_places small_named.0) line
        (subst (λ ls. Contains ls line) (sym same_lines) among) in
        line_there small.initial (operations_of small.events) is_small.few found.0 line found.2,
  )

  -- nothing can be left out of the small history
  pub is_minimal : IsMinimal (contents_of small)
  is_minimal = (
    violation_excludes_order small.initial (operations_of small.events) small_full stands.part_complete is_violation,
    λ part closed differs.
        let part_of = part_stands small closed.0 closed.1 part closed.2 is_small in
        let missing = one_missing small closed.0 closed.1 (λ same. differs (closed.2 ∙ same)) in
        linearizable_without part.initial part.operations part_of.part_complete
        (none_is_left part_of missing.0 missing.1 missing.2 small_full small_chosen small_for),
  )

-- ---- the guarantees of the small history

-- all guarantees of the small history
pub record IsShrunk (whole : HistoryView) (violation : Violation) (small : HistoryView) : Type 0 where
  pub kept : KeepsViolation whole violation small
  pub same_violation : StaysChosen whole violation small
  pub minimal : IsMinimal (contents_of small)
  pub initial : ArePartOf whole.initial small.initial
  pub events : ArePartOf whole.events small.events
  pub complete : IsCompleteFrom small.initial small.events

-- the events of the selected operations
abbrev pub selected_events : HistoryView → (ℕ → Bool) → (ℕ → Bool) → List Event
selected_events whole values calls = filter (λ e. holds_ticket (filter (selects values calls) (operations_of whole.events)) e.ticket) whole.events

-- the selected initial values with the selected events are a complete history
pub are_complete : (whole : HistoryView) (values calls : ℕ → Bool) (initial : List ℕ) (events : List Event)
    → IsCompleteFrom whole.initial whole.events
    → initial ≡ filter values whole.initial → events ≡ selected_events whole values calls
    → IsCompleteFrom initial events
are_complete whole values calls initial events complete has_values has_tickets =
    subst (λ vs. IsCompleteFrom vs events) (sym has_values) (subst (IsCompleteFrom (filter values whole.initial)) (sym has_tickets)
    (kept_is_complete_from whole.initial whole.events complete values (selects values calls)))

-- the small history has all guarantees
pub are_shrunk : (whole : HistoryView) (violation : Violation) (values calls : ℕ → Bool) (small : HistoryView)
    → IsWhole whole
    → IsChosenViolation whole.initial (operations_of whole.events) violation
    → SelectsNamed (violation_lines whole violation) values calls
    → small.initial ≡ filter values whole.initial → small.events ≡ selected_events whole values calls
    → IsShrunk whole violation small
are_shrunk whole violation values calls small is_whole chosen named has_values has_tickets = record {
  kept = keeps_violation whole violation is_whole chosen values calls named small is_small selected;
  same_violation = stays whole violation is_whole chosen values calls named small is_small selected;
  minimal = is_minimal whole violation is_whole chosen values calls named small is_small selected;
  initial = (values, has_values);
  events = (λ e. holds_ticket (filter (selects values calls) (operations_of whole.events)) e.ticket, has_tickets);
  complete = is_small.complete;
}
  where
    is_small : IsWhole small
    is_small = record {
      complete = are_complete whole values calls small.initial small.events is_whole.complete has_values has_tickets;
      few = let shorter = no_longer values whole.initial in let long = ap length has_values in omega (arith, is_whole.few);
    }

    selected : contents_of small ≡ select values calls (contents_of whole)
    selected = λ i. record {
      initial = has_values i;
      operations = (ap operations_of has_tickets ∙ operations_kept whole.initial whole.events is_whole.complete values (selects values calls)) i;
    }

-- ---- minimal selections that keep the same violation, chosen in both, are equal

-- equal claims of `NO` have the same lines
one_list_of_lines : (k l : ViolationKind) (xs ys : List ClaimLine) → claimed.No k xs ≡ claimed.No l ys → xs ≡ ys
one_list_of_lines k l xs ys same = cc

-- a filter keeps all elements, or it doesn't
same_or_not : {X : Type 0} (p : X → Bool) (xs : List X) → (filter p xs ≡ xs) ⊎ (filter p xs ≢ xs)
same_or_not p xs = elim (all_or_one p xs) [
  | inl all ↦ inl all
  | inr one ↦ inr (λ same. let passed = (passed_filter p xs one.0 (subst (λ ys. Contains ys one.0) (sym same) one.1)).1 in
      let clash : true ≡ false = sym passed ∙ one.2 in cc)
]

-- a selection from a minimal one that keeps all of the violation is the whole of it
module _ (whole x : HistoryView) (violation : Violation) (is_x : IsWhole x) (stays : StaysChosen whole violation x) (minimal : IsMinimal (contents_of x))
    (values empties : ℕ → Bool) (kept : (line : ClaimLine) → Contains (violation_lines whole violation) line
    → Contains (lines_of_history (select values empties (contents_of whole)).initial (select values empties (contents_of whole)).operations) line) where
  abbrev full_of_x : FullViolation
  full_of_x = stays.1.0

  abbrev selected : Contents
  selected = select values empties (contents_of whole)

  -- the lines of the other selection
  abbrev selected_lines : List ClaimLine
  selected_lines = lines_of_history selected.initial selected.operations

  abbrev part : Contents
  part = select values empties (contents_of x)

  abbrev passes_too : Operation → Bool
  passes_too = selects values (calls_behind empties)

  stands_in_x : StandsAs values (calls_behind empties) (lifted values x.initial) (start part.initial)
      (timeline part.initial part.operations)
      (timeline_of_history x)
  stands_in_x = part_stands x values empties part refl is_x

  violates_x : IsViolationOf (on (timeline_of_history x)) full_of_x
  violates_x = chosen_is_violation (timeline_of_history x) full_of_x stands_in_x.complete
      (chosen_of (course_of_history x) (on (timeline_of_history x)) (course_on x.initial (operations_of x.events)) full_of_x stays.1.2)

  in_x : (o : Operation) → Contains (lines_of full_of_x) o → Contains (timeline_of_history x) o
  in_x = lines_are_operations (timeline_of_history x) full_of_x violates_x

  lines_of_x : violation_lines whole violation ≡ map line_of (lines_of full_of_x)
  lines_of_x = sym (one_list_of_lines _ _ (violation_lines x stays.0) (violation_lines whole violation) stays.2)
      ∙ shown_lines x.initial (operations_of x.events) is_x.few (violation_places stays.0) (lines_of full_of_x)
      (each_shown x.initial (operations_of x.events) is_x.few stays.0 full_of_x stays.1.1)

  line_passes : (o : Operation) → Contains (lines_of full_of_x) o → passes_too o ≡ true
  line_passes o among = elim (cases_lt o.call ORIGIN) [
    | inl early ↦
        let found = among_enqueues x o (in_x o among) early in
        let line = early_line o early ∙ ap (λ k. Initial (accepted_value k)) found.1 in
        let passed = passed_filter values whole.initial found.0 (value_among selected.initial selected.operations found.0
        (subst (Contains selected_lines) line here)) in
        ap (λ k. selects values (calls_behind empties) (record { call = o.call; ret = o.ret; thread = o.thread; kind = k })) found.1 ∙ passed.1
    | inr late ↦ (passed_filter (selects values empties) (operations_of whole.events) _
        (operation_among selected.initial selected.operations _ (subst (Contains selected_lines) (late_line o late) here))).1
  ]
    where
      here : Contains selected_lines (line_of o)
      here = kept (line_of o) (subst (λ ls. Contains ls (line_of o)) (sym lines_of_x) (mapped_to line_of (lines_of full_of_x) o among))

  not_linearizable : AreLinearizable part → ⊥
  not_linearizable =
      violation_excludes_order part.initial part.operations (mapped_violation stands_in_x.back full_of_x) stands_in_x.part_complete
      (violation_back stands_in_x full_of_x (λ o among. (in_x o among, line_passes o among)) violates_x)

  none_differs : part ≢ contents_of x → ⊥
  none_differs differs = not_linearizable (minimal.1 part (values, empties, refl) differs)

  -- a selection that is not linearizable is the whole
  pub part_is_whole : part ≡ contents_of x
  part_is_whole = by_lists (same_or_not values x.initial) (same_or_not (selects values empties) (operations_of x.events))
    where
      by_lists : (filter values x.initial ≡ x.initial) ⊎ (filter values x.initial ≢ x.initial)
          → (filter (selects values empties) (operations_of x.events) ≡ operations_of x.events)
          ⊎ (filter (selects values empties) (operations_of x.events) ≢ operations_of x.events) → part ≡ contents_of x
      by_lists (inl all) (inl every) = λ i. record { initial = all i; operations = every i }
      by_lists (inl all) (inr other) = absurd (none_differs (λ same. other (ap (λ (z : Contents). z.operations) same)))
      by_lists (inr other) each = absurd (none_differs (λ same. other (ap (λ (z : Contents). z.initial) same)))

selections_swap : (values empties values' empties' : ℕ → Bool) (whole : Contents)
    → select values empties (select values' empties' whole) ≡ select values' empties' (select values empties whole)
selections_swap values empties values' empties' whole = λ i. record {
  initial = filters_swap values values' whole.initial i;
  operations = filters_swap (selects values empties) (selects values' empties') whole.operations i;
}

-- two such selections are equal
pub selection_is_one : (whole x y : HistoryView) (violation : Violation) → IsWhole x → IsWhole y
    → KeepsViolation whole violation x → KeepsViolation whole violation y → StaysChosen whole violation x
    → StaysChosen whole violation y
    → IsMinimal (contents_of x) → IsMinimal (contents_of y) → contents_of x ≡ contents_of y
selection_is_one whole x y violation is_x is_y keeps_x keeps_y stays_x stays_y minimal_x minimal_y =
    sym (left x is_x stays_x minimal_x y keeps_y) ∙ ap (select keeps_y.0.0 keeps_y.0.1) keeps_x.0.2
    ∙ selections_swap keeps_y.0.0 keeps_y.0.1 keeps_x.0.0 keeps_x.0.1 (contents_of whole)
    ∙ ap (select keeps_x.0.0 keeps_x.0.1) (sym keeps_y.0.2) ∙ left y is_y stays_y minimal_y x keeps_x
  where
    left : (z : HistoryView) → IsWhole z → StaysChosen whole violation z → IsMinimal (contents_of z)
        → (w : HistoryView)
        → (keeps : KeepsViolation whole violation w) → select keeps.0.0 keeps.0.1 (contents_of z) ≡ contents_of z
    left z is_z stays minimal w keeps = part_is_whole whole z violation is_z stays minimal keeps.0.0 keeps.0.1
        (λ line among. subst (λ c. Contains (lines_of_history c.initial c.operations) line) keeps.0.2 (keeps.1 line among))
