-- An input is read as one text in which calls may be pending, as a part of one, or has one first fault.
use Rattle.history_text.proofs.Common.{[], Ahead, ap, append-nil, append_assoc, arith, count_before_events, count_in}
use Rattle.history_text.proofs.Common.{Ending, EndOfInput, Err}
use Rattle.history_text.proofs.Common.{Event, event_format, false, Front, front_of, HasEventLine, HasText, HaveLines}
use Rattle.history_text.proofs.Common.{HaveValueLines, Header, header_of, HistoryText, inl, inr, length, line}
use Rattle.history_text.proofs.Common.{line_at_front}
use Rattle.history_text.proofs.Common.{line_of, lines_of, lines_of_initial, List, MAX_EVENTS, MAX_INITIAL, None, Ok}
use Rattle.history_text.proofs.Common.{One, Option, refl}
use Rattle.history_text.proofs.Common.{Result, Some, spaced, suc, sym, text_of, TextFault, true, Two, value_format}
use Rattle.history_text.proofs.Common.{Version, ℕ}
use Rattle.history_text.proofs.Common.{◌++◌, ◌+◌, ◌<◌, ◌>>=◌, ◌∙◌, ◌∷◌, ◌≡◌, ◌≤◌}
use Rattle.history_text.proofs.FirstFaults.{Anything, IsJudged}
use Rattle.history_text.proofs.FirstFaults.{among_found, among_in, among_read, first_at, first_read, items_from}
use Rattle.history_text.proofs.FirstFaults.{items_read, then_err, then_ok}
use Rattle.history_text.proofs.FormLines.{count_says, value_says}
use Rattle.history_text.proofs.PendingLines.{event_line_read, last_line_read, stop_line_read}
use Rattle.history_text.specs.Inner.Pending.{IsStop}
use Rattle.history_text.specs.Pending.{as_pending, event_line_in, EventsFault, FaultAfterEvents, FaultAfterFirst}
use Rattle.history_text.specs.Pending.{first_line_of}
use Rattle.history_text.specs.Pending.{HasPendingText, IsCutText, IsPendingTextFault, last_line_in, lines_after_stop}
use Rattle.history_text.specs.Pending.{NoFirstLine, pending_text, stop_line, value_lines, whole_line_at_front}
use Rattle.history_text.specs.Versions.{count_fields}
use Rattle.history_text.specs.declared.pending_line.EventLine.{EventLine}
use Rattle.history_text.specs.declared.pending_line.EventLine.TheVariants.{OneEvent, Stop}
use Rattle.history_text.specs.declared.pending_text.PendingText.{PendingText}
use Rattle.std.proofs.Common.{Bool, is_some, ◌≢◌, ◌⊎◌}
use Rattle.text_lines.specs.declared.fault.TextFault.TheVariants.{Cut}

-- ---- the input, judged line by line

-- the content of a text, and what comes after it: more bytes, or a fault
abbrev pub Said : Type 0
Said = PendingText × Result (List ℕ) TextFault

-- the event of a line; if it is none, nothing is taken
abbrev next_event : List ℕ → Result (EventLine × List ℕ) TextFault → Result (Option Event × List ℕ) TextFault
next_event bytes (Ok (OneEvent e, rest)) = Ok (Some e, rest)
next_event bytes (Ok (Stop calls, rest)) = Ok (None, bytes)
next_event bytes (Err fault) = Ok (None, bytes)

module _ (is_pending : Bool) (version : Version) (initial : List ℕ) (n : ℕ) (ending : Ending) where
  -- the line after k events
  abbrev line_after : ℕ → List ℕ → Result (EventLine × List ℕ) TextFault
  line_after k bytes = whole_line_at_front (event_line_in is_pending (n + k) k) (n + k) ending (front_of bytes)

  abbrev step : ℕ → List ℕ → Result (Option Event × List ℕ) TextFault
  step k bytes = next_event bytes (line_after k bytes)

  abbrev text_with : List Event → Option ℕ → PendingText
  text_with events calls = record { version = version; initial = initial; events = events; open_calls = calls }

  -- the last line of a pending text
  abbrev after_stop : List Event → Option ℕ → List ℕ → Said
  after_stop events None rest = (text_with events None, Ok rest)
  after_stop events (Some calls) rest = (
    text_with events (Some calls),
    whole_line_at_front (last_line_in (n + length events + 1) (length events)) (n + length events + 1) ending (front_of rest) >>= λ last. Ok last.1,
  )

  -- the line at which these events stop
  abbrev stopped : List Event → Result (EventLine × List ℕ) TextFault → Said
  stopped events (Err fault) = (text_with events None, Err fault)
  stopped events (Ok (Stop calls, rest)) = after_stop events calls rest
  stopped events (Ok (OneEvent e, rest)) = (text_with events None, Ok rest)

  -- the events and the lines after them
  abbrev events_in : List ℕ → Result Said TextFault
  events_in bytes = items_from step (suc MAX_EVENTS) 0 bytes >>= λ es. Ok (stopped es.0 (line_after (length es.0) es.1))

  -- events are read up to a line that is none
  events_then : (events : List Event) (r : List ℕ) → HaveLines event_format events
      → next_event r (line_after (length events) r) ≡ Ok (None, r)
      → events_in (lines_of event_format events ++ r) ≡ Ok (stopped events (line_after (length events) r))
  events_then events r right at =
      let few = right.few in
      then_ok _ _ _ (items_read step event_format MAX_EVENTS (suc MAX_EVENTS) 0 (length events) events r (Ok r)
      (λ k e rest has some. ap (next_event (line_of event_format e ++ rest)) (event_line_read is_pending (n + k) k ending e rest has some))
      right.each (omega arith) few (omega (arith, few)) at)

  -- events are read up to the line at which they stop
  stop_then : (events : List Event) (calls : Option ℕ) (r : List ℕ) → HaveLines event_format events
      → IsStop is_pending calls
      → events_in (lines_of event_format events ++ (stop_line calls (length events) ++ r))
      ≡ Ok (after_stop events calls r)
  stop_then events calls r right stop =
      let few = right.few in
      let read = stop_line_read is_pending (n + length events) (length events) ending calls r stop (omega (arith, few)) in
      events_then events (stop_line calls (length events) ++ r) right (ap (next_event (stop_line calls (length events) ++ r)) read)
      ∙ ap (λ found. Ok (stopped events found)) read

  -- whole lines are read
  pub events_read : (events : List Event) (calls : Option ℕ) (rest : List ℕ) → HaveLines event_format events
      → IsStop is_pending calls
      → events_in (lines_of event_format events
      ++ (stop_line calls (length events) ++ (lines_after_stop calls (length events) ++ rest)))
      ≡ Ok (text_with events calls, Ok rest)
  events_read events None rest right stop = stop_then events None rest right stop
  events_read events (Some calls) rest right stop =
      let few = right.few in
      stop_then events (Some calls) (lines_after_stop (Some calls) (length events) ++ rest) right stop
      ∙ ap (λ (found : Result (Unit {0} × List ℕ) TextFault). Ok (text_with events (Some calls), found >>= λ last. Ok last.1))
      (last_line_read (n + length events + 1) (length events) ending rest (omega (arith, few)))

  -- the first fault of the lines of events is found
  pub events_found : (fault : TextFault) (bytes : List ℕ) (events : List Event) (calls : Option ℕ)
      → FaultAfterEvents is_pending n ending fault bytes events calls
      → events_in bytes ≡ Ok (text_with events calls, Err fault)
  events_found fault bytes events None h =
      ap events_in h.front ∙ events_then events h.rest h.right (ap (next_event h.rest) h.next) ∙ ap (λ found. Ok (stopped events found)) h.next
  events_found fault bytes events (Some calls) h =
      let is = h.1 in
      ap events_in is.front ∙ stop_then events (Some calls) is.rest is.right (record { of_kind = sym h.0; few = is.few_open })
      ∙ ap (λ (found : Result (Unit {0} × List ℕ) TextFault). Ok (text_with events (Some calls), found >>= λ last. Ok last.1)) is.next

-- the initial values, as many as were counted, and the events
abbrev values_in : Bool → ℕ → ℕ → Ending → List ℕ → Result Said TextFault
values_in is_pending k n ending bytes = among_in value_format k n ending bytes >>= λ values. events_in is_pending Two values.0 (n + k) ending values.1

-- the lines after the first, from line n on
abbrev after_first : Bool → Version → ℕ → Ending → List ℕ → Result Said TextFault
after_first is_pending One n ending bytes = events_in is_pending One [] n ending bytes
after_first is_pending Two n ending bytes =
    line_at_front count_in n ending (front_of bytes) >>= λ count. values_in is_pending count.0 (n + 1) ending count.1

abbrev first_lines : List ((Bool × Version) × List ℕ)
first_lines =
    ((false, One), first_line_of false One) ∷ ((false, Two), first_line_of false Two)
    ∷ ((true, One), first_line_of true One) ∷ ((true, Two), first_line_of true Two) ∷ []

-- the whole text
abbrev pub pending_in : ℕ → Ending → List ℕ → Result Said TextFault
pending_in lines ending bytes = first_at first_lines Header ending (front_of bytes) >>= λ first. after_first first.0.0 first.0.1 (lines + 2) ending first.1

first_line_read : (is_pending : Bool) (version : Version) (ending : Ending) (rest : List ℕ)
    → first_at first_lines Header ending (front_of (line (first_line_of is_pending version) ++ rest))
    ≡ Ok ((is_pending, version), rest)
first_line_read false One ending rest = first_read first_lines Header ending (false, One) (first_line_of false One) rest refl (omega arith) refl
first_line_read false Two ending rest = first_read first_lines Header ending (false, Two) (first_line_of false Two) rest refl (omega arith) refl
first_line_read true One ending rest = first_read first_lines Header ending (true, One) (first_line_of true One) rest refl (omega arith) refl
first_line_read true Two ending rest = first_read first_lines Header ending (true, Two) (first_line_of true Two) rest refl (omega arith) refl

no_first_line : (ending : Ending) (fault : TextFault) (front : Front) → NoFirstLine ending fault front
    → first_at first_lines Header ending front ≡ Err fault
no_first_line ending fault front h =
    let a = h false One in
    let b = h false Two in
    let c = h true One in
    let d = h true Two in grind (arith, a, b, c, d)

first_then : (is_pending : Bool) (version : Version) (lines : ℕ) (ending : Ending) (rest : List ℕ)
    → pending_in lines ending (line (first_line_of is_pending version) ++ rest)
    ≡ after_first is_pending version (lines + 2) ending rest
first_then is_pending version lines ending rest = then_ok _ _ _ (first_line_read is_pending version ending rest)

module _ (is_pending : Bool) (n : ℕ) (ending : Ending) where
  -- the line that counts the initial values is read
  count_then : (k : ℕ) (rest : List ℕ) → k ≤ MAX_INITIAL
      → after_first is_pending Two n ending (line (spaced (count_fields k)) ++ rest)
      ≡ values_in is_pending k (n + 1) ending rest
  count_then k rest few = then_ok _ _ _ (count_says k few n ending rest)

  -- the initial values are read
  values_then : (version : Version) (initial rest : List ℕ) (m : ℕ) → m + 1 ≡ n + count_before_events version initial
      → HaveValueLines version initial
      → after_first is_pending version n ending (value_lines version initial ++ rest)
      ≡ events_in is_pending version initial m ending rest
  values_then One initial rest m same none =
      let here : n ≡ m = omega (arith, same) in rw (none, here) refl
  values_then Two initial rest m same right =
      let here : n + 1 + length initial ≡ m = omega (arith, same) in
      let few = right.few in
      ap (after_first is_pending Two n ending) (append_assoc (line (spaced (count_fields (length initial)))) (lines_of value_format initial) rest)
      ∙ count_then (length initial) (lines_of value_format initial ++ rest) few
      ∙ then_ok _ _ _ (among_read value_format value_says (n + 1) ending initial rest right.each)
      ∙ ap (λ (k : ℕ). events_in is_pending Two initial k ending rest) here

-- ---- a text is read

pub whole_said : (lines : ℕ) (ending : Ending) (t : PendingText) (rest : List ℕ) → HasPendingText t
    → pending_in lines ending (pending_text t ++ rest) ≡ Ok (t, Ok rest)
whole_said lines ending t rest has =
    let kind = is_some t.open_calls in
    let first = line (first_line_of kind t.version) in
    let values = value_lines t.version t.initial in
    let events = lines_of event_format t.events in
    let stop = stop_line t.open_calls (length t.events) in
    let last = lines_after_stop t.open_calls (length t.events) in
    let m = lines + 1 + count_before_events t.version t.initial in
    let spread : pending_text t ++ rest ≡ first ++ (values ++ (events ++ (stop ++ (last ++ rest)))) =
    append_assoc first (values ++ (events ++ (stop ++ last))) rest
    ∙ ap (λ r. first ++ r) (append_assoc values (events ++ (stop ++ last)) rest
    ∙ ap (λ r. values ++ r) (append_assoc events (stop ++ last) rest ∙ ap (λ r. events ++ r) (append_assoc stop last rest))) in
    ap (pending_in lines ending) spread ∙ first_then kind t.version lines ending (values ++ (events ++ (stop ++ (last ++ rest))))
    ∙ values_then kind (lines + 2) ending t.version t.initial (events ++ (stop ++ (last ++ rest))) m (omega arith) has.initial
    ∙ events_read kind t.version t.initial m ending t.events t.open_calls rest has.events (record { of_kind = refl; few = has.few_open })

-- a text that is cut off is read as far as it goes
pub cut_said : (lines : ℕ) (input : Ahead) (t : PendingText) → IsCutText lines input t
    → pending_in lines input.ending input.bytes ≡ Ok (t, Err Cut)
cut_said lines input t is =
    let first = line (first_line_of is.is_pending t.version) in
    let values = value_lines t.version t.initial in
    ap (pending_in lines input.ending) (is.front ∙ append_assoc first values is.rest)
    ∙ first_then is.is_pending t.version lines input.ending (values ++ is.rest)
    ∙ values_then is.is_pending (lines + 2) input.ending t.version t.initial is.rest (lines + count_before_events t.version t.initial + 1)
    (omega arith) is.initial
    ∙ events_found is.is_pending t.version t.initial (lines + count_before_events t.version t.initial + 1) input.ending Cut is.rest t.events t.open_calls is.cut

-- ---- a first fault is found

-- a fault is found: before the events, or after what is read, if a cut-off text isn't allowed
abbrev pub IsFound : Bool → TextFault → Result Said TextFault → Type 0
IsFound takes_cut fault found = (found ≡ Err fault) ⊎ ((t : PendingText) × (found ≡ Ok (t, Err fault)) × (takes_cut ≡ true → fault ≢ Cut))

events_fault : (takes_cut is_pending : Bool) (version : Version) (initial : List ℕ) (n : ℕ) (ending : Ending)
    (fault : TextFault) (bytes : List ℕ)
    → EventsFault takes_cut is_pending n ending fault bytes → IsFound takes_cut fault (events_in is_pending version initial n ending bytes)
events_fault takes_cut is_pending version initial n ending fault bytes (events, calls, h, not_cut) =
    inr (text_with version initial events calls, events_found is_pending version initial n ending fault bytes events calls h, not_cut)
  where
    text_with : Version → List ℕ → List Event → Option ℕ → PendingText
    text_with v i es c = record { version = v; initial = i; events = es; open_calls = c }

moved_found : (takes_cut : Bool) (fault : TextFault) (a b : Result Said TextFault) → a ≡ b → IsFound takes_cut fault b
    → IsFound takes_cut fault a
moved_found takes_cut fault a b same h = rw same h

later_fault : (takes_cut is_pending : Bool) (version : Version) (n : ℕ) (ending : Ending) (fault : TextFault)
    (bytes : List ℕ)
    → FaultAfterFirst takes_cut is_pending version n ending fault bytes → IsFound takes_cut fault (after_first is_pending version n ending bytes)
later_fault takes_cut is_pending One n ending fault bytes h = events_fault takes_cut is_pending One [] n ending fault bytes h
later_fault takes_cut is_pending Two n ending fault bytes (inl (inl h)) = inl (then_err _ _ _ h)
later_fault takes_cut is_pending Two n ending fault bytes (inl (inr (k, few, (rest, is, h)))) =
    inl (ap (after_first is_pending Two n ending) is ∙ count_then is_pending n ending k rest few
    ∙ then_err _ _ _ (among_found value_format value_says (n + 1) ending k fault rest h))
later_fault takes_cut is_pending Two n ending fault bytes (inr (initial, right, (rest, is, h))) =
    moved_found takes_cut fault _ _ (ap (after_first is_pending Two n ending) is
    ∙ values_then is_pending n ending Two initial rest (n + 1 + length initial) (omega arith) right)
    (events_fault takes_cut is_pending Two initial (n + 1 + length initial) ending fault rest h)

pub fault_said : (takes_cut : Bool) (lines : ℕ) (ending : Ending) (bytes : List ℕ) (fault : TextFault)
    → IsPendingTextFault takes_cut lines ending bytes fault → IsFound takes_cut fault (pending_in lines ending bytes)
fault_said takes_cut lines ending bytes fault (inl h) = inl (then_err _ _ _ (no_first_line ending fault (front_of bytes) h))
fault_said takes_cut lines ending bytes fault (inr (is_pending, version, (rest, is, h))) =
    moved_found takes_cut fault _ _ (ap (pending_in lines ending) is ∙ first_then is_pending version lines ending rest)
    (later_fault takes_cut is_pending version (lines + 2) ending fault rest h)

-- ---- an input has one content

-- the bytes after the content
abbrev after_said : Result Said TextFault → Result (List ℕ) TextFault
after_said (Ok said) = said.1
after_said (Err fault) = Err fault

-- no input is both whole and faulty
not_both : (s t : PendingText) (rest : List ℕ) (fault : TextFault) (found : Result Said TextFault)
    → found ≡ Ok (s, Ok rest) → found ≡ Ok (t, Err fault) → ⊥
not_both s t rest fault found whole faulty =
    let both : Ok rest ≡ Err fault = ap after_said (sym whole ∙ faulty) in cc

not_before : (said : Said) (fault : TextFault) (found : Result Said TextFault) → found ≡ Ok said → found ≡ Err fault
    → ⊥
not_before said fault found read faulty = let both : Ok said ≡ Err fault = sym read ∙ faulty in cc

-- whole texts that one input begins with are equal
pub one_whole : (s t : PendingText) (q r : List ℕ) → HasPendingText s → HasPendingText t
    → pending_text s ++ q ≡ pending_text t ++ r → (s ≡ t) × (q ≡ r)
one_whole s t q r has_s has_t same =
    let both : Ok (s, Ok q) ≡ Ok (t, Ok r) =
    sym (whole_said 0 EndOfInput s q has_s) ∙ ap (pending_in 0 EndOfInput) same ∙ whole_said 0 EndOfInput t r has_t in grind (arith, both)

-- an input is a part of one text only
pub one_cut : (lines : ℕ) (input : Ahead) (s t : PendingText) → IsCutText lines input s → IsCutText lines input t
    → s ≡ t
one_cut lines input s t is_s is_t =
    let both = sym (cut_said lines input s is_s) ∙ cut_said lines input t is_t in grind (arith, both)

-- a whole text isn't cut off
pub whole_or_cut : (lines : ℕ) (input : Ahead) (s t : PendingText) (rest : List ℕ) → HasPendingText s
    → input.bytes ≡ pending_text s ++ rest
    → IsCutText lines input t → ⊥
whole_or_cut lines input s t rest has front is =
    not_both s t rest Cut (pending_in lines input.ending input.bytes) (ap (pending_in lines input.ending) front ∙ whole_said lines input.ending s rest has)
    (cut_said lines input t is)

-- a whole text has no fault
pub whole_or_fault : (takes_cut : Bool) (lines : ℕ) (ending : Ending) (t : PendingText) (rest : List ℕ)
    (fault : TextFault) → HasPendingText t
    → IsPendingTextFault takes_cut lines ending (pending_text t ++ rest) fault → ⊥
whole_or_fault takes_cut lines ending t rest fault has h =
    let read = whole_said lines ending t rest has in
    elim (fault_said takes_cut lines ending (pending_text t ++ rest) fault h) [
      | inl before ↦ not_before (t, Ok rest) fault _ read before
      | inr after ↦ not_both t after.0 rest fault _ read after.1
    ]

-- a text that is cut off has no fault, if this is allowed
pub cut_or_fault : (lines : ℕ) (input : Ahead) (t : PendingText) (fault : TextFault) → IsCutText lines input t
    → IsPendingTextFault true lines input.ending input.bytes fault → ⊥
cut_or_fault lines input t fault is h =
    let read = cut_said lines input t is in
    elim (fault_said true lines input.ending input.bytes fault h) [
      | inl before ↦ not_before (t, Err Cut) fault _ read before
      | inr after ↦
          let both = sym read ∙ after.1 in
          let same : fault ≡ Cut = grind (arith, both) in absurd (after.2 refl same)
    ]

-- an input has only one first fault
pub one_pending_fault : (takes_cut : Bool) (lines : ℕ) (ending : Ending) (bytes : List ℕ) (f g : TextFault)
    → IsPendingTextFault takes_cut lines ending bytes f → IsPendingTextFault takes_cut lines ending bytes g → f ≡ g
one_pending_fault takes_cut lines ending bytes f g h k =
    elim (fault_said takes_cut lines ending bytes f h) [
      | inl a ↦ elim (fault_said takes_cut lines ending bytes g k) [
        | inl b ↦ let both = sym a ∙ b in grind (arith, both)
        | inr b ↦ absurd (not_before (b.0, Err g) f _ b.1 a)
      ]
      | inr a ↦ elim (fault_said takes_cut lines ending bytes g k) [
        | inl b ↦ absurd (not_before (a.0, Err f) g _ a.1 b)
        | inr b ↦ let both = sym a.1 ∙ b.1 in grind (arith, both)
      ]
    ]

-- ---- whole texts alone

-- the content of a whole text, and the bytes after it
abbrev pub with_rest : PendingText → Result (List ℕ) TextFault → Result (PendingText × List ℕ) TextFault
with_rest t (Ok rest) = Ok (t, rest)
with_rest t (Err fault) = Err fault

abbrev pub whole_of : Result Said TextFault → Result (PendingText × List ℕ) TextFault
whole_of (Ok said) = with_rest said.0 said.1
whole_of (Err fault) = Err fault

abbrev pub whole_in : ℕ → Ending → List ℕ → Result (PendingText × List ℕ) TextFault
whole_in lines ending bytes = whole_of (pending_in lines ending bytes)

found_whole : (takes_cut : Bool) (fault : TextFault) (found : Result Said TextFault) → IsFound takes_cut fault found
    → whole_of found ≡ Err fault
found_whole takes_cut fault found (inl before) = ap whole_of before
found_whole takes_cut fault found (inr after) = ap whole_of after.1

-- so the input is judged in this way
pub judged : (takes_cut : Bool) → IsJudged HasPendingText pending_text Anything (IsPendingTextFault takes_cut) whole_in
judged takes_cut = record {
  read = λ lines ending t rest has _. ap whole_of (whole_said lines ending t rest has);
  found = λ lines ending bytes fault h. found_whole takes_cut fault (pending_in lines ending bytes) (fault_said takes_cut lines ending bytes fault h);
}

-- ---- the text of a history is one of these

pub same_text : (t : HistoryText) → pending_text (as_pending t) ≡ text_of t
same_text t = by_version t.version t.initial t.events
  where
    by_version : (version : Version) (initial : List ℕ) (events : List Event)
        → pending_text (as_pending (record { version = version; initial = initial; events = events }))
        ≡ text_of (record { version = version; initial = initial; events = events })
    by_version One initial events = grind (arith, append-nil)
    by_version Two initial events = grind (arith, append-nil, append_assoc)

pub has_same : (t : HistoryText) → HasText t → HasPendingText (as_pending t)
has_same t has = record { initial = has.initial; events = has.events; few_open = tt }
