-- Texts of histories, of either version, that one input begins with are equal, and an input has only one first fault.
use Rattle.history_text.proofs.Common.{[], ap, append_assoc, arith, count_fields, count_in, Ending, Err, Event}
use Rattle.history_text.proofs.Common.{event_format, FaultAfterHeader, Front, front_of, HasHistoryText, HasText}
use Rattle.history_text.proofs.Common.{HaveLines, HaveValueLines, Header, header_of, HistoryText, inl, inr}
use Rattle.history_text.proofs.Common.{IsTextFault, ItemFault, length, line, line_at_front, lines_of_initial}
use Rattle.history_text.proofs.Common.{lines_to_end, List, MAX_INITIAL, NoVersionFault, Ok, One, refl, Result, spaced}
use Rattle.history_text.proofs.Common.{text_by, text_of, TextFault, Two, value_format, Version, ℕ, ◌++◌, ◌+◌, ◌>>=◌}
use Rattle.history_text.proofs.Common.{◌∙◌, ◌∷◌, ◌≡◌, ◌≤◌}
use Rattle.history_text.proofs.FormLines.{event_front, value_says, count_says}
use Rattle.history_text.proofs.FirstFaults.{then_ok, then_err, first_at, first_read, items_in, counted_read}
use Rattle.history_text.proofs.FirstFaults.{fault_found, among_in, among_read, among_found, IsJudged, Anything}

-- ---- the input, judged line by line

abbrev versions : List (Version × List ℕ)
versions = (One, header_of One) ∷ (Two, header_of Two) ∷ []

-- the content of a text, and the bytes after it
abbrev said : Version → List ℕ → List Event → List ℕ → Result (HistoryText × List ℕ) TextFault
said version initial events rest = Ok (record { version = version; initial = initial; events = events }, rest)

-- the events and the last line
abbrev events_in : Version → List ℕ → ℕ → Ending → List ℕ → Result (HistoryText × List ℕ) TextFault
events_in version initial n ending bytes = items_in event_format n ending bytes >>= λ es. said version initial es.0 es.1

-- the initial values, as many as were counted, and the events
abbrev values_in : ℕ → ℕ → Ending → List ℕ → Result (HistoryText × List ℕ) TextFault
values_in k n ending bytes = among_in value_format k n ending bytes >>= λ values. events_in Two values.0 (n + k) ending values.1

-- the lines after the first, from line n on
abbrev after_header : Version → ℕ → Ending → List ℕ → Result (HistoryText × List ℕ) TextFault
after_header One n ending bytes = events_in One [] n ending bytes
after_header Two n ending bytes =
    line_at_front count_in n ending (front_of bytes) >>= λ count. values_in count.0 (n + 1) ending count.1

-- the whole text
abbrev history_in : ℕ → Ending → List ℕ → Result (HistoryText × List ℕ) TextFault
history_in lines ending bytes = first_at versions Header ending (front_of bytes) >>= λ first. after_header first.0 (lines + 2) ending first.1

version_read : (version : Version) (ending : Ending) (rest : List ℕ)
    → first_at versions Header ending (front_of (line (header_of version) ++ rest)) ≡ Ok (version, rest)
version_read One ending rest = first_read versions Header ending One (header_of One) rest refl (omega arith) refl
version_read Two ending rest = first_read versions Header ending Two (header_of Two) rest refl (omega arith) refl

no_version : (ending : Ending) (fault : TextFault) (front : Front) → NoVersionFault ending fault front
    → first_at versions Header ending front ≡ Err fault
no_version ending fault front h = let one = h One in let two = h Two in grind (arith, one, two)

version_then : (version : Version) (lines : ℕ) (ending : Ending) (rest : List ℕ)
    → history_in lines ending (line (header_of version) ++ rest) ≡ after_header version (lines + 2) ending rest
version_then version lines ending rest = then_ok _ _ _ (version_read version ending rest)

module _ (n : ℕ) (ending : Ending) where
  count_then : (k : ℕ) (rest : List ℕ) → k ≤ MAX_INITIAL
      → after_header Two n ending (line (spaced (count_fields k)) ++ rest) ≡ values_in k (n + 1) ending rest
  count_then k rest few = then_ok _ _ _ (count_says k few n ending rest)

  values_then : (initial rest : List ℕ) → HaveLines value_format initial
      → after_header Two n ending (lines_of_initial initial ++ rest)
      ≡ events_in Two initial (n + 1 + length initial) ending rest
  values_then initial rest right = grind (arith, append_assoc, count_then, then_ok, among_read, value_says)

  module _ (version : Version) (initial : List ℕ) where
    events_read : (events : List Event) (rest : List ℕ) → HasHistoryText events
        → events_in version initial n ending (lines_to_end events ++ rest) ≡ said version initial events rest
    events_read events rest text =
        then_ok _ _ _ (counted_read event_format event_front n ending events rest text refl (omega arith))

    events_found : (fault : TextFault) (bytes : List ℕ) → ItemFault event_format n ending fault bytes
        → events_in version initial n ending bytes ≡ Err fault
    events_found fault bytes h =
        then_err _ _ _ (fault_found event_format event_front n ending fault bytes h)

-- ---- a text is read

text_read : (lines : ℕ) (ending : Ending) (version : Version) (initial : List ℕ) (events : List Event) (rest : List ℕ)
    → HaveValueLines version initial → HasHistoryText events
    → history_in lines ending (text_by version initial events ++ rest) ≡ said version initial events rest
text_read lines ending One initial events rest none text = grind (arith, append_assoc, version_then, events_read)
text_read lines ending Two initial events rest right text = grind (arith, append_assoc, version_then, values_then, events_read)

-- ---- a first fault is found

later_found : (version : Version) (n : ℕ) (ending : Ending) (fault : TextFault) (bytes : List ℕ)
    → FaultAfterHeader version n ending fault bytes
    → after_header version n ending bytes ≡ Err fault
later_found One n ending fault bytes h = events_found n ending One [] fault bytes h
later_found Two n ending fault bytes (inl (inl h)) = then_err _ _ _ h
later_found Two n ending fault bytes (inl (inr (k, few, (rest, is, h)))) = ap (after_header Two n ending) is ∙ count_then n ending k rest few
    ∙ then_err _ _ _ (among_found value_format value_says (n + 1) ending k fault rest h)
later_found Two n ending fault bytes (inr (initial, right, (rest, is, h))) = ap (after_header Two n ending) is
    ∙ values_then n ending initial rest right ∙ events_found (n + 1 + length initial) ending Two initial fault rest h

found : (lines : ℕ) (ending : Ending) (bytes : List ℕ) (fault : TextFault) → IsTextFault lines ending bytes fault
    → history_in lines ending bytes ≡ Err fault
found lines ending bytes fault (inl h) =
    then_err _ _ _ (no_version ending fault (front_of bytes) h)
found lines ending bytes fault (inr (version, (rest, is, h))) = grind (arith, version_then, later_found)

-- so the input is judged in this way
pub judged : IsJudged HasText text_of Anything IsTextFault history_in
judged = record {
  read = λ lines ending t rest has _. text_read lines ending t.version t.initial t.events rest has.initial has.events;
  found = found;
}
