-- Texts of schedules that one input begins with are equal, and an input has only one first fault.
use Rattle.history_text.proofs.Common.{[], ap, append_assoc, arith, Ending, Err, Front, front_of, HasScheduleText}
use Rattle.history_text.proofs.Common.{Header, header_fault, inl, inr, IsScheduleTextFault, IsSetting, line}
use Rattle.history_text.proofs.Common.{line_at_front, lines_before_steps, List, nat_tests, Ok, refl, Result}
use Rattle.history_text.proofs.Common.{schedule_header, schedule_text, setting_in, Some, step_format, TextFault, ℕ}
use Rattle.history_text.proofs.Common.{◌++◌, ◌+◌, ◌>>=◌, ◌∙◌, ◌∷◌, ◌≡◌}
use Rattle.history_text.specs.declared.schedule.Schedule.{Schedule}
use Rattle.history_text.proofs.FormLines.{step_front, setting_says}
use Rattle.history_text.proofs.FirstFaults.{then_ok, then_err, first_at, first_read, items_in, counted_read}
use Rattle.history_text.proofs.FirstFaults.{fault_found, IsJudged, Anything}

abbrev headers : List (Unit {0} × List ℕ)
headers = (tt, schedule_header) ∷ []

-- the steps and the last line, in this setting
abbrev steps_in : ℕ × ℕ → ℕ → Ending → List ℕ → Result (Schedule × List ℕ) TextFault
steps_in set n ending bytes =
    items_in step_format n ending bytes >>= λ items. Ok (record { threads = set.0; ring = set.1; steps = items.0 }, items.1)

-- the lines after the first
abbrev after_header : ℕ → Ending → List ℕ → Result (Schedule × List ℕ) TextFault
after_header lines ending bytes = line_at_front setting_in (lines + 2) ending (front_of bytes) >>= λ set. steps_in set.0 (lines + 3) ending set.1

-- the whole text, judged line by line
abbrev schedule_in : ℕ → Ending → List ℕ → Result (Schedule × List ℕ) TextFault
schedule_in lines ending bytes = first_at headers Header ending (front_of bytes) >>= λ first. after_header lines ending first.1

header_read : (ending : Ending) (rest : List ℕ)
    → first_at headers Header ending (front_of (line schedule_header ++ rest)) ≡ Ok (tt, rest)
header_read ending rest = first_read headers Header ending tt schedule_header rest refl (omega arith) refl

no_header : (ending : Ending) (fault : TextFault) (front : Front)
    → header_fault schedule_header ending front ≡ Some fault
    → first_at headers Header ending front ≡ Err fault
no_header ending fault front h = grind (arith, h)

header_then : (lines : ℕ) (ending : Ending) (rest : List ℕ)
    → schedule_in lines ending (line schedule_header ++ rest) ≡ after_header lines ending rest
header_then lines ending rest = grind (arith, then_ok, header_read)

setting_then : (lines threads ring : ℕ) (ending : Ending) (rest : List ℕ) → IsSetting threads ring
    → schedule_in lines ending (lines_before_steps threads ring ++ rest)
    ≡ steps_in (threads, ring) (lines + 3) ending rest
setting_then lines threads ring ending rest within = grind (arith, append_assoc, header_then, then_ok, setting_says)

read : (lines : ℕ) (ending : Ending) (s : Schedule) (rest : List ℕ) → HasScheduleText s → Anything ending rest
    → schedule_in lines ending (schedule_text s ++ rest) ≡ Ok (s, rest)
read lines ending s rest text _ =
    grind (arith, nat_tests, append_assoc, setting_then, then_ok, counted_read, step_front, header_then, setting_says)

found : (lines : ℕ) (ending : Ending) (bytes : List ℕ) (fault : TextFault)
    → IsScheduleTextFault lines ending bytes fault
    → schedule_in lines ending bytes ≡ Err fault
found lines ending bytes fault (inl h) = grind (arith, then_err, no_header)
found lines ending bytes fault (inr (inl (rest, is, h))) = ap (schedule_in lines ending) is ∙ header_then lines ending rest ∙ then_err _ _ _ h
found lines ending bytes fault (inr (inr (threads, ring, within, (rest, is, h)))) = ap (schedule_in lines ending) is
    ∙ setting_then lines threads ring ending rest within ∙ then_err _ _ _ (fault_found step_format step_front (lines + 3) ending fault rest h)

-- so the input is judged in this way
pub judged : IsJudged HasScheduleText schedule_text Anything IsScheduleTextFault schedule_in
judged = record { read = read; found = found }
