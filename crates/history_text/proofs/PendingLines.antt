-- The lines of texts in which calls may be pending are spelled as they are read, and read back as they are written.
use Rattle.history_text.proofs.Common.{[], all_digits, ap, arith, begins_as_end, bytes_eq, codes, decimal}
use Rattle.history_text.proofs.Common.{decimal_nonempty, drop, end_in, end_line, end_read, Ending, Err, Event}
use Rattle.history_text.proofs.Common.{event_format, false, fields_of, front_of, HasEventLine, header_of, IfOk}
use Rattle.history_text.proofs.Common.{IsItemLine, IsSpelled, join_with_byte-slice_split, length, line, line_of, List}
use Rattle.history_text.proofs.Common.{list_all, MAX_EVENTS, nat_lt, nat_tests, None, Number, Ok, One, Option, refl}
use Rattle.history_text.proofs.Common.{Result, Some, spaced, sym, TextFault, true, Two, Version, whole, Word, ℕ, ◌++◌}
use Rattle.history_text.proofs.Common.{if◌then◌else◌, ◌<◌, ◌>>=◌, ◌^◌, ◌∙◌, ◌∷◌, ◌≡◌, ◌≤◌}
use Rattle.history_text.proofs.FormLines.{end_is_part, event_back, item_line_ok, last_line_ok, row_back, Spells}
use Rattle.history_text.specs.Histories.{event_fields}
use Rattle.history_text.specs.Inner.Pending.{IsStop, open_format}
use Rattle.history_text.specs.Pending.{counts_open, event_line_in, first_line_of, last_line_in, next_event_in}
use Rattle.history_text.specs.Pending.{open_fields}
use Rattle.history_text.specs.Pending.{open_forms, open_in}
use Rattle.history_text.specs.Pending.{stop_line, whole_line_at_front}
use Rattle.history_text.specs.declared.pending_line.EventLine.{EventLine}
use Rattle.history_text.specs.declared.pending_line.EventLine.TheVariants.{OneEvent, Stop}
use Rattle.event_records.specs.declared.limits.TheConstants.{MAX_THREADS}
use Rattle.std.proofs.Common.{Bool, OnOk}
use Rattle.std.proofs.lemmas.Slice.Eq.{bytes_eq-Decides}
use Rattle.std.specs.Char.{is_ascii_digit}
use Rattle.std.specs.Prelude.{slice_index}

-- ---- the first line

-- bytes that don't compare as equal differ
told_apart : (xs ys : List ℕ) → bytes_eq xs ys ≡ false → xs ≡ ys → ⊥
told_apart xs ys differ same = let equal = (bytes_eq-Decides xs ys).1 same in cc

-- another line is not the first of a text
pub other_first_line : (bytes : List ℕ) → bytes_eq bytes (codes "fifo-pending 1") ≡ false
    → bytes_eq bytes (codes "fifo-pending 2") ≡ false
    → ((version : Version) → bytes ≡ header_of version → ⊥) → (is_pending : Bool) (version : Version)
    → bytes ≡ first_line_of is_pending version → ⊥
other_first_line bytes one two history false version same = history version same
other_first_line bytes one two history true One same = told_apart bytes (codes "fifo-pending 1") one same
other_first_line bytes one two history true Two same = told_apart bytes (codes "fifo-pending 2") two same

-- ---- the line that counts pending calls

-- the fields of this line are spelled as they are written
pub open_spells : Spells open_format open_forms (λ _ numbers. slice_index numbers 0)
open_spells = record { bits = refl; rows = (λ calls _ few. record { text = refl; line = few }, tt) }

-- a line with the fields of a count of pending calls is that line
pub open_line_ok : (bytes : List ℕ) (calls : ℕ) → IsSpelled open_format (fields_of bytes) calls
    → line bytes ≡ line (spaced (open_fields calls))
open_line_ok bytes calls spelled = ap line (sym (join_with_byte-slice_split 32 bytes) ∙ ap spaced spelled.text)

-- ---- the last line, and the line of an event

-- a line that counts this many events is the last one
pub end_line_ok : (n k : ℕ) (bytes field : List ℕ) (r : Result (Unit {0}) TextFault) → k < 2 ^ 64
    → begins_as_end bytes ≡ true → field ≡ drop 4 bytes
    → r ≡ end_in n k field → OnOk r (line bytes ≡ end_line k)
end_line_ok n k bytes field (Ok u) small begins field_is is = (last_line_ok event_format n k bytes field small begins field_is is).0
end_line_ok n k bytes field (Err fault) small begins field_is is = tt

-- a line with the fields of an event is the line of that event
pub event_line_ok : (k : ℕ) (bytes : List ℕ) (r : Result Event TextFault) → k < MAX_EVENTS
    → IfOk r (IsSpelled event_format (fields_of bytes))
    → IfOk r (λ e. IsItemLine event_format k bytes (Some e))
event_line_ok k bytes (Ok e) few spelled = item_line_ok event_format k bytes e few spelled
event_line_ok k bytes (Err fault) few spelled = tt

-- ---- lines are read back as they are written

-- digits aren't the word of the line that counts pending calls
digits_are_other : (ds : List ℕ) → 0 < length ds → list_all is_ascii_digit ds ≡ true
    → bytes_eq ds (codes "open") ≡ false
digits_are_other [] some all = absurd (omega (arith, some))
digits_are_other (d ∷ ds) some all = grind arith

-- the line of an event isn't the one that counts pending calls
not_open : (e : Event) → HasEventLine e → counts_open (event_fields e) ≡ false
not_open e has = grind (arith, digits_are_other, decimal_nonempty, all_digits)

-- the line of an event is read as that event
pub event_line_read : (is_pending : Bool) (n k : ℕ) (ending : Ending) (e : Event) (rest : List ℕ) → HasEventLine e
    → k < MAX_EVENTS
    → whole_line_at_front (event_line_in is_pending n k) n ending (front_of (line_of event_format e ++ rest))
    ≡ Ok (OneEvent e, rest)
event_line_read false n k ending e rest has few =
    let is = event_back e.ticket e.thread has.ticket has.thread e.what has.value in
    let here : nat_lt k MAX_EVENTS ≡ true = grind (arith, nat_tests, few) in
    ap (whole_line_at_front (event_line_in false n k) n ending) (whole (spaced (event_fields e)) rest is.one.part)
    ∙ rw (is.one.other, here, is.one.back, is.read_back n) refl
event_line_read true n k ending e rest has few =
    let is = event_back e.ticket e.thread has.ticket has.thread e.what has.value in
    let here : nat_lt k MAX_EVENTS ≡ true = grind (arith, nat_tests, few) in
    ap (whole_line_at_front (event_line_in true n k) n ending) (whole (spaced (event_fields e)) rest is.one.part)
    ∙ rw (is.one.back, not_open e has, here, is.read_back n) refl

-- the item on a line of a pending text, from its fields
abbrev pending_line_in : ℕ → ℕ → List ℕ → List (List ℕ) → Result EventLine TextFault
pending_line_in n k bytes fields =
    if counts_open fields then (open_in n fields >>= λ calls. Ok (Stop (Some calls))) else (next_event_in n k bytes >>= λ e. Ok (OneEvent e))

-- the line that counts pending calls is read back
open_read : (n k : ℕ) (ending : Ending) (calls : ℕ) (rest : List ℕ) → calls ≤ MAX_THREADS
    → whole_line_at_front (event_line_in true n k) n ending (front_of (line (spaced (open_fields calls)) ++ rest))
    ≡ Ok (Stop (Some calls), rest)
open_read n k ending calls rest few =
    let is = row_back open_forms (λ _ numbers. slice_index numbers 0) tt (Word (codes "open") ∷ Number 0 MAX_THREADS ∷ []) (calls ∷ []) refl refl
    (λ n. refl) (omega arith, few, tt) in
    let bytes = spaced (open_fields calls) in
    let says : event_line_in true n k bytes ≡ Ok (Stop (Some calls)) = ap (pending_line_in n k bytes) is.one.back
    ∙ ap (λ (r : Result ℕ TextFault). r >>= λ many. Ok (Stop (Some many))) (is.read_back n) in
    ap (whole_line_at_front (event_line_in true n k) n ending) (whole bytes rest is.one.part)
    ∙ ap (λ (r : Result EventLine TextFault). r >>= λ said. Ok (said, rest)) says

-- the line at which events stop is read back
pub stop_line_read : (is_pending : Bool) (n k : ℕ) (ending : Ending) (calls : Option ℕ) (rest : List ℕ)
    → IsStop is_pending calls → k < 2 ^ 64
    → whole_line_at_front (event_line_in is_pending n k) n ending (front_of (stop_line calls k ++ rest))
    ≡ Ok (Stop calls, rest)
stop_line_read false n k ending None rest stop small =
    ap (whole_line_at_front (event_line_in false n k) n ending) (whole (codes "end " ++ decimal k) rest (end_is_part k small))
    ∙ rw (end_read n k small) refl
stop_line_read true n k ending (Some calls) rest stop small = open_read n k ending calls rest stop.few
stop_line_read true n k ending None rest stop small = let other = stop.of_kind in absurd (cc)
stop_line_read false n k ending (Some calls) rest stop small = let other = stop.of_kind in absurd (cc)

-- the last line is read back
pub last_line_read : (n k : ℕ) (ending : Ending) (rest : List ℕ) → k < 2 ^ 64
    → whole_line_at_front (last_line_in n k) n ending (front_of (end_line k ++ rest)) ≡ Ok (tt, rest)
last_line_read n k ending rest small =
    ap (whole_line_at_front (last_line_in n k) n ending) (whole (codes "end " ++ decimal k) rest (end_is_part k small)) ∙ rw (end_read n k small) refl
