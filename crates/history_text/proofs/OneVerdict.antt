-- Claims whose texts are one input are equal, and an input has only one first fault.
use Rattle.history_text.proofs.Common.{[], Ahead, ap, append-nil, append_assoc, arith, claim_line_format, ClaimFault}
use Rattle.history_text.proofs.Common.{Left}
use Rattle.history_text.proofs.Common.{codes, Ending, EndOfInput, Err, false, first_line, FirstLineFault, Format}
use Rattle.history_text.proofs.Common.{Front, front_of, HasVerdictText, HaveLines, inl, inr, IsAll, IsVerdictTextFault}
use Rattle.history_text.proofs.Common.{Line, line, lines_of, List, None, Nothing, Ok, operation_format, Option, refl}
use Rattle.history_text.proofs.Common.{Result, Some, subst, sym, TextFault, TooLong, Unfinished, verdict_text}
use Rattle.history_text.proofs.Common.{ViolationKind, Whole, ℕ, ◌++◌, ◌+◌, ◌>>=◌, ◌∙◌, ◌∷◌, ◌≡◌}
use Rattle.claims.specs.declared.claimed.ViolationKind.TheVariants.{VFresh, VRepeat, VOrd, VWit}
use Rattle.claims.specs.declared.claimed.Claimed.{Claimed}
use Rattle.claims.specs.declared.claimed.Claimed.TheVariants.{Yes, No}
use Rattle.history_text.proofs.FormLines.{claim_line_front, IsReadBack, operation_front}
use Rattle.history_text.proofs.FirstFaults as judging
use Rattle.history_text.proofs.FirstFaults.{then_ok, then_err, first_at, first_read, none_with, items_in, all_read}
use Rattle.history_text.proofs.FirstFaults.{fault_found, IsJudged, Stands}

abbrev answers : List (Option ViolationKind × List ℕ)
answers = (None, first_line None) ∷ (Some VFresh, first_line (Some VFresh)) ∷ (Some VRepeat, first_line (Some VRepeat))
    ∷ (Some VOrd, first_line (Some VOrd)) ∷ (Some VWit, first_line (Some VWit)) ∷ []

-- the claim made of lines, and the bytes after them
abbrev made : {A : Type 0} → (List A → Claimed) → List A × List ℕ → Result (Claimed × List ℕ) TextFault
made make items = Ok (make items.0, items.1)

-- the lines after the first, from line n on
abbrev claim_in : Option ViolationKind → ℕ → Ending → List ℕ → Result (Claimed × List ℕ) TextFault
claim_in None n ending bytes = items_in operation_format n ending bytes >>= made Yes
claim_in (Some kind) n ending bytes = items_in claim_line_format n ending bytes >>= made (No kind)

-- the whole text, judged line by line
abbrev verdict_in : ℕ → Ending → List ℕ → Result (Claimed × List ℕ) TextFault
verdict_in lines ending bytes =
    first_at answers (Line (lines + 1)) ending (front_of bytes) >>= λ first. claim_in first.0 (lines + 2) ending first.1

answer_read : (answer : Option ViolationKind) (n : ℕ) (ending : Ending) (rest : List ℕ)
    → first_at answers (Line n) ending (front_of (line (first_line answer) ++ rest)) ≡ Ok (answer, rest)
answer_read None n ending rest = first_read answers (Line n) ending None (first_line None) rest refl (omega arith) refl
answer_read (Some VFresh) n ending rest = first_read answers (Line n) ending (Some VFresh) (codes "NO VFresh") rest refl (omega arith) refl
answer_read (Some VRepeat) n ending rest = first_read answers (Line n) ending (Some VRepeat) (codes "NO VRepeat") rest refl (omega arith) refl
answer_read (Some VOrd) n ending rest = first_read answers (Line n) ending (Some VOrd) (codes "NO VOrd") rest refl (omega arith) refl
answer_read (Some VWit) n ending rest = first_read answers (Line n) ending (Some VWit) (codes "NO VWit") rest refl (omega arith) refl

no_answer : (n : ℕ) (ending : Ending) (fault : TextFault) (front : Front) → FirstLineFault n ending fault front
    → first_at answers (Line n) ending front ≡ Err fault
no_answer n ending fault (Whole bytes rest) h =
    rw h.1 (none_with answers (Line n) bytes rest (h.0 None, (h.0 (Some VFresh), (h.0 (Some VRepeat), (h.0 (Some VOrd), (h.0 (Some VWit), tt))))))
no_answer n ending fault TooLong h = rw h refl
no_answer n ending fault Unfinished h = rw h refl
no_answer n ending fault Nothing h = rw h refl

-- nothing follows a verdict
abbrev pub IsLast : Ending → List ℕ → Type 0
IsLast ending rest = (rest ≡ []) × (ending ≡ EndOfInput)

answer_then : (answer : Option ViolationKind) (lines : ℕ) (ending : Ending) (rest : List ℕ)
    → verdict_in lines ending (line (first_line answer) ++ rest) ≡ claim_in answer (lines + 2) ending rest
answer_then answer lines ending rest = then_ok _ _ _ (answer_read answer (lines + 1) ending rest)

-- all lines up to the end of the input are read
lines_read : {A : Type 0} (format : Format A) → IsReadBack format → format.is_counted ≡ false
    → (make : List A → Claimed) (n : ℕ) (xs : List A)
    → HaveLines format xs
    → (items_in format n EndOfInput (lines_of format xs ++ []) >>= made make) ≡ made make (xs, [])
lines_read format back uncounted make n xs text = grind (arith, then_ok, all_read)

text_read : (lines : ℕ) (c : Claimed) → HasVerdictText c
    → verdict_in lines EndOfInput (verdict_text c ++ []) ≡ Ok (c, [])
text_read lines (Yes xs) text = ap (verdict_in lines EndOfInput) (append_assoc (line (first_line None)) (lines_of operation_format xs) [])
    ∙ answer_then None lines EndOfInput _ ∙ lines_read operation_format operation_front refl Yes (lines + 2) xs text
text_read lines (No kind xs) text = ap (verdict_in lines EndOfInput) (append_assoc (line (first_line (Some kind))) (lines_of claim_line_format xs) [])
    ∙ answer_then (Some kind) lines EndOfInput _ ∙ lines_read claim_line_format claim_line_front refl (No kind) (lines + 2) xs text

read : (lines : ℕ) (ending : Ending) (c : Claimed) (rest : List ℕ) → HasVerdictText c → IsLast ending rest
    → verdict_in lines ending (verdict_text c ++ rest) ≡ Ok (c, rest)
read lines ending c rest text last = grind (arith, text_read)

later_found : (answer : Option ViolationKind) (n : ℕ) (ending : Ending) (fault : TextFault) (bytes : List ℕ)
    → ClaimFault n ending fault answer bytes
    → claim_in answer n ending bytes ≡ Err fault
later_found None n ending fault bytes h = then_err _ _ _
    (fault_found operation_format operation_front n ending fault bytes h)
later_found (Some kind) n ending fault bytes h = then_err _ _ _
    (fault_found claim_line_format claim_line_front n ending fault bytes h)

found : (lines : ℕ) (ending : Ending) (bytes : List ℕ) (fault : TextFault)
    → IsVerdictTextFault lines ending bytes fault
    → verdict_in lines ending bytes ≡ Err fault
found lines ending bytes fault (inl h) = then_err _ _ _ (no_answer _ ending fault _ h)
found lines ending bytes fault (inr (answer, (rest, is, h))) = grind (arith, answer_then, later_found)

-- so the input is judged in this way
pub judged : IsJudged HasVerdictText verdict_text IsLast IsVerdictTextFault verdict_in
judged = record { read = read; found = found }

-- a verdict that is all of the input is what it begins with
pub stands : (old : Left) (text : List ℕ) → IsAll old text → Stands IsLast old text
stands old text all = λ a may.
    let is = all a may in ([], ap (λ (b : Ahead). b.bytes) is ∙ sym (append-nil text), (refl, ap (λ (b : Ahead). b.ending) is))

-- claims with the same text are equal
pub texts_agree : (c d : Claimed) → HasVerdictText c → HasVerdictText d → verdict_text c ≡ verdict_text d → c ≡ d
texts_agree c d text_c text_d same =
    (judging.texts_agree judged EndOfInput c d [] [] text_c text_d (refl, refl) (refl, refl) (ap (λ (t : List ℕ). t ++ []) same)).0

-- a text of a verdict has no fault
pub text_has_no_fault : (lines : ℕ) (c : Claimed) (fault : TextFault) → HasVerdictText c
    → IsVerdictTextFault lines EndOfInput (verdict_text c) fault → ⊥
text_has_no_fault lines c fault text h = judging.text_has_no_fault judged lines EndOfInput c [] fault text (refl, refl)
    (subst (λ (t : List ℕ). IsVerdictTextFault lines EndOfInput t fault) (sym (append-nil (verdict_text c))) h)
