-- From what calls on the reader gave to what the input is, or to its fault. An input says one thing, or has one fault.
use Rattle.commands.proofs.Common.{Ahead, alone, AnswersFor, AnswersOrNoMemory, ap, append-nil, arith, claim_on}
use Rattle.commands.proofs.Common.{Claimed, ClaimOnText, Drawable, Ending, EndOfInput, HasText, HasVerdictText}
use Rattle.commands.proofs.Common.{HistoryText, inl, input_of, inr, IsClaimOf, IsDrawableOf}
use Rattle.commands.proofs.Common.{IsFaultOfClaimInput, IsFaultOfDrawableInput, IsFaultOfHistoryInput, IsHistoryOf}
use Rattle.commands.proofs.Common.{IsTextFault, IsVerdictTextFault, line_count, List, None, NoRoomForSchedule}
use Rattle.commands.proofs.Common.{NoRoomForText, NoRoomForVerdict, Option, refl, Reply, SameOrNoMemory, Some, subst}
use Rattle.commands.proofs.Common.{sym, Takes, text_of, TextFault, verdict_text, with_claim, [], ℕ, ◌++◌, ◌∙◌, ◌≡◌}
use Rattle.commands.proofs.Common.{◌≢◌, ◌⊎◌}
use Rattle.commands.specs.Inputs.{AfterText, FaultBehind, IsFaultBehind, IsFaultOfEnd, IsFaultOfOneText, IsFaultOfScheduleInput}
use Rattle.commands.specs.Inputs.{begins_as_yes, FaultByFirst, history_in, IsFaultOfDrawnText, IsFaultOfTexts, IsFaultOfVerdictInput, IsScheduleOf}
use Rattle.commands.specs.Inputs.{IsWhole, LacksVerdict, of_yes}
use Rattle.commands.specs.Inner.Inputs.{BeginsAsYes}
use Rattle.history_text.specs.Reading.{Fails, HasEndFault, HasFirstFault, HasMore, HasTextFault, HasVerdictTextFault, IsEndFault, IsNext, IsOver}
use Rattle.history_text.specs.Reading.{Left, MayBeLeft, OfLeft}
use Rattle.history_text.specs.Pending.{first_line_of}
use Rattle.history_text.proofs.Consuming.{before_end, some_left, taken_through}
use Rattle.history_merge.specs.declared.operation.Operation.{Operation}
use Rattle.claims.specs.declared.claimed.ClaimLine.{ClaimLine}
use Rattle.claims.specs.declared.claimed.ViolationKind.{ViolationKind}
use Rattle.commands.proofs.Common.{line, One, Two, Version}
use Rattle.std.proofs.Common.{◌==◌}
use Rattle.text_lines.proofs.MemoryOrNot.{follows, is_memory, known_fault}
use Rattle.text_lines.specs.declared.fault.TextFault.TheVariants.{Read}
use Rattle.claims.specs.declared.claimed.Claimed.TheVariants.{No, Yes}
use Rattle.history_text.proofs.FirstFaults.{Anything, IsJudged, moved, one_first_fault, text_has_no_fault, texts_agree}
use Rattle.std.specs.declared.result.Result.{Result}
use Rattle.history_text.proofs.OneHistory as histories
use Rattle.history_text.proofs.OneSchedule as schedules
use Rattle.text_lines.specs.declared.fault.TextFault.TheVariants as text
use Rattle.history_text.proofs.OneVerdict as verdict_texts
use Rattle.history_text.proofs.OnePending as pendings
use Rattle.history_text.proofs.OnePending.{has_same, same_text}
use Rattle.history_text.specs.Pending.{as_pending, HasPendingText, HasPendingTextFault, IsCutText, IsPendingRead, IsPendingTextFault, NoRoomForPending}
use Rattle.history_text.specs.Pending.{pending_line_count, pending_text}
use Rattle.text_lines.specs.Faults.{MemoryOr}
use Rattle.text_lines.specs.Input.{after, Known, MayGive, OfInput}
use Rattle.std.specs.Prelude.{is_some}
use Rattle.history_text.specs.declared.pending_text.PendingText.{PendingText}
use Rattle.commands.specs.Completing.{IsFaultOfPendingInput, IsPendingOf}
use Rattle.std.proofs.Common.{Bool, false, true}

-- ---- what was taken of the input

-- the input that a reader has left at first
abbrev pub start : Known → Left
start known = record { front = []; behind = known }

-- a fact about some input that is left at first is one about some input that the source may give
pub from_start : (known : Known) (P : Ahead → Type 0) → OfLeft (start known) P → OfInput known P
from_start known P found = record {
  input = found.input;
  may = subst (MayGive known) (sym found.may.2) found.may.1;
  is_so = found.is_so;
}

-- the input that was left is what was taken of it, if it is over then
pub over_left : (old left : Left) (text : List ℕ) (P : Ahead → Type 0) → Takes old left text → IsOver EndOfInput left → P (input_of text) → OfLeft old P
over_left old left text P taken over is = before_end old left EndOfInput text (λ e b. P (record { bytes = b; ending = e })) taken over is

-- so it is if nothing was taken after that
pub whole_left : (old mid left : Left) (text : List ℕ) (P : Ahead → Type 0) → Takes old mid text → Takes mid left []
    → IsOver EndOfInput left → P (input_of text) → OfLeft old P
whole_left old mid left text P before after = over_left old left text P (taken_through old mid left text before after)

-- the input is what was taken of it, if it is over then
pub over_input : (known : Known) (left : Left) (text : List ℕ) (P : Ahead → Type 0) → Takes (start known) left text → IsOver EndOfInput left
    → P (input_of text) → OfInput known P
over_input known left text P taken over is = from_start known P (over_left (start known) left text P taken over is)

-- so it is if nothing was taken after that
pub whole_input : (known : Known) (mid left : Left) (text : List ℕ) (P : Ahead → Type 0) → Takes (start known) mid text → Takes mid left []
    → IsOver EndOfInput left → P (input_of text) → OfInput known P
whole_input known mid left text P before after = over_input known left text P (taken_through (start known) mid left text before after)

-- ---- an input says one thing

-- an input says one value, or it has one fault; out of memory aside, not both
pub record SaysOneThing {A : Type 0} (IsInputOf : Ahead → A → Type 0) (IsFaultOf : Ahead → TextFault → Type 0) : Type 0 where
  pub one_value : (input : Ahead) (x y : A) → IsInputOf input x → IsInputOf input y → x ≡ y
  pub only_memory : (input : Ahead) (x : A) (fault : TextFault) → IsInputOf input x → fault ≢ text.Memory → IsFaultOf input fault → ⊥
  pub one_fault : (input : Ahead) (f g : TextFault) → f ≢ text.Memory → g ≢ text.Memory → IsFaultOf input f → IsFaultOf input g → f ≡ g

-- ---- a text, and what comes after it

module _ {A : Type 0} (Has : A → Type 0) (said : A → List ℕ) (IsFirst : ℕ → Ending → List ℕ → TextFault → Type 0) (LacksRoom : List ℕ → Type 0)
    (IsNext : A → Ending → List ℕ → TextFault → Type 0) (LacksNext : A → List ℕ → Type 0) where
  -- there was no room for what the input says
  abbrev Lacks : Ahead → Type 0
  Lacks a = LacksRoom a.bytes ⊎ AfterText Has said LacksNext a.bytes

  -- a fault of the text, or of what comes after it
  abbrev IsFault : Ahead → TextFault → Type 0
  IsFault a f = IsFirst 0 a.ending a.bytes f ⊎ AfterText Has said (λ value rest. IsNext value a.ending rest f) a.bytes

  -- a fault of the text, where this input is left before it
  pub first_fault_of : (old : Left) (fault : TextFault) → HasFirstFault (IsFirst 0) LacksRoom old fault
      → OfLeft old (λ a. IsFaultOfTexts Has said (IsFirst 0) LacksRoom IsNext LacksNext a fault)
  first_fault_of old fault h = record {
    input = h.input;
    may = h.may;
    is_so = follows (LacksRoom h.input.bytes) (Lacks h.input) (IsFirst 0 h.input.ending h.input.bytes) (IsFault h.input) fault inl (λ f. inl) h.is_so;
  }

  -- a fault of the text
  pub first_fault : (known : Known) (fault : TextFault) → HasFirstFault (IsFirst 0) LacksRoom (start known) fault
      → OfInput known (λ a. IsFaultOfTexts Has said (IsFirst 0) LacksRoom IsNext LacksNext a fault)
  first_fault known fault h =
      from_start known (λ a. IsFaultOfTexts Has said (IsFirst 0) LacksRoom IsNext LacksNext a fault) (first_fault_of (start known) fault h)

  -- a fault of what comes after the text, where this input is left before that
  pub next_fault_of : (old left : Left) (value : A) (fault : TextFault) → Has value → Takes old left (said value)
      → HasFirstFault (IsNext value) (LacksNext value) left fault
      → OfLeft old (λ a. IsFaultOfTexts Has said (IsFirst 0) LacksRoom IsNext LacksNext a fault)
  next_fault_of old left value fault has taken h = moved (λ b. MemoryOr (LacksNext value b.bytes) (IsNext value b.ending b.bytes) fault)
      (λ a. IsFaultOfTexts Has said (IsFirst 0) LacksRoom IsNext LacksNext a fault) old left (said value) taken (behind_value value has) h
    where
      behind_value : (x : A) → Has x → (b : Ahead) → MemoryOr (LacksNext x b.bytes) (IsNext x b.ending b.bytes) fault
          → IsFaultOfTexts Has said (IsFirst 0) LacksRoom IsNext LacksNext (after (said x) b) fault
      behind_value x has_x b = follows (LacksNext x b.bytes) (Lacks (after (said x) b)) (IsNext x b.ending b.bytes) (IsFault (after (said x) b)) fault
          (λ room. inr (record { value = x; rest = b.bytes; has = has_x; front = refl; after = room }))
          (λ f next. inr (record { value = x; rest = b.bytes; has = has_x; front = refl; after = next }))

  -- a fault of what comes after the text
  pub next_fault : (known : Known) (left : Left) (value : A) (fault : TextFault) → Has value → Takes (start known) left (said value)
      → HasFirstFault (IsNext value) (LacksNext value) left fault
      → OfInput known (λ a. IsFaultOfTexts Has said (IsFirst 0) LacksRoom IsNext LacksNext a fault)
  next_fault known left value fault has taken h = from_start known (λ a. IsFaultOfTexts Has said (IsFirst 0) LacksRoom IsNext LacksNext a fault)
      (next_fault_of (start known) left value fault has taken h)

  module _ {judge : ℕ → Ending → List ℕ → Result (A × List ℕ) TextFault} (judged : IsJudged Has said Anything IsFirst judge)
      (one_next : (x : A) (ending : Ending) (rest : List ℕ) (f g : TextFault) → IsNext x ending rest f → IsNext x ending rest g → f ≡ g) where
    -- a text that stands at the front has no fault
    no_first : (input : Ahead) (x : A) (rest : List ℕ) (fault : TextFault) → Has x → input.bytes ≡ said x ++ rest
        → IsFirst 0 input.ending input.bytes fault → ⊥
    no_first input x rest fault has front first =
        text_has_no_fault judged 0 input.ending x rest fault has tt (subst (λ bytes. IsFirst 0 input.ending bytes fault) front first)

    -- nor has the input, where what comes after the text has none
    no_fault_of : (input : Ahead) (x : A) (rest : List ℕ) (fault : TextFault) → Has x → input.bytes ≡ said x ++ rest
        → (IsNext x input.ending rest fault → ⊥) → IsFault input fault → ⊥
    no_fault_of input x rest fault has front no_next (inl first) = no_first input x rest fault has front first
    no_fault_of input x rest fault has front no_next (inr y) =
        let parts = texts_agree judged EndOfInput x y.value rest y.rest has y.has tt tt (sym front ∙ y.front) in
        no_next (rw (← parts.0, ← parts.1) at y.after)

    one_fault_of : (input : Ahead) (f g : TextFault) → IsFault input f → IsFault input g → f ≡ g
    one_fault_of input f g (inl x) (inl y) = one_first_fault judged 0 input.ending input.bytes f g x y
    one_fault_of input f g (inl x) (inr y) = absurd (no_first input y.value y.rest f y.has y.front x)
    one_fault_of input f g (inr x) (inl y) = absurd (no_first input x.value x.rest g x.has x.front y)
    one_fault_of input f g (inr x) (inr y) =
        let parts = texts_agree judged EndOfInput x.value y.value x.rest y.rest x.has y.has tt tt (sym x.front ∙ y.front) in
        one_next y.value input.ending y.rest f g (rw (parts.0, parts.1) at x.after) y.after

    -- so an input says one thing, where it says one value, by a text and what comes after it without fault
    says_one_thing : {B : Type 0} (IsInputOf : Ahead → B → Type 0) → ((input : Ahead) (x y : B) → IsInputOf input x → IsInputOf input y → x ≡ y)
        → ((input : Ahead) (x : B) → IsInputOf input x → (value : A) × (rest : List ℕ) × Has value × (input.bytes ≡ said value ++ rest)
        × ((fault : TextFault) → IsNext value input.ending rest fault → ⊥))
        → SaysOneThing IsInputOf (IsFaultOfTexts Has said (IsFirst 0) LacksRoom IsNext LacksNext)
    says_one_thing IsInputOf one_value parts = record {
      one_value = one_value;
      only_memory = λ input x fault is known faulty. let p = parts input x is in
          no_fault_of input p.0 p.1 fault p.2 p.3 (p.4 fault) (known_fault (Lacks input) (IsFault input) fault known faulty);
      one_fault = λ input f g known_f known_g is_f is_g. one_fault_of input f g (known_fault (Lacks input) (IsFault input) f known_f is_f)
          (known_fault (Lacks input) (IsFault input) g known_g is_g);
    }

-- ---- one text

-- the input isn't over after a text
end_or_memory : (a : Ahead) (fault : TextFault) → IsEndFault a fault → MemoryOr ⊥ (IsFaultOfEnd a.ending a.bytes) fault
end_or_memory a text.Memory h = absurd h
end_or_memory a fault h = h

not_over : (left : Left) (fault : TextFault) → HasEndFault left fault → HasFirstFault IsFaultOfEnd (λ _. ⊥) left fault
not_over left fault h = record { input = h.input; may = h.may; is_so = end_or_memory h.input fault h.is_so }

-- an input that is over has no such fault
none_at_end : (fault : TextFault) → IsFaultOfEnd EndOfInput [] fault → ⊥
none_at_end text.Trailing h = let more = h.2 in cc
none_at_end text.Read h = let fails = h.1 in cc
none_at_end fault h = h

-- and one that isn't has one
one_at_end : (ending : Ending) (rest : List ℕ) (f g : TextFault) → IsFaultOfEnd ending rest f → IsFaultOfEnd ending rest g → f ≡ g
one_at_end ending rest text.Trailing text.Trailing x y = refl
one_at_end ending rest text.Read text.Read x y = refl
one_at_end ending rest text.Trailing text.Read x y = let more = x.2 in let none = y.0 in cc
one_at_end ending rest text.Read text.Trailing x y = let none = x.0 in let more = y.2 in cc
one_at_end ending rest text.Trailing g x y = absurd y
one_at_end ending rest text.Read g x y = absurd y
one_at_end ending rest f g x y = absurd x

module _ {A : Type 0} (Has : A → Type 0) (said : A → List ℕ) (IsFirst : ℕ → Ending → List ℕ → TextFault → Type 0) (LacksRoom : List ℕ → Type 0) where
  -- a fault of the text
  pub text_fault : (known : Known) (fault : TextFault) → HasFirstFault (IsFirst 0) LacksRoom (start known) fault
      → OfInput known (λ a. IsFaultOfOneText Has said (IsFirst 0) LacksRoom a fault)
  text_fault = first_fault Has said IsFirst LacksRoom (λ _. IsFaultOfEnd) (λ _ _. ⊥)

  -- a fault of what comes after it
  pub end_fault : (known : Known) (left : Left) (value : A) (fault : TextFault) → Has value → Takes (start known) left (said value)
      → HasEndFault left fault → OfInput known (λ a. IsFaultOfOneText Has said (IsFirst 0) LacksRoom a fault)
  end_fault known left value fault has taken h =
      next_fault Has said IsFirst LacksRoom (λ _. IsFaultOfEnd) (λ _ _. ⊥) known left value fault has taken (not_over left fault h)

module _ {A : Type 0} {Has : A → Type 0} {said : A → List ℕ} {IsFirst : ℕ → Ending → List ℕ → TextFault → Type 0} (LacksRoom : List ℕ → Type 0)
    {judge : ℕ → Ending → List ℕ → Result (A × List ℕ) TextFault} (judged : IsJudged Has said Anything IsFirst judge) where
  -- an input is the text of one value, or has one fault
  one_text : SaysOneThing (λ input x. Has x × IsWhole (said x) input) (IsFaultOfOneText Has said (IsFirst 0) LacksRoom)
  one_text = says_one_thing Has said IsFirst LacksRoom (λ _. IsFaultOfEnd) (λ _ _. ⊥) judged (λ _. one_at_end)
      (λ input x. Has x × IsWhole (said x) input)
      (λ input x y is_x is_y. (texts_agree judged EndOfInput x y [] [] is_x.0 is_y.0 tt tt (ap (λ b. b ++ []) (sym is_x.1.bytes ∙ is_y.1.bytes))).0)
      (λ input x is. (x, [], is.0, is.1.bytes ∙ sym (append-nil (said x)), λ fault next. none_at_end fault (rw is.1.ending at next)))

-- an input is one history, or has one fault
pub one_history : SaysOneThing IsHistoryOf IsFaultOfHistoryInput
one_history = one_text NoRoomForText histories.judged

-- an input is one schedule, or has one fault
pub one_schedule : SaysOneThing IsScheduleOf IsFaultOfScheduleInput
one_schedule = one_text NoRoomForSchedule schedules.judged

-- ---- a history whose calls may be pending

module _ (takes_cut : Bool) where
  -- an input is one such text, whole
  abbrev one_pending_text : SaysOneThing (λ input x. HasPendingText x × IsWhole (pending_text x) input) (IsFaultOfPendingInput takes_cut)
  one_pending_text = one_text NoRoomForPending (pendings.judged takes_cut)

  -- a text is whole, or cut off
  not_both_pending : (input : Ahead) (x y : PendingText) → HasPendingText x → IsWhole (pending_text x) input → IsCutText 0 input y → ⊥
  not_both_pending input x y has whole cut = pendings.whole_or_cut 0 input x y [] has (whole.bytes ∙ sym (append-nil (pending_text x))) cut

  one_value_pending : (input : Ahead) (x y : PendingText) → IsPendingOf takes_cut input x → IsPendingOf takes_cut input y → x ≡ y
  one_value_pending input x y (inl is_x) (inl is_y) = one_pending_text.one_value input x y is_x is_y
  one_value_pending input x y (inl is_x) (inr is_y) = absurd (not_both_pending input x y is_x.0 is_x.1 is_y.1)
  one_value_pending input x y (inr is_x) (inl is_y) = absurd (not_both_pending input y x is_y.0 is_y.1 is_x.1)
  one_value_pending input x y (inr is_x) (inr is_y) = pendings.one_cut 0 input x y is_x.1 is_y.1

  cut_has_no_fault : (input : Ahead) (x : PendingText) (fault : TextFault) → takes_cut ≡ true → IsCutText 0 input x
      → IsFault HasPendingText pending_text (IsPendingTextFault takes_cut) NoRoomForPending (λ _. IsFaultOfEnd) (λ _ _. ⊥) input fault → ⊥
  cut_has_no_fault input x fault allowed cut (inl first) =
      pendings.cut_or_fault 0 input x fault cut (subst (λ b. IsPendingTextFault b 0 input.ending input.bytes fault) allowed first)
  cut_has_no_fault input x fault allowed cut (inr after) = pendings.whole_or_cut 0 input after.value x after.rest after.has after.front cut

  only_memory_pending : (input : Ahead) (x : PendingText) (fault : TextFault) → IsPendingOf takes_cut input x → fault ≢ text.Memory
      → IsFaultOfPendingInput takes_cut input fault → ⊥
  only_memory_pending input x fault (inl whole) known faulty = one_pending_text.only_memory input x fault whole known faulty
  only_memory_pending input x fault (inr cut) known faulty = cut_has_no_fault input x fault cut.0 cut.1 (known_fault
      (Lacks HasPendingText pending_text (IsPendingTextFault takes_cut) NoRoomForPending (λ _. IsFaultOfEnd) (λ _ _. ⊥) input)
      (IsFault HasPendingText pending_text (IsPendingTextFault takes_cut) NoRoomForPending (λ _. IsFaultOfEnd) (λ _ _. ⊥) input) fault known faulty)

  -- an input is one such text, or what comes of one, or has one fault
  pub one_pending : SaysOneThing (IsPendingOf takes_cut) (IsFaultOfPendingInput takes_cut)
  one_pending = record {
    one_value = one_value_pending;
    only_memory = only_memory_pending;
    one_fault = one_pending_text.one_fault;
  }

-- ---- a history, and a verdict on it

-- an input has one claim
one_claim_of : (input : Ahead) (x y : ClaimOnText) → IsClaimOf input x → IsClaimOf input y → x ≡ y
one_claim_of input x y is_x is_y =
    let parts = texts_agree histories.judged EndOfInput x.text y.text (verdict_text x.claimed) (verdict_text y.claimed) is_x.history is_y.history
    tt tt (sym is_x.whole.bytes ∙ is_y.whole.bytes) in
    let texts = parts.0 in
    let claims = verdict_texts.texts_agree x.claimed y.claimed is_x.verdict is_y.verdict parts.1 in
    λ i. record { text = texts i; claimed = claims i }

claim_parts : (input : Ahead) (x : ClaimOnText) → IsClaimOf input x → (text : HistoryText) × (rest : List ℕ) × HasText text
    × (input.bytes ≡ text_of text ++ rest) × ((fault : TextFault) → IsVerdictTextFault (line_count text) input.ending rest fault → ⊥)
claim_parts input x is = (
  x.text,
  verdict_text x.claimed,
  is.history,
  is.whole.bytes,
  λ fault next. verdict_texts.text_has_no_fault (line_count x.text) x.claimed fault is.verdict (rw is.whole.ending at next),
)

-- an input is one claim, or has one fault
pub one_claim : SaysOneThing IsClaimOf IsFaultOfClaimInput
one_claim = says_one_thing HasText text_of IsTextFault NoRoomForText (λ t. IsVerdictTextFault (line_count t)) (λ _. NoRoomForVerdict)
    histories.judged (λ t ending. one_first_fault verdict_texts.judged (line_count t) ending) IsClaimOf one_claim_of claim_parts

-- a fault of the history's text
pub claim_history_fault : (known : Known) (fault : TextFault) → HasTextFault 0 (start known) fault → OfInput known (λ a. IsFaultOfClaimInput a fault)
claim_history_fault =
    first_fault HasText text_of IsTextFault NoRoomForText (λ t. IsVerdictTextFault (line_count t)) (λ _. NoRoomForVerdict)

-- a fault of the verdict's text, after the history's
pub verdict_fault : (known : Known) (left : Left) (text : HistoryText) (lines : ℕ) (fault : TextFault) → HasText text
    → Takes (start known) left (text_of text) → lines ≡ line_count text → HasVerdictTextFault lines left fault
    → OfInput known (λ a. IsFaultOfClaimInput a fault)
verdict_fault known left text lines fault has taken is h =
    next_fault HasText text_of IsTextFault NoRoomForText (λ t. IsVerdictTextFault (line_count t)) (λ _. NoRoomForVerdict)
    known left text fault has taken (rw is at h)

-- ---- a history, and a verdict on it if anything follows; or a text that counts pending calls; or a `YES` alone

-- a verdict has some text
no_empty_verdict : (claimed : Claimed) → [] ≡ verdict_text claimed → ⊥
no_empty_verdict (Yes operations) same = cc
no_empty_verdict (No kind lines) same = cc

-- no verdict follows a text on its own
alone_without_claim : (input : Ahead) (text : PendingText) (claim : ClaimOnText) → IsDrawableOf input (alone text) → IsClaimOf input claim → ⊥
alone_without_claim input text claim is_text is_claim =
    let parts = texts_agree (pendings.judged false) EndOfInput text (as_pending claim.text) [] (verdict_text claim.claimed) is_text.0
    (has_same claim.text is_claim.history) tt tt (append-nil (pending_text text) ∙ sym is_text.1.bytes ∙ is_claim.whole.bytes
    ∙ ap (λ t. t ++ verdict_text claim.claimed) (sym (same_text claim.text))) in
    no_empty_verdict claim.claimed parts.1

-- the text of a history begins otherwise than a `YES`
begins_otherwise : (is_pending : Bool) (version : Version) (more rest : List ℕ)
    → begins_as_yes ((line (first_line_of is_pending version) ++ more) ++ rest) ≡ false
begins_otherwise false One more rest = refl
begins_otherwise false Two more rest = refl
begins_otherwise true One more rest = refl
begins_otherwise true Two more rest = refl

text_begins : (input : Ahead) (t : PendingText) (rest : List ℕ) → input.bytes ≡ pending_text t ++ rest → begins_as_yes input.bytes ≡ false
text_begins input t rest front = ap begins_as_yes front ∙ begins_otherwise (is_some t.open_calls) t.version _ rest

alone_begins : (input : Ahead) (t : PendingText) → IsDrawableOf input (alone t) → begins_as_yes input.bytes ≡ false
alone_begins input t is = text_begins input t [] (is.1.bytes ∙ sym (append-nil (pending_text t)))

claim_begins : (input : Ahead) (x : ClaimOnText) → IsClaimOf input x → begins_as_yes input.bytes ≡ false
claim_begins input x is = text_begins input (as_pending x.text) (verdict_text x.claimed)
    (is.whole.bytes ∙ ap (λ t. t ++ verdict_text x.claimed) (sym (same_text x.text)))

yes_begins : (input : Ahead) (operations : List Operation) → IsDrawableOf input (of_yes operations) → begins_as_yes input.bytes ≡ true
yes_begins input operations is = ap begins_as_yes is.1.bytes

-- an input doesn't begin both as a `YES` and otherwise
not_both : (bytes : List ℕ) → begins_as_yes bytes ≡ true → begins_as_yes bytes ≡ false → ⊥
not_both bytes is isnt = let both = sym is ∙ isnt in cc

abbrev listed : Claimed → List Operation
listed (Yes operations) = operations
listed (No kind lines) = []

one_drawable_of : (input : Ahead) (x y : Drawable) → IsDrawableOf input x → IsDrawableOf input y → x ≡ y
one_drawable_of input (alone x) (alone y) is_x is_y = ap (λ t. alone t) ((one_pending_text false).one_value input x y is_x is_y)
one_drawable_of input (alone x) (with_claim y) is_x is_y = absurd (alone_without_claim input x y is_x is_y)
one_drawable_of input (with_claim x) (alone y) is_x is_y = absurd (alone_without_claim input y x is_y is_x)
one_drawable_of input (with_claim x) (with_claim y) is_x is_y = ap (λ c. with_claim c) (one_claim_of input x y is_x is_y)
one_drawable_of input (of_yes x) (of_yes y) is_x is_y =
    ap (λ c. of_yes (listed c)) (verdict_texts.texts_agree (Yes x) (Yes y) is_x.0 is_y.0 (sym is_x.1.bytes ∙ is_y.1.bytes))
one_drawable_of input (of_yes x) (alone y) is_x is_y = absurd (not_both input.bytes (yes_begins input x is_x) (alone_begins input y is_y))
one_drawable_of input (of_yes x) (with_claim y) is_x is_y = absurd (not_both input.bytes (yes_begins input x is_x) (claim_begins input y is_y))
one_drawable_of input (alone x) (of_yes y) is_x is_y = absurd (not_both input.bytes (yes_begins input y is_y) (alone_begins input x is_x))
one_drawable_of input (with_claim x) (of_yes y) is_x is_y = absurd (not_both input.bytes (yes_begins input y is_y) (claim_begins input x is_x))

-- the input after a text has one fault
one_behind : (calls : Option ℕ) (lines : ℕ) (ending : Ending) (rest : List ℕ) (f g : TextFault) → FaultBehind calls lines ending rest f
    → FaultBehind calls lines ending rest g → f ≡ g
one_behind (Some n) lines ending rest f g x y = one_at_end ending rest f g x y
one_behind None lines ending rest f g x y = one_first_fault verdict_texts.judged lines ending rest f g x.0 y.0

-- and none if that is nothing
none_behind : (calls : Option ℕ) (lines : ℕ) (ending : Ending) (fault : TextFault) → ending ≡ EndOfInput → FaultBehind calls lines ending [] fault → ⊥
none_behind (Some n) lines ending fault over next = none_at_end fault (rw over at next)
none_behind None lines ending fault over next = next.1 (refl, over)

-- the input is one history with a claim, or one text alone
abbrev IsTextOf : Ahead → Drawable → Type 0
IsTextOf input (alone text) = IsDrawableOf input (alone text)
IsTextOf input (with_claim claim) = IsClaimOf input claim
IsTextOf input (of_yes operations) = ⊥

-- an input is one history with a claim, or one text alone, or has one fault
one_drawn_text : SaysOneThing IsTextOf IsFaultOfDrawnText
one_drawn_text = says_one_thing HasPendingText pending_text (IsPendingTextFault false) NoRoomForPending IsFaultBehind LacksVerdict (pendings.judged false)
    (λ t ending rest f g. one_behind t.open_calls (pending_line_count t) ending rest f g) IsTextOf one_text_of parts
  where
    as_drawable : (input : Ahead) (x : Drawable) → IsTextOf input x → IsDrawableOf input x
    as_drawable input (alone x) is = is
    as_drawable input (with_claim x) is = is
    as_drawable input (of_yes x) is = absurd is

    one_text_of : (input : Ahead) (x y : Drawable) → IsTextOf input x → IsTextOf input y → x ≡ y
    one_text_of input x y is_x is_y = one_drawable_of input x y (as_drawable input x is_x) (as_drawable input y is_y)

    parts : (input : Ahead) (x : Drawable) → IsTextOf input x → (text : PendingText) × (rest : List ℕ) × HasPendingText text
        × (input.bytes ≡ pending_text text ++ rest) × ((fault : TextFault) → IsFaultBehind text input.ending rest fault → ⊥)
    parts input (alone x) is = (
      x,
      [],
      is.0,
      is.1.bytes ∙ sym (append-nil (pending_text x)),
      λ fault next. none_behind x.open_calls (pending_line_count x) input.ending fault is.1.ending next,
    )
    parts input (with_claim x) is =
        let p = claim_parts input x is in
        (as_pending p.0, p.1, has_same p.0 p.2, p.3 ∙ ap (λ t. t ++ p.1) (sym (same_text p.0)), λ fault next. p.4 fault next.0)
    parts input (of_yes x) is = absurd is

-- a `YES` has no fault but out of memory
only_memory_yes : (input : Ahead) (operations : List Operation) (fault : TextFault) → IsDrawableOf input (of_yes operations) → fault ≢ text.Memory
    → IsFaultOfVerdictInput input fault → ⊥
only_memory_yes input operations fault is known faulty =
    let first = known_fault (NoRoomForVerdict input.bytes) (IsVerdictTextFault 0 input.ending input.bytes) fault known faulty in
    verdict_texts.text_has_no_fault 0 (Yes operations) fault is.0
    (subst (λ e. IsVerdictTextFault 0 e (verdict_text (Yes operations)) fault) is.1.ending
    (subst (λ b. IsVerdictTextFault 0 input.ending b fault) is.1.bytes first))

only_memory_drawable : (input : Ahead) (x : Drawable) (fault : TextFault) → IsDrawableOf input x → fault ≢ text.Memory → IsFaultOfDrawableInput input fault → ⊥
only_memory_drawable input (alone x) fault is known faulty = one_drawn_text.only_memory input (alone x) fault is known
    (subst (λ b. FaultByFirst b input fault) (alone_begins input x is) faulty)
only_memory_drawable input (with_claim x) fault is known faulty = one_drawn_text.only_memory input (with_claim x) fault is known
    (subst (λ b. FaultByFirst b input fault) (claim_begins input x is) faulty)
only_memory_drawable input (of_yes x) fault is known faulty = only_memory_yes input x fault is known
    (subst (λ b. FaultByFirst b input fault) (yes_begins input x is) faulty)

one_fault_by : (is_yes : Bool) (input : Ahead) (f g : TextFault) → f ≢ text.Memory → g ≢ text.Memory → FaultByFirst is_yes input f
    → FaultByFirst is_yes input g → f ≡ g
one_fault_by false input f g known_f known_g is_f is_g = one_drawn_text.one_fault input f g known_f known_g is_f is_g
one_fault_by true input f g known_f known_g is_f is_g =
    let IsFirst = IsVerdictTextFault 0 input.ending input.bytes in
    one_first_fault verdict_texts.judged 0 input.ending input.bytes f g (known_fault (NoRoomForVerdict input.bytes) IsFirst f known_f is_f)
    (known_fault (NoRoomForVerdict input.bytes) IsFirst g known_g is_g)

-- an input is one history with a claim, or one text alone, or one `YES`, or has one fault
pub one_drawable : SaysOneThing IsDrawableOf IsFaultOfDrawableInput
one_drawable = record {
  one_value = one_drawable_of;
  only_memory = only_memory_drawable;
  one_fault = λ input f g. one_fault_by (begins_as_yes input.bytes) input f g;
}

-- a text without a count of pending calls is a history's
pub plain_text : (text : PendingText) → is_some text.open_calls ≡ false → HasPendingText text
    → HasText (history_in text) × (pending_text text ≡ text_of (history_in text))
plain_text text plain has =
    let none : text.open_calls ≡ None = none_counted text.open_calls plain in
    let same : as_pending (history_in text) ≡ text = ap (λ (calls : Option ℕ). record text { open_calls = calls }) (sym none) in
    (record { initial = has.initial; events = has.events }, ap (λ (t : PendingText). pending_text t) (sym same) ∙ same_text (history_in text))
  where
    none_counted : (calls : Option ℕ) → is_some calls ≡ false → calls ≡ None
    none_counted None none = refl
    none_counted (Some n) none = absurd (cc)

-- a fault of the text
pub drawable_text_fault : (old : Left) (fault : TextFault) → HasPendingTextFault false 0 old fault → OfLeft old (λ a. IsFaultOfDrawnText a fault)
drawable_text_fault = first_fault_of HasPendingText pending_text (IsPendingTextFault false) NoRoomForPending IsFaultBehind LacksVerdict

-- a text that isn't cut off is whole
pub read_whole : (lines : ℕ) (old new : Left) (text : PendingText) (whole : Bool) → IsPendingRead false lines old new text whole
    → (whole ≡ true) × HasPendingText text × Takes old new (pending_text text)
read_whole lines old new text true read = (refl, read.0, read.1)
read_whole lines old new text false read = let cut = read.0 in absurd (cc)

-- a fault of what comes after a text
behind_text : (old left : Left) (text : PendingText) (fault : TextFault) → HasPendingText text → Takes old left (pending_text text)
    → HasFirstFault (IsFaultBehind text) (LacksVerdict text) left fault → OfLeft old (λ a. IsFaultOfDrawnText a fault)
behind_text = next_fault_of HasPendingText pending_text (IsPendingTextFault false) NoRoomForPending IsFaultBehind LacksVerdict

module _ (calls : Option ℕ) (lines : ℕ) (left : Left) (fault : TextFault) where
  -- the fault of what comes after a text with this count of pending calls and this many lines
  abbrev HasFaultBehind : Type 0
  HasFaultBehind = HasFirstFault (FaultBehind calls lines) (λ r. (calls ≡ None) × NoRoomForVerdict r) left fault

  -- anything, if pending calls are counted
  end_behind : is_some calls ≡ true → HasEndFault left fault → HasFaultBehind
  end_behind counts h = record { input = h.input; may = h.may; is_so = by_calls calls counts (end_or_memory h.input fault h.is_so) }
    where
      by_calls : (o : Option ℕ) → is_some o ≡ true → MemoryOr ⊥ (IsFaultOfEnd h.input.ending h.input.bytes) fault
          → MemoryOr ((o ≡ None) × NoRoomForVerdict h.input.bytes) (FaultBehind o lines h.input.ending h.input.bytes) fault
      by_calls None none k = absurd (cc)
      by_calls (Some n) counted k = follows ⊥ ((Some n ≡ None) × NoRoomForVerdict h.input.bytes) (IsFaultOfEnd h.input.ending h.input.bytes)
          (FaultBehind (Some n) lines h.input.ending h.input.bytes) fault (λ room. absurd room) (λ f first. first) k

  -- a failure, if they aren't
  failure_behind : is_some calls ≡ false → (fault ≡ Read) × OfLeft left Fails → HasFaultBehind
  failure_behind counts failed = record { input = failed.1.input; may = failed.1.may; is_so = by_calls calls counts failed.1.is_so }
    where
      by_calls : (o : Option ℕ) → is_some o ≡ false → Fails failed.1.input
          → MemoryOr ((o ≡ None) × NoRoomForVerdict failed.1.input.bytes) (FaultBehind o lines failed.1.input.ending failed.1.input.bytes) fault
      by_calls (Some n) counted fails = absurd (cc)
      by_calls None none fails = rw (failed.0, fails.0, fails.1) (inl refl, λ over. let no = over.1 in cc)

  -- the fault of a verdict, if something comes
  verdict_behind : is_some calls ≡ false → ((a : Ahead) → MayBeLeft left a → HasMore a) → HasVerdictTextFault lines left fault → HasFaultBehind
  verdict_behind counts more h = record { input = h.input; may = h.may; is_so = by_calls calls counts (more h.input h.may) h.is_so }
    where
      by_calls : (o : Option ℕ) → is_some o ≡ false → HasMore h.input
          → MemoryOr (NoRoomForVerdict h.input.bytes) (IsVerdictTextFault lines h.input.ending h.input.bytes) fault
          → MemoryOr ((o ≡ None) × NoRoomForVerdict h.input.bytes) (FaultBehind o lines h.input.ending h.input.bytes) fault
      by_calls (Some n) counted some k = absurd (cc)
      by_calls None none some k =
          follows (NoRoomForVerdict h.input.bytes) ((None ≡ None) × NoRoomForVerdict h.input.bytes)
          (IsVerdictTextFault lines h.input.ending h.input.bytes) (FaultBehind None lines h.input.ending h.input.bytes) fault (λ room. (refl, room))
          (λ f first. (first, λ over. let nothing = sym some.2 ∙ over.0 in cc)) k

-- a fault of what follows a text that counts pending calls
pub drawable_end_fault : (old left : Left) (text : PendingText) (fault : TextFault) → is_some text.open_calls ≡ true
    → HasPendingText text → Takes old left (pending_text text) → HasEndFault left fault → OfLeft old (λ a. IsFaultOfDrawnText a fault)
drawable_end_fault old left text fault counts has taken h =
    behind_text old left text fault has taken (end_behind text.open_calls (pending_line_count text) left fault counts h)

-- a read that failed where the verdict on a history may begin
pub drawable_read_fault : (old left : Left) (text : PendingText) (fault : TextFault) → is_some text.open_calls ≡ false
    → HasPendingText text → Takes old left (pending_text text) → (fault ≡ Read) × OfLeft left Fails → OfLeft old (λ a. IsFaultOfDrawnText a fault)
drawable_read_fault old left text fault counts has taken failed =
    behind_text old left text fault has taken (failure_behind text.open_calls (pending_line_count text) left fault counts failed)

-- a byte is ahead if one comes next
has_more : (left : Left) (next : Option ℕ) → is_some next ≡ true → IsNext left next → (a : Ahead) → MayBeLeft left a → HasMore a
has_more left None some comes a may = absurd (cc)
has_more left (Some b) some comes a may = let next = comes a may in (b, next.0, next.1)

-- a fault of what follows a history, as the text of a verdict
pub drawable_verdict_fault : (old mid left : Left) (text : PendingText) (lines : ℕ) (fault : TextFault) (next : Option ℕ)
    → is_some text.open_calls ≡ false → HasPendingText text → Takes old mid (pending_text text) → Takes mid left []
    → is_some next ≡ true → IsNext left next
    → lines ≡ pending_line_count text → HasVerdictTextFault lines left fault → OfLeft old (λ a. IsFaultOfDrawnText a fault)
drawable_verdict_fault old mid left text lines fault next counts has before taken some comes is h =
    behind_text old left text fault has (taken_through old mid left (pending_text text) before taken)
    (verdict_behind text.open_calls (pending_line_count text) left fault counts (has_more left next some comes) (rw is at h))

-- ---- the first byte of the input

-- the input is over if none comes next
pub none_next : (left : Left) (next : Option ℕ) → is_some next ≡ false → IsNext left next → IsOver EndOfInput left
none_next left None none comes = comes
none_next left (Some b) none comes = absurd (cc)

-- the next byte says whether the input begins as `YES` does
pub begins_with_byte : (left : Left) (b : ℕ) → IsNext left (Some b) → BeginsAsYes left (b == 89)
begins_with_byte left b comes a may = ap begins_as_yes (comes a may).1

-- no input begins so
pub begins_with_none : (left : Left) → IsNext left None → BeginsAsYes left false
begins_with_none left over a may = ap (λ (x : Ahead). begins_as_yes x.bytes) (over.only a may)

-- a `NO` begins otherwise
pub no_begins_otherwise : (old new : Left) (kind : ViolationKind) (lines : List ClaimLine) → BeginsAsYes old true → Takes old new (verdict_text (No kind lines)) → ⊥
no_begins_otherwise old new kind lines begins taken =
    let some = some_left new in
    let is = begins (after (verdict_text (No kind lines)) some.0) (taken.before some.0 some.1) in cc

-- a fact about the input that was left before the first byte was looked at
looked : (known : Known) (left : Left) (P Q : Ahead → Type 0) → Takes (start known) left [] → ((a : Ahead) → MayBeLeft left a → P a → Q a) → OfLeft left P
    → OfInput known Q
looked known left P Q taken step h = from_start known Q (record {
  input = h.input;
  may = taken.before h.input h.may;
  is_so = step h.input h.may h.is_so;
})

-- so a text or a `YES` that is all of it is all of the input
pub looked_at : (known : Known) (left : Left) (P : Ahead → Type 0) → Takes (start known) left [] → OfLeft left P → OfInput known P
looked_at known left P taken h = looked known left P P taken (λ a may is. is) h

-- and a fault of it is one of the input
pub fault_by_first : (known : Known) (left : Left) (is_yes : Bool) (fault : TextFault) → Takes (start known) left [] → BeginsAsYes left is_yes
    → OfLeft left (λ a. FaultByFirst is_yes a fault) → OfInput known (λ a. IsFaultOfDrawableInput a fault)
fault_by_first known left is_yes fault taken begins h = looked known left (λ a. FaultByFirst is_yes a fault) (λ a. IsFaultOfDrawableInput a fault) taken
    (λ a may is. subst (λ b. FaultByFirst b a fault) (sym (begins a may)) is) h

-- a read of the first byte that failed
pub first_byte_fault : (known : Known) (fault : TextFault) → (fault ≡ Read) × OfLeft (start known) Fails → OfInput known (λ a. IsFaultOfDrawableInput a fault)
first_byte_fault known fault failed = from_start known (λ a. IsFaultOfDrawableInput a fault) (record {
  input = failed.1.input;
  may = failed.1.may;
  is_so = nothing_read failed.1.input fault failed.0 failed.1.is_so;
})
  where
    nothing_read : (a : Ahead) (f : TextFault) → f ≡ Read → Fails a → IsFaultOfDrawableInput a f
    nothing_read a f is fails = rw (is, fails.0, fails.1) (inl (inl (λ is_pending version. refl)))

-- ---- what is answered of an input

module _ {A : Type 0} {IsInputOf : Ahead → A → Type 0} {IsFaultOf : Ahead → TextFault → Type 0} (says : SaysOneThing IsInputOf IsFaultOf)
    (OfValue : A → Reply → Type 0) where
  -- the answer to an input is that to the value whose text it is
  pub answered_of : (input : Ahead) (x : A) (a : Reply) → IsInputOf input x → AnswersFor IsInputOf IsFaultOf OfValue input a → AnswersOrNoMemory OfValue x a
  answered_of input x a is (inl read) = subst (λ v. AnswersOrNoMemory OfValue v a) (says.one_value input read.value x read.input_of is) read.answered
  answered_of input x a is (inr faulty) = grind (arith, is_memory)

  -- inputs are answered alike where the values are that they say
  pub alike : (i j : Ahead) (x y : A) (a b : Reply) → IsInputOf i x → IsInputOf j y → (OfValue x a → OfValue y b → a ≡ b)
      → AnswersFor IsInputOf IsFaultOf OfValue i a → AnswersFor IsInputOf IsFaultOf OfValue j b → SameOrNoMemory a b
  alike i j x y a b is_x is_y one p q = grind (arith, answered_of)

  -- an input has one answer where a value has
  pub one_answer : ((input : Ahead) (x : A) (a b : Reply) → IsInputOf input x → OfValue x a → OfValue x b → a ≡ b) → (input : Ahead) (a b : Reply)
      → AnswersFor IsInputOf IsFaultOf OfValue input a → AnswersFor IsInputOf IsFaultOf OfValue input b → SameOrNoMemory a b
  one_answer one input a b (inl x) y = alike input input x.value x.value a b x.input_of x.input_of (one input x.value a b x.input_of) (inl x) y
  one_answer one input a b (inr x) (inl y) = grind (arith, alike)
  one_answer one input a b (inr x) (inr y) = grind (arith, is_memory)

-- the text of a history and of a claim is a claim on that text
pub claim_after : (bytes : List ℕ) (text : HistoryText) (claimed : Claimed) → HasVerdictText claimed → IsHistoryOf (input_of bytes) text
    → IsClaimOf (input_of (bytes ++ verdict_text claimed)) (claim_on text claimed)
claim_after bytes text claimed has read = grind arith
