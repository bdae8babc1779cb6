-- A text has only one fault.
use Rattle.std.proofs.Common.{◌≡◌, inl, inr, ℕ, ◌<◌, List, [], ◌∷◌, ◌++◌, length, map, take, get_or, All, refl, sym, ap, ◌∙◌, subst, append_assoc}
use Rattle.std.proofs.Common.{length-append, Result, Ok, Err, IsErrAnd, MatchResult, arith}
use Rattle.std.proofs.lemmas.Bool.{cases_lt}
use Rattle.std.proofs.lemmas.List.{same_from_push, get_or_at, get_or_append_left, take_at}
use Rattle.std.proofs.lemmas.List.Elements.{All-get_or}
use Rattle.event_records.specs.declared.kind.Kind.{Kind}
use Rattle.workloads.specs.declared.texts.PlanFault.{PlanFault}
use Rattle.workloads.specs.declared.texts.PlanFault.TheVariants.{Cut, Letter, Limit, Memory}
use Rattle.workloads.specs.declared.texts.TheConstants.{LINE_FEED}
use Rattle.workloads.specs.Plans.{IsPlan}
use Rattle.workloads.specs.Texts.{letter, text_of, IsCut, HasStray, IsFaultOf}
use Rattle.workloads.proofs.LinesOfTexts.{IsOfText, bytes_are_of_text, lines_are_of_text, last_of, text_of-push, reads_once, read_once}

-- whole lines are not cut
whole_not_cut : (text : List ℕ) (rows : List (List Kind)) → text ≡ text_of rows → IsCut text → ⊥
whole_not_cut text [] is cut = let e = ap length (sym is ∙ cut.text_is) in let n = length-append cut.front (cut.last ∷ []) in absurd (omega arith)
whole_not_cut text (row ∷ rows) is cut =
    let last = last_of row rows in
    let line = is ∙ ap text_of last.2 ∙ text_of-push last.0 last.1 ∙ sym (append_assoc (text_of last.0) (map letter last.1) (LINE_FEED ∷ [])) in
    cut.no_end (sym (same_from_push (text_of last.0 ++ map letter last.1) cut.front LINE_FEED cut.last (sym line ∙ cut.text_is)).1)

-- a stray byte is not a byte of a text
stray_no_byte : (text : List ℕ) (worker : ℕ) (stray : HasStray text worker) → IsOfText stray.stray → ⊥
stray_no_byte text worker stray (inl end) = stray.no_end end
stray_no_byte text worker stray (inr other) = stray.no_letter other.0 other.1

-- the stray byte is that at its place
stray_here : (text : List ℕ) (worker : ℕ) (stray : HasStray text worker) → get_or text (length stray.before) 0 ≡ stray.stray
stray_here text worker stray = ap (λ (l : List ℕ). get_or l (length stray.before) 0) stray.text_is
    ∙ get_or_at stray.before stray.stray stray.after 0 (length stray.before) refl

-- whole lines have no stray byte
whole_no_stray : (text : List ℕ) (rows : List (List Kind)) (worker : ℕ) → text ≡ text_of rows → HasStray text worker → ⊥
whole_no_stray text rows worker is stray =
    let all = subst (λ (l : List ℕ). All IsOfText l) (sym is) (bytes_are_of_text rows) in
    let within : length stray.before < length text = omega (arith, ap length stray.text_is, length-append stray.before (stray.stray ∷ stray.after)) in
    stray_no_byte text worker stray (subst IsOfText (stray_here text worker stray) (All-get_or IsOfText text (length stray.before) 0 within all))

-- no stray byte comes before the first one
none_before : (text : List ℕ) (worker other : ℕ) (stray : HasStray text worker) (first : HasStray text other) → length stray.before < length first.before → ⊥
none_before text worker other stray first earlier =
    let i = length stray.before in
    let same : get_or first.before i 0 ≡ stray.stray = sym (get_or_append_left first.before (first.stray ∷ first.after) 0 i earlier)
    ∙ ap (λ (l : List ℕ). get_or l i 0) (sym first.text_is) ∙ stray_here text worker stray in
    stray_no_byte text worker stray (subst IsOfText same (All-get_or IsOfText first.before i 0 earlier (lines_are_of_text first.before other first.lines)))

-- only one worker has the first stray byte
one_stray : (text : List ℕ) (worker other : ℕ) → HasStray text worker → HasStray text other → worker ≡ other
one_stray text worker other stray first =
    let early = none_before text worker other stray first in
    let late = none_before text other worker first stray in
    let size : length stray.before ≡ length first.before = elim (cases_lt (length stray.before) (length first.before)) [
      | inl less ↦ absurd (early less)
      | inr more ↦ elim (cases_lt (length first.before) (length stray.before))
          [ inl less ↦ absurd (late less) | inr less ↦ omega arith ]
    ] in
    let before : stray.before ≡ first.before = sym (take_at stray.before (stray.stray ∷ stray.after) (length first.before) size)
    ∙ ap (take (length first.before)) (sym stray.text_is ∙ first.text_is) ∙ take_at first.before (first.stray ∷ first.after) (length first.before) refl in
    let read = reads_once stray.lines.rows first.lines.rows stray.lines.kinds first.lines.kinds (sym stray.lines.bytes_are ∙ before ∙ first.lines.bytes_are) in
    sym stray.lines.count ∙ ap length read.0 ∙ first.lines.count

-- a text has only one fault
pub one_fault : (text : List ℕ) (fault other : PlanFault) → IsFaultOf text fault → IsFaultOf text other → fault ≡ other
one_fault text Cut Cut a b = refl
one_fault text Cut (Letter worker) a b = absurd (b.0 a)
one_fault text Cut Limit a b = absurd (whole_not_cut text b.rows b.text_is a)
one_fault text Cut Memory a b = absurd (whole_not_cut text b.rows b.text_is a)
one_fault text (Letter worker) Cut a b = absurd (a.0 b)
one_fault text (Letter worker) (Letter other) a b = ap Letter (one_stray text worker other a.1 b.1)
one_fault text (Letter worker) Limit a b = absurd (whole_no_stray text b.rows worker b.text_is a.1)
one_fault text (Letter worker) Memory a b = absurd (whole_no_stray text b.rows worker b.text_is a.1)
one_fault text Limit Cut a b = absurd (whole_not_cut text a.rows a.text_is b)
one_fault text Limit (Letter worker) a b = absurd (whole_no_stray text a.rows worker a.text_is b.1)
one_fault text Limit Limit a b = refl
one_fault text Limit Memory a b = absurd (a.beyond (subst (λ (rows : List (List Kind)). IsPlan rows)
    (read_once b.rows a.rows (sym b.text_is ∙ a.text_is)) b.within))
one_fault text Memory Cut a b = absurd (whole_not_cut text a.rows a.text_is b)
one_fault text Memory (Letter worker) a b = absurd (whole_no_stray text a.rows worker a.text_is b.1)
one_fault text Memory Limit a b = absurd (b.beyond (subst (λ (rows : List (List Kind)). IsPlan rows)
    (read_once a.rows b.rows (sym a.text_is ∙ b.text_is)) a.within))
one_fault text Memory Memory a b = refl

-- if the fault of a text is out of memory, so is that of a result
pub memory_is : {A : Type 0} (answer : Result A PlanFault) (fault : PlanFault) → IsErrAnd answer (λ e. e ≡ Memory) → Memory ≡ fault
    → MatchResult answer (λ _. fault ≡ Memory) (λ found. found ≡ fault)
memory_is (Ok value) fault is same = absurd is
memory_is (Err found) fault is same = is ∙ same
