-- What is drawn of an input: one thing, of a history on its own what is drawn of it with its verdict.
use Rattle.commands.proofs.Common.{Ahead, alone, claim_on, Claimed, ClaimOnText, Drawable, HasOneAnswer}
use Rattle.commands.proofs.Common.{HistoryText, input_of, IsDrawableOf, IsSound, length, MAX_INITIAL, None, Option}
use Rattle.commands.proofs.Common.{Reply, said_by, Some, subst, sym, verdict_text, with_claim, inl, inr, ℕ, ◌++◌, ◌≡◌, ◌≤◌, ◌∙◌}
use Rattle.commands.proofs.Common.{DrawnAsChecked, IsHistoryOf, List}
use Rattle.commands.proofs.Completions.{one_of_completion}
use Rattle.commands.proofs.Inputs.{alike, claim_after, one_answer, one_drawable}
use Rattle.commands.proofs.OneAnswer.{claim_is_written, few_of_part, few_values, have_lines, IsWritten, judged_is_written, one_by_whether, one_of_history}
use Rattle.commands.proofs.OneAnswer.{one_of_verdict, same}
use Rattle.command_words.specs.Commands.{draw}
use Rattle.command_words.specs.Options.{linearizability}
use Rattle.command_words.specs.declared.options.DrawOptions.{DrawOptions}
use Rattle.commands.specs.Completing.{completion_in, IsCompletable}
use Rattle.command_words.specs.declared.options.PictureForm.{PictureForm}
use Rattle.commands.specs.Drawing.{Draws, DrawsAlone, DrawsClaim, DrawsDecided, DrawsHistory, DrawsPart, DrawsSound}
use Rattle.commands.specs.Drawing.{DrawsHistoryOf, DrawsYes, IsDrawnWithout, IsOneOrder, strict}
use Rattle.commands.specs.Answers.{refused_orders, refused_size}
use Rattle.commands.specs.Operations.{IsHistoryOfOperations}
use Rattle.commands.proofs.OfOperations.{few_before, one_of_operations}
use Rattle.claims.specs.declared.claimed.Claimed.TheVariants.{Yes}
use Rattle.drawing.specs.declared.columns.TheConstants.{MOST_DRAWN}
use Rattle.history_merge.specs.declared.operation.Operation.{Operation}
use Rattle.history_text.specs.declared.version.Version.TheVariants.{Two}
use mathlib.Core.Logic.{◌⊎◌}
use Rattle.commands.specs.Inputs.{history_in, of_yes}
use Rattle.commands.specs.Judging.{IsVerdictClaim}
use Rattle.completions.proofs.Sound.{may_be_pending}
use Rattle.completions.proofs.Within.{decides_within}
use Rattle.completions.specs.Completed.{next_ticket}
use Rattle.history_text.proofs.OnePending.{has_same, same_text}
use Rattle.history_text.specs.Pending.{as_pending, HasPendingText}
use Rattle.history_text.specs.declared.pending_text.PendingText.{PendingText}
use Rattle.history_text.specs.Versions.{said_in}
use Rattle.std.proofs.Common.{ap, arith, Bool, false, refl, true}
use Rattle.conditions.specs.Conditions.{without_empties}
use Rattle.history_merge.specs.Initial.{Contents, HistoryView}
use Rattle.verdicts.proofs.NamedPlaces.{part_is_one}
use Rattle.verdicts.specs.Selection.{ArePartOf, contents_of}

-- a claim on a complete history is drawn in one way
one_drawn : (options : DrawOptions) (added : Option ℕ) (claim : ClaimOnText) (a b : Reply) → DrawsSound options added claim a
    → DrawsSound options added claim b → a ≡ b
one_drawn options added claim a b = one_by_whether (one_by_whether (one_by_whether same same) same) same

-- the answer to a complete history with the claim of its verdict is the answer with this claim of its verdict
with_verdict : (options : DrawOptions) (added : Option ℕ) (text : HistoryText) (claimed : Claimed) (a : Reply) → length text.initial ≤ MAX_INITIAL
    → IsSound (said_by text) → IsVerdictClaim (strict options.condition) (said_by text) claimed → DrawsDecided options added text a
    → DrawsSound options added (claim_on text claimed) a
with_verdict options added text claimed a few complete right x = subst (λ c. DrawsSound options added (claim_on text c) a)
    (one_of_verdict (strict options.condition) (said_by text) (λ c. c) x.claimed claimed few complete x.right right) x.answered

-- a history without its empty dequeues is drawn in one way
one_without : (text : HistoryText) (OfText : HistoryText → Reply → Type 0) (a b : Reply) → length text.initial ≤ MAX_INITIAL → IsSound (said_by text)
    → ((t : HistoryText) → length t.initial ≤ MAX_INITIAL → IsSound (said_by t) → OfText t a → OfText t b → a ≡ b) → IsDrawnWithout text OfText a
    → IsDrawnWithout text OfText b → a ≡ b
one_without text OfText a b few complete one x y =
    let contents = x.selected ∙ sym y.selected in
    let events = part_is_one text.events x.part.events y.part.events complete.complete x.events y.events x.complete.complete y.complete.complete
    (ap (λ (c : Contents). c.operations) contents) in
    let parts : x.part ≡ y.part = λ i. record { initial = ap (λ (c : Contents). c.initial) contents i; events = events i } in
    let initial : ArePartOf text.initial y.part.initial = ((λ v. true), ap (λ (c : Contents). c.initial) y.selected) in
    one (said_in text.version y.part) (few_of_part text.initial y.part.initial initial few) y.complete
    (subst (λ part. OfText (said_in text.version part) a) parts x.answered) y.answered

one_part : (is_weak : Bool) (text : HistoryText) (OfText : HistoryText → Reply → Type 0) (a b : Reply) → length text.initial ≤ MAX_INITIAL
    → IsSound (said_by text)
    → ((t : HistoryText) → length t.initial ≤ MAX_INITIAL → IsSound (said_by t) → OfText t a → OfText t b → a ≡ b) → DrawsPart is_weak text OfText a
    → DrawsPart is_weak text OfText b → a ≡ b
one_part false text OfText a b few complete one = one text few complete
one_part true text OfText a b few complete one = one_without text OfText a b few complete one

-- a complete history with its verdict is drawn in one way
one_decided : (options : DrawOptions) (added : Option ℕ) (text : HistoryText) (a b : Reply) → length text.initial ≤ MAX_INITIAL
    → IsSound (said_by text) → DrawsDecided options added text a → DrawsDecided options added text b → a ≡ b
one_decided options added text a b few complete x y =
    one_drawn options added (claim_on text y.claimed) a b (with_verdict options added text y.claimed a few complete y.right x) y.answered

-- a completion is a complete history
sound_completion : (text : PendingText) → length text.initial ≤ MAX_INITIAL → IsCompletable text → IsSound (said_by (completion_in text))
sound_completion text few is = (decides_within text.initial text.events few (may_be_pending text.initial text.events is.found) is.within).completion.is_complete

-- a text on its own is drawn in one way
one_alone : (options : DrawOptions) (text : PendingText) (calls : Option ℕ) (a b : Reply) → HasPendingText text → DrawsAlone options text calls a
    → DrawsAlone options text calls b → a ≡ b
one_alone options text (Some n) a b has =
    let few = (have_lines text.version text.initial has.initial).few in
    let next = Some (next_ticket text.events) in
    let drawn = DrawsPart options.condition.is_weakly_empty (completion_in text) (DrawsDecided options next) in
    one_of_completion text a b drawn drawn
    (λ is. one_part options.condition.is_weakly_empty (completion_in text) (DrawsDecided options next) a b few (sound_completion text few is)
    (λ t few_in complete. one_decided options next t a b few_in complete))
one_alone options text None a b has =
    let few = (have_lines text.version text.initial has.initial).few in
    one_of_history (said_by (history_in text)) a b (λ complete.
    one_part options.condition.is_weakly_empty (history_in text) (DrawsDecided options None) a b few complete
    (λ t few_in sound. one_decided options None t a b few_in sound))

-- the few lines of one linearization are drawn with the history of their operations
pub drawn_yes : (options : DrawOptions) (lines : List Operation) (answer : Reply) → options.condition.is_local ≡ false
    → length lines ≤ MOST_DRAWN → DrawsHistoryOf options lines answer → DrawsYes options lines answer
drawn_yes options lines answer together few drawn =
    inl (subst (λ (b : Bool). IsOneOrder b (Yes lines)) (sym together) tt, inl (few, drawn))

-- the lines of a `YES` have one picture
one_yes : (options : DrawOptions) (lines : List Operation) (a b : Reply) → DrawsYes options lines a → DrawsYes options lines b → a ≡ b
one_yes options lines a b x y = by_order x y
  where
    drawn : HistoryView → Reply → Type 0
    drawn history answer = DrawsPart options.condition.is_weakly_empty (said_in Two history)
        (λ text r. DrawsSound options None (claim_on text (Yes lines)) r) answer

    by_history : length lines ≤ MOST_DRAWN → DrawsHistoryOf options lines a → DrawsHistoryOf options lines b → a ≡ b
    by_history few (inl p) (inl q) =
        let few_values = few_before lines in
        let is = ap length q.1.initial in
        one_part options.condition.is_weakly_empty (said_in Two q.0) (λ text r. DrawsSound options None (claim_on text (Yes lines)) r) a b
        (omega arith) q.1.complete (λ t few_in sound. one_drawn options None (claim_on t (Yes lines)) a b)
        (subst (λ h. drawn h a) (one_of_operations lines p.0 q.0 p.1 q.1) p.2) q.2
    by_history few (inl p) (inr q) = absurd (q.0 p.0 p.1)
    by_history few (inr p) (inl q) = absurd (p.0 q.0 q.1)
    by_history few (inr p) (inr q) = p.1 ∙ sym q.1

    by_few : (length lines ≤ MOST_DRAWN × DrawsHistoryOf options lines a) ⊎ ((¬ (length lines ≤ MOST_DRAWN)) × (a ≡ refused_size))
        → (length lines ≤ MOST_DRAWN × DrawsHistoryOf options lines b) ⊎ ((¬ (length lines ≤ MOST_DRAWN)) × (b ≡ refused_size)) → a ≡ b
    by_few (inl p) (inl q) = by_history p.0 p.1 q.1
    by_few (inl p) (inr q) = absurd (q.0 p.0)
    by_few (inr p) (inl q) = absurd (p.0 q.0)
    by_few (inr p) (inr q) = p.1 ∙ sym q.1

    by_order : DrawsYes options lines a → DrawsYes options lines b → a ≡ b
    by_order (inl p) (inl q) = by_few p.1 q.1
    by_order (inl p) (inr q) = absurd (q.0 p.0)
    by_order (inr p) (inl q) = absurd (p.0 q.0)
    by_order (inr p) (inr q) = p.1 ∙ sym q.1

-- an input has one picture
one_picture : (options : DrawOptions) (input : Ahead) (read : Drawable) (a b : Reply) → IsDrawableOf input read → Draws options read a
    → Draws options read b → a ≡ b
one_picture options input (alone text) a b is = one_alone options text text.open_calls a b is.0
one_picture options input (with_claim claim) a b is = one_of_history (said_by claim.text) a b (λ complete.
    one_part options.condition.is_weakly_empty claim.text (λ text x. DrawsSound options None (claim_on text claim.claimed) x) a b (few_values claim.text is.history) complete
    (λ t few sound. one_drawn options None (claim_on t claim.claimed) a b))
one_picture options input (of_yes operations) a b is = one_yes options operations a b

pub draw_has_one : (options : DrawOptions) → HasOneAnswer (draw options)
draw_has_one options = one_answer one_drawable (Draws options) (one_picture options)

-- the text of a history, alone
alone_history : (bytes : List ℕ) (t : HistoryText) → IsHistoryOf (input_of bytes) t → IsDrawableOf (input_of bytes) (alone (as_pending t))
alone_history bytes t read = (has_same t read.0, record { bytes = read.1.bytes ∙ sym (same_text t); ending = read.1.ending })

-- options without a weaker condition
abbrev plainly : PictureForm → Option ℕ → DrawOptions
plainly form around = record { form = form; around = around; condition = linearizability }

-- a history is drawn on its own as if its verdict followed it
drawn_plainly : (form : PictureForm) (around : Option ℕ) → DrawnAsChecked (plainly form around)
drawn_plainly form around plain bytes claimed a b checked =
    let options = plainly form around in
    let read = judged_is_written linearizability (input_of bytes) claimed checked in
    let t = read.0 in
    let is : IsWritten t claimed = read.2 in
    alike one_drawable (Draws options) (input_of bytes) (input_of (bytes ++ verdict_text claimed)) (alone (as_pending t))
    (with_claim (claim_on t claimed)) a b (alone_history bytes t read.1) (claim_after bytes t claimed (claim_is_written t claimed is) read.1)
    (λ x. one_of_history (said_by t) a b (λ complete. one_drawn options None (claim_on t claimed) a b) (as_claimed t claimed is x))
  where
    as_claimed : (t : HistoryText) (claimed : Claimed) → IsWritten t claimed → DrawsHistory (plainly form around) t a
        → DrawsClaim (plainly form around) (claim_on t claimed) a
    as_claimed t claimed is (inl faulty) = inl faulty
    as_claimed t claimed is (inr (complete, x)) =
        inr (complete, with_verdict (plainly form around) None t claimed a (few_values t is.history) complete is.right x)

pub drawn_as_checked : (options : DrawOptions) → DrawnAsChecked options
drawn_as_checked options plain =
    let same : plainly options.form options.around ≡ options = λ i. record { form = options.form; around = options.around; condition = sym plain i } in
    subst DrawnAsChecked same (drawn_plainly options.form options.around) plain

-- ---- what is drawn under a condition

-- an answer to the part that is drawn is an answer to the whole
pub drawn_part : (is_weak : Bool) (text : HistoryText) (part : HistoryView) (OfText : HistoryText → Reply → Type 0) (answer : Reply)
    → (is_weak ≡ false → part ≡ said_by text) → (is_weak ≡ true → contents_of part ≡ without_empties (contents_of (said_by text)))
    → (is_weak ≡ true → ArePartOf text.events part.events) → IsSound part → OfText (said_in text.version part) answer → DrawsPart is_weak text OfText answer
drawn_part false text part OfText answer whole selected events complete answered =
    subst (λ h. OfText (said_in text.version h) answer) (whole refl) answered
drawn_part true text part OfText answer whole selected events complete answered =
    record { part = part; selected = selected refl; events = events refl; complete = complete; answered = answered }
