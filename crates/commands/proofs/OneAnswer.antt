-- What is answered of a history that was read, what of that is written, and what is answered of what is written. Out
-- of memory aside an input has one answer.
use Rattle.commands.proofs.Common.{accepted, Ahead, All, answer_of_text_fault, AnswersFor, AnswersOf}
use Rattle.commands.proofs.Common.{AnswersOrNoMemory, ap, arith, Attempt, Bool, CheckedIsValid, claim_of, claim_on}
use Rattle.commands.proofs.Common.{Claimed, ClaimOnText, codes, collected_lists, Contents, converted}
use Rattle.commands.proofs.Common.{ConvertedIsChecked, ConvertedIsCounted, ConvertedIsKept, ConvertedIsSameHistory}
use Rattle.commands.proofs.Common.{ConvertedIsVerified, Converts, Counts, Event}
use Rattle.commands.proofs.Common.{false, filter, flat_map, HasOneAnswer, HasText, HasVerdictText, HaveValueLines}
use Rattle.commands.proofs.Common.{HistoryText, HistoryView, Known, OfInput, in_version_2, inl, input_of, inr}
use Rattle.commands.proofs.Common.{IsClaimOf, IsCompleteFrom, IsCompleteHistory, IsDecided, IsDone}
use Rattle.commands.proofs.Common.{IsExact, IsFaultOfClaimInput, IsFaultOfHistoryInput, IsHistoryOf, IsLinearizable}
use Rattle.commands.proofs.Common.{IsMerged, IsOfVerdict, IsSound, IsValidOrNoMemory, IsWithinRanges, judged, Judges}
use Rattle.commands.proofs.Common.{length, List, MAX_EVENTS, MAX_INITIAL, MAX_STRESS_INITIAL, MAX_THREADS}
use Rattle.commands.proofs.Common.{memory_fault, No, None, One, operations_at, operations_of, Option, played}
use Rattle.commands.proofs.Common.{pointwise, PrintsAnswer, PrintsOneOf, refl, rejections, Reply, said_by, said_in}
use Rattle.commands.proofs.Common.{SameOrNoMemory, Setting, Settings, shown, ShrinksSound, ShrunkIsChecked}
use Rattle.commands.proofs.Common.{ShrunkIsValid, Some, subst, sym, take, text_of, TextFault, true, Two, value_format}
use Rattle.commands.proofs.Common.{Verdict, verdict_text, verified, Verifies, Version, Yes, [], ℕ, ⊎_map}
use Rattle.commands.proofs.Common.{◌++◌, ◌+◌, ◌<◌, ◌∙◌, ◌∷◌, ◌≡◌, ◌≢◌, ◌≤◌, ◌⊎◌}
use Rattle.std.proofs.Common.{append-nil, Contains, drop, get_or, IsTrue, nat_eq, not, rules, suc, ◌==◌, ◌||◌, ◌↔◌}
use Rattle.std.specs.Io.KnownBytes.{append_known}
use Rattle.commands.specs.Running.{Behind}
use Rattle.clap.specs.Kinds.{HasKind, IsAmong, Kinds}
use Rattle.clap.specs.Values.{kind_of}
use Rattle.clap.specs.declared.error.Error.{Error}
use Rattle.command_words.specs.Commands.{check, convert, Request, shrink, sim, stats, verify}
use Rattle.commands.specs.Answers.{answer_of_history_fault, answer_status, counted, run_fault, ShowsNoViolation}
use Rattle.commands.specs.Inner.Running.{Explains}
use Rattle.command_words.specs.Options.{linearizability}
use Rattle.command_words.specs.declared.options.Condition.{Condition}
use Rattle.commands.proofs.Conditions.{no_is_not_linearizable, no_is_of_the_whole, one_claim_under, one_refuted, true_under}
use Rattle.commands.specs.Conditions.{IsDecidedUnder, IsTrueUnder}
use Rattle.commands.specs.Evidence.{CheckedIsValidUnder, IsVerdictOrNoMemory, RefutedIsValid}
use Rattle.commands.specs.Evidence.{SimulatedIsChecked, SimulatedIsValid, StressedIsChecked, StressedIsValid, StressedIsValidUnder}
use Rattle.commands.specs.Judging.{FaultOr, IsEvident, IsFaulty, IsOfVerdictUnder, IsShrunkPart, ShrinksBy}
use Rattle.verdicts.specs.Selection.{contents_of}
use Rattle.commands.specs.Judging.{IsOfValue, IsPlayed, IsShrunk, IsVerdictClaim, Shrinks, Simulates, SimulatesIn}
use Rattle.commands.specs.Stressing.{first_values, IsFirstNamed, IsPlanned, IsShownRun, run_history, run_version, RunsOrFails}
use Rattle.commands.specs.declared.stress.TheConstants.{TRIES}
use Rattle.event_records.specs.Question.{Question}
use Rattle.event_records.specs.declared.kind.Answer.{Answer}
use Rattle.event_records.specs.declared.kind.Kind.{Kind}
use Rattle.history_merge.specs.declared.operation.Operation.{Operation}
use Rattle.messages.specs.Messages.{IsMessage}
use Rattle.messages.specs.Quoting.{IsPrintable}
use Rattle.recorder_core.proofs.Collecting.{collected_is_fit}
use Rattle.recorder_core.proofs.Fitting.{merged_is_complete}
use Rattle.recorder_core.proofs.Legal.{effects_order_is_legal}
use Rattle.recorder_core.specs.Initial.{AreInitialNames}
use Rattle.recorder_core.specs.Replay.{AreRecorded, effects_order, IsHonest, Replays}
use Rattle.simulation.specs.Simulations.{schedule_of}
use Rattle.simulation.specs.declared.playing.Rejection.{Rejection}
use Rattle.std.proofs.Math.Seq.{drop-cons}
use Rattle.text_lines.proofs.Consuming.{some_input}
use Rattle.std.proofs.lemmas.Bool.Decides.{nat_tests}
use Rattle.std.proofs.lemmas.Cmp.{nat_list_eq_equiv}
use Rattle.std.proofs.lemmas.List.{take-append-drop, take_more}
use Rattle.std.proofs.lemmas.List.Elements.{All-filter, All-from_recursion, All-push, recursion_from_All}
use Rattle.std.proofs.lemmas.List.FromFn.{get_or-range_with_len, length-range_with_len}
use Rattle.std.specs.List.{AllByRecursion}
use Rattle.stress_run.specs.Crew.{SizesView}
use Rattle.stress_run.specs.Failed.{IsFaultOfRun}
use Rattle.stress_run.specs.Operations.{IsRun}
use Rattle.stress_run.specs.Preloaded.{AreTaken, IsFirstRefused}
use Rattle.stress_run.specs.Recorded.{RecordedView}
use Rattle.stress_run.specs.declared.faults.RunFault.{RunFault}
use Rattle.stress_run.specs.declared.faults.RunFault.TheVariants.{Preload}
use Rattle.history_merge.proofs.Faults.{complete_has_no_fault, one_first_fault}
use Rattle.history_merge.specs.Faults.{IsFirstFault}
use Rattle.history_merge.specs.declared.fault.HistoryFault.{HistoryFault}
use Rattle.history_merge.specs.declared.fault.HistoryFault.TheVariants.{Memory}
use Rattle.history_stats.proofs.OneStatistics.{one_statistics}
use Rattle.history_text.proofs.WrittenClaims.{claim_has_text}
use Rattle.history_text.specs.Histories.{HasHistoryText}
use Rattle.history_text.specs.Items.{HaveLines}
use Rattle.std.proofs.lemmas.List.Sorted.{Contains-permutation, IsPermutation-sym}
use Rattle.verdicts.proofs.NamedPlaces.{part_is_one, verdict_has_few_lines}
use Rattle.verdicts.proofs.ShrunkHistories.{IsWhole, selection_is_one}
use Rattle.verdicts.proofs.OneVerdict.{chosen_violation_is_one, same_lists, verdict_is_one}
use Rattle.history_merge.proofs.Lists.{no_longer}
use Rattle.verdicts.proofs.TrueClaims.{evidence_is_true}
use Rattle.claims.specs.Claims.{IsTrueClaim}
use Rattle.verdicts.specs.Selection.{ArePartOf, KeepsViolation, StaysChosen}
use Rattle.commands.proofs.Inputs.{alike, answered_of, claim_after, one_answer, one_claim, one_history}
use Rattle.commands.proofs.Inputs.{one_schedule}
use Rattle.claims.specs.declared.claimed.Claimed.TheVariants as claim
use Rattle.text_lines.specs.declared.fault.TextFault.TheVariants as text

-- ---- what a run gives: of a schedule, of a queue, and of the words of a command

-- ---- schedules

-- the answer to a schedule that is done is the verdict on the collected history
pub played_found : (setting : Setting) (schedule : List Attempt) (rejected : List Rejection) → rejected ≡ rejections setting schedule
    → (lists : List (List Event)) (history : HistoryView) (verdict : Verdict) → IsDone setting schedule × (lists ≡ collected_lists setting schedule)
    → IsMerged lists history.events → IsCompleteFrom history.initial history.events → history.initial ≡ setting.initial
    → IsDecided history.initial (operations_of history.events) verdict
    → SimulatesIn setting schedule (played rejected history.events (claim_of history.initial (operations_of history.events) verdict))
played_found setting schedule rejected is lists history verdict ended merged complete same decided = grind arith

module _ (setting : Setting) (schedule : List Attempt) (few : setting.threads ≤ MAX_THREADS) (lists : List (List Event))
    (ended : IsDone setting schedule × (lists ≡ collected_lists setting schedule)) where
  -- the lists of a schedule that is done merge to a complete history
  pub merges_to_complete : (merged : List Event) → IsMerged lists merged → IsCompleteHistory merged
  merges_to_complete merged is =
      merged_is_complete (collected_lists setting schedule) merged (collected_is_fit setting schedule few ended.0)
      (subst (λ (ls : List (List Event)). IsMerged ls merged) ended.1 is)

  -- and is short enough for one
  pub few_events : length (flat_map (λ list. list) lists) ≤ MAX_EVENTS
  few_events =
      let fit = collected_is_fit setting schedule few ended.0 in
      let same = ap (λ (ls : List (List Event)). length (flat_map (λ list. list) ls)) ended.1 in
      omega (arith, same, fit.not_too_long)

-- an exact verdict on operations that have a linearization claims `YES`
claims_yes : (initial : List ℕ) (operations : List Operation) (verdict : Verdict) → IsLinearizable initial operations
    → IsExact initial operations verdict → (order : List Operation) × (claim_of initial operations verdict ≡ claim.Yes order)
claims_yes initial operations (Yes places) legal exact = (operations_at operations places, refl)
claims_yes initial operations (No violation) legal exact = absurd (exact legal)

-- the answer to an honest schedule that is done is `YES`
pub honest_gets_a_yes : (setting : Setting) (schedule : List Attempt) (answer : Reply) → setting.threads ≤ MAX_THREADS → IsHonest setting schedule
    → IsDone setting schedule → SimulatesIn setting schedule answer
    → (events : List Event) × (order : List Operation) × (answer ≡ played (rejections setting schedule) events (claim.Yes order))
honest_gets_a_yes setting schedule answer few honest done (inr undone) = absurd (undone.0 done)
honest_gets_a_yes setting schedule answer few honest done (inl ended) =
    let found = ended.1 in
    let legal : IsLinearizable setting.initial (operations_of found.events) = (
      effects_order setting (accepted setting schedule),
      effects_order_is_legal setting schedule found.events few honest done found.merged,
    ) in
    let yes = claims_yes setting.initial (operations_of found.events) found.answered.verdict legal found.answered.decided.exact in
    (found.events, yes.0, found.answered.is ∙ ap (played (rejections setting schedule) found.events) yes.1)

-- ---- the values that a queue is given before a run

-- a queue may be given them
pub first_values_are_names : (count : ℕ) → count ≤ MAX_STRESS_INITIAL → AreInitialNames (first_values count)
first_values_are_names count few = grind (arith, length-range_with_len, get_or-range_with_len)

-- ---- what a run gives

-- what is answered of the lists that a run recorded is what `stress` answers
pub recorded_run : (may : Question → Answer → Type 0) (may_preload : ℕ → ℕ → Bool → Type 0) (settings : Settings) (plan : List (List Kind))
    → IsPlanned settings plan
    → (recorded : RecordedView) → IsRun may plan recorded.lists recorded.total → AreRecorded recorded.lists
    → (given : List ℕ) → given ≡ first_values settings.initial → Replays settings.ring given recorded.lists → AreTaken may_preload given
    → (answer : Reply) → AnswersOrNoMemory (IsShownRun settings.condition settings.initial) recorded.lists answer → RunsOrFails may may_preload settings answer
recorded_run may may_preload settings plan planned recorded run are_recorded given first replays taken answer (inl found) = inl (record {
  preloaded = subst (AreTaken may_preload) first taken;
  plan = plan;
  planned = planned;
  lists = recorded.lists;
  total = recorded.total;
  run = run;
  recorded = are_recorded;
  replays = subst (λ initial. Replays settings.ring initial recorded.lists) first replays;
  answered = found;
})
recorded_run may may_preload settings plan planned recorded run are_recorded given first replays taken answer (inr memory) = inr (inr memory)

-- a fault of a run on a queue that was given these values is what `stress` answers
pub failed_run : (may : Question → Answer → Type 0) (may_preload : ℕ → ℕ → Bool → Type 0) (settings : Settings) (plan : List (List Kind)) (fault : RunFault)
    → IsWithinRanges settings → IsPlanned settings plan
    → (given : List ℕ) → given ≡ first_values settings.initial → IsFaultOfRun may given plan (record { ring = settings.ring; tries = TRIES }) fault
    → ((place : ℕ) → fault ≡ Preload place → IsFirstRefused may_preload given place) → RunsOrFails may may_preload settings (run_fault fault)
failed_run may may_preload settings plan fault ranges planned given first is_fault is_refused =
    let sizes : SizesView = record { ring = settings.ring; tries = TRIES } in
    let of_run = subst (λ initial. IsFaultOfRun may initial plan sizes fault) first is_fault in
    inr (inl (record {
      plan = plan;
      planned = planned;
      fault = fault;
      of_run = of_run;
      within = λ limit. subst (IsFaultOfRun may (first_values settings.initial) plan sizes) limit of_run
          ((ranges.ring.0, ranges.ring.1, (omega arith, omega arith)), first_values_are_names settings.initial ranges.initial);
      refused = λ place is. subst (λ values. IsFirstRefused may_preload values place) first (is_refused place is);
      is = refl;
    }))

-- ---- the first of a name, after a search that passed all before it

-- a text that is found different is another name
pub other_name : (text name : List ℕ) → false ≡ pointwise nat_eq text name → text ≢ name
other_name text name f same =
    let equal = nat_list_eq_equiv.refl name in
    let told = f ∙ ap (λ l. pointwise nat_eq l name) same ∙ equal in
    cc

module _ {X : Type 0} (name_of : X → List ℕ) (name : List ℕ) (xs : List X) (i : ℕ) (x : X) (inside : i < length xs) (is : x ≡ get_or xs i x)
    (passed : All (λ y. name_of y ≢ name) (take i xs)) where
  -- a queue with the name, before which none has it, is the first of the name
  pub found_first : name_of x ≡ name → IsFirstNamed name_of name xs x
  found_first named = record {
    before = take i xs;
    after = drop (suc i) xs;
    parts = sym (take-append-drop i xs) ∙ ap (λ l. take i xs ++ l) (drop-cons xs i x inside ∙ ap (λ z. z ∷ drop (suc i) xs) (sym is));
    named = named;
    others = passed;
  }

  -- if the next has another name, no one up to it has the name
  pub passed_more : (name_of x ≢ name) → All (λ y. name_of y ≢ name) (take (i + 1) xs)
  passed_more other = rw (take_more xs i x inside, ← is) (All-push (λ y. name_of y ≢ name) (take i xs) x passed other)

-- ---- what an error of the words leaves behind where nothing is wrong with them

module _ (old new : Option (List ℕ)) (refused : Bool) (result : ℕ) where
  -- memory ran out, and that is printed
  pub memory_ran_out : (e : Error) (kinds : Kinds) → kinds ≡ [] → HasKind kinds e → Explains (kind_of e) old new refused result
      → PrintsAnswer old new refused result memory_fault
  memory_ran_out e kinds none memory (inr printed) = printed
  memory_ran_out e kinds none (inl memory) (inl text) = absurd (text.usual memory)
  memory_ran_out e kinds none (inr among) (inl text) = absurd (subst (IsAmong (kind_of e)) none among)

  -- out of memory is an answer of any kind, said alike quietly or whole
  pub memory_printed : (quiet : Bool) (IsAnswer : Reply → Type 0) → PrintsAnswer old new refused result memory_fault
      → PrintsOneOf quiet (λ answer. IsAnswer answer ⊎ (answer ≡ memory_fault)) old new refused result
  memory_printed true IsAnswer printed = record { answer = memory_fault; right = inr refl; printed = printed }
  memory_printed false IsAnswer printed = record { answer = memory_fault; right = inr refl; printed = printed }

  -- so it is of a command that reads
  pub reads_out_of_memory : (quiet : Bool) (request : Request) (known : Known) → PrintsAnswer old new refused result memory_fault
      → OfInput known (λ a. PrintsOneOf quiet (AnswersOrNoMemory (AnswersOf request) a) old new refused result)
  reads_out_of_memory quiet request known printed =
      let some = some_input known in record { input = some.0; may = some.1; is_so = memory_printed quiet (AnswersOf request some.0) printed }

-- ---- the message that memory ran out

-- it is a message
pub memory_is_message : IsMessage (codes "fifobench: memory ran out\n")
memory_is_message = let said = codes "memory ran out" in
    inl (record { said = said; printable = All-from_recursion IsPrintable said (search rules); is = refl })

-- ---- histories

-- the first fault is answered, and out of memory as such
pub fault_found : (history : HistoryView) (fault : HistoryFault) → IsFirstFault history.initial history.events fault
    → IsFaulty history (answer_of_history_fault fault) ⊎ (answer_of_history_fault fault ≡ memory_fault)
fault_found history Memory first = inr refl
fault_found history fault first = inl (record { fault = fault; first = first; known = (λ e. absurd (cc e)); is = refl })

-- a command that answers the faults of a history, and more, answers what is answered of them
pub faulty_or : {P : Type 0} (history : HistoryView) (answer : Reply) → AnswersOrNoMemory IsFaulty history answer
    → (IsFaulty history answer ⊎ P) ⊎ (answer ≡ memory_fault)
faulty_or history answer answered = ⊎_map inl (λ memory. memory) answered

-- a history that has a fault isn't complete
pub not_both : (history : HistoryView) (answer : Reply) → IsFaulty history answer → IsSound history → ⊥
not_both history answer faulty complete = grind (arith, complete_has_no_fault)

-- a history is answered in one way where a complete one is
pub one_of_history : (history : HistoryView) (a b : Reply) {P Q : Type 0} → (IsSound history → P → Q → a ≡ b) → IsFaulty history a ⊎ (IsSound history × P)
    → IsFaulty history b ⊎ (IsSound history × Q) → a ≡ b
one_of_history history a b one (inl x) (inl y) = grind (arith, one_first_fault)
one_of_history history a b one (inl x) (inr y) = absurd (not_both history a x y.0)
one_of_history history a b one (inr x) (inl y) = absurd (not_both history b y x.0)
one_of_history history a b one (inr x) (inr y) = one x.0 x.1 y.1

-- a fact that follows if P holds, and also if it doesn't
pub one_by_whether : {P V W X Y Z : Type 0} → (V → X → Z) → (W → Y → Z) → (P × V) ⊎ ((¬ P) × W) → (P × X) ⊎ ((¬ P) × Y) → Z
one_by_whether first second (inl x) (inl y) = first x.1 y.1
one_by_whether first second (inl x) (inr y) = absurd (y.0 x.0)
one_by_whether first second (inr x) (inl y) = absurd (x.0 y.0)
one_by_whether first second (inr x) (inr y) = second x.1 y.1

-- whether it is evidence, as the answer says
pub by_validity : {P : Type 0} (valid : Bool) → IsTrue valid ↔ P → (P × (verified valid ≡ verified true)) ⊎ ((¬ P) × (verified valid ≡ verified false))
by_validity true is = inl (is.0 refl, refl)
by_validity false is = inr ((λ p. let no = is.1 p in cc), refl)

-- things that are equal to one thing are equal
pub same : {A : Type 0} {x y z : A} → x ≡ z → y ≡ z → x ≡ y
same p q = p ∙ sym q

pub have_lines : (version : Version) (initial : List ℕ) → HaveValueLines version initial → HaveLines value_format initial
have_lines One initial none = rw none (record { each = tt; few = omega arith })
have_lines Two initial have = have

-- a text has no more initial values than a history may have
pub few_values : (text : HistoryText) → HasText text → length text.initial ≤ MAX_INITIAL
few_values text has = (have_lines text.version text.initial has.initial).few

-- ---- verdicts

-- one thing is made of the verdict on a complete history
pub one_of_verdict : {A : Type 0} (condition : Condition) (history : HistoryView) (made_of : Claimed → A) (x y : A) → length history.initial ≤ MAX_INITIAL
    → IsSound history → IsOfVerdictUnder condition history made_of x → IsOfVerdictUnder condition history made_of y → x ≡ y
one_of_verdict condition history made_of x y few complete p q =
    p.is ∙ ap made_of (one_claim_under history complete few condition p.verdict q.verdict p.decided q.decided) ∙ sym q.is

-- the claim of the verdict on a complete history is true
pub decided_is_true : (condition : Condition) (history : HistoryView) (claimed : Claimed) → IsSound history → length history.initial ≤ MAX_INITIAL
    → IsVerdictClaim condition history claimed → IsTrueUnder condition history claimed
decided_is_true condition history claimed complete few right =
    subst (IsTrueUnder condition history) (sym right.is) (true_under history complete few condition right.verdict right.decided)

-- the verdict on a linearizable history shows no violation
pub shows_none : (condition : Condition) (version : Version) (history : HistoryView) (verdict : Verdict) → IsSound history
    → length history.initial ≤ MAX_INITIAL → IsDecidedUnder condition history verdict → IsLinearizable history.initial (operations_of history.events)
    → ShowsNoViolation (shown (said_in version history) (claim_of history.initial (operations_of history.events) verdict))
shows_none condition version history (Yes places) complete few decided linearizable = tt
shows_none condition version history (No violation) complete few decided linearizable =
    absurd (no_is_not_linearizable history complete few condition violation decided linearizable)

-- ---- from what is answered of a value to what is answered of an input

module _ {A : Type 0} (IsInputOf : Ahead → A → Type 0) (IsFaultOf : Ahead → TextFault → Type 0) where
  -- the input says this value, of which this is answered
  pub of_value : (P : A → Reply → Type 0) (known : Known) (value : A) (answer : Reply) → OfInput known (λ a. IsInputOf a value)
      → P value answer ⊎ (answer ≡ memory_fault) → OfInput known (λ a. AnswersFor IsInputOf IsFaultOf P a answer)
  of_value P known value answer is answered = record {
    input = is.input;
    may = is.may;
    is_so = inl (record { value = value; input_of = is.is_so; answered = answered });
  }

-- the fault of a history that is read is what a command answers that answers the faults of histories, and more
pub faults_answered : (P : HistoryText → Reply → Type 0) (known : Known) (answer : Reply)
    → OfInput known (λ a. AnswersFor IsHistoryOf IsFaultOfHistoryInput (λ text. IsFaulty (said_by text)) a answer)
    → OfInput known (λ a. AnswersFor IsHistoryOf IsFaultOfHistoryInput (λ text. FaultOr (said_by text) (P text)) a answer)
faults_answered P known answer found = let is = found.is_so in record { input = found.input; may = found.may; is_so = grind (arith, ⊎_map, faulty_or) }

-- a fact about every input is one about some input that the source may give
pub any_input : (known : Known) (P : Ahead → Type 0) → ((a : Ahead) → P a) → OfInput known P
any_input known P all = let some = some_input known in record { input = some.0; may = some.1; is_so = all some.0 }

-- ---- behind a buffer

-- a buffer that keeps nothing
keeps_nothing : (a : Option (List ℕ)) → append_known a [] ≡ a
keeps_nothing None = refl
keeps_nothing (Some xs) = ap (λ (r : List ℕ). Some r) (append-nil xs)

-- it keeps nothing if it holds nothing back
nothing_kept : (kept : List ℕ) (more : Bool) → (not (length kept == 0) || more) ≡ false → kept ≡ []
nothing_kept [] more none = refl
nothing_kept (x ∷ kept) more none = grind (arith, nat_tests, none)

-- text that is printed to a buffer is printed to its writer
pub behind : (Printed : Option (List ℕ) → Option (List ℕ) → Bool → Type 0) (old new : Option (List ℕ)) (kept : List ℕ) (refused more : Bool)
    → (refused ≡ false → (not (length kept == 0) || more) ≡ false) → Printed (append_known old []) (append_known new kept) refused
    → Behind (λ n r. Printed old n r) new
behind Printed old new kept refused more passed_on printed = record {
  held = kept;
  refused = refused;
  all_passed_on = λ fine. nothing_kept kept more (passed_on fine);
  printed = subst (λ o. Printed o (append_known new kept) refused) (keeps_nothing old) printed;
}

-- an answer that is printed to a buffer is printed to its writer
pub behind_one : (quiet : Bool) (IsAnswer : Reply → Type 0) (result : ℕ) (old new : Option (List ℕ)) (kept : List ℕ) (refused more : Bool)
    → (refused ≡ false → (not (length kept == 0) || more) ≡ false)
    → PrintsOneOf quiet IsAnswer (append_known old []) (append_known new kept) refused result
    → Behind (λ n r. PrintsOneOf quiet IsAnswer old n r result) new
behind_one quiet IsAnswer result = behind (λ old new refused. PrintsOneOf quiet IsAnswer old new refused result)

-- ---- an input has one answer

-- a history has one judgement
one_judgement : (condition : Condition) (text : HistoryText) (a b : Reply) → HasText text → Judges condition text a → Judges condition text b → a ≡ b
one_judgement condition text a b has = one_of_history (said_by text) a b (one_of_verdict condition (said_by text) judged a b (few_values text has))

pub check_has_one : (condition : Condition) → HasOneAnswer (check condition)
check_has_one condition = one_answer one_history (Judges condition) (λ input text a b is. one_judgement condition text a b is.0)

-- a complete history of a queue that is empty first
pub from_nothing : (events : List Event) → IsCompleteHistory events → IsCompleteFrom [] events
from_nothing events complete = record { complete = complete; values_are_distinct = complete.values_are_distinct }

pub few_of_part : (whole part : List ℕ) → ArePartOf whole part → length whole ≤ MAX_INITIAL → length part ≤ MAX_INITIAL
few_of_part whole part is few = omega (arith, no_longer is.0 whole, ap length is.1, few)

one_small : (text : HistoryText) (a b : Reply) → length text.initial ≤ MAX_INITIAL → IsSound (said_by text) → (x : IsShrunk text a) (y : IsShrunk text b)
    → x.small ≡ y.small
one_small text a b few complete x y =
    let whole = said_by text in
    let violations = chosen_violation_is_one text.initial text.events y.violation x.violation complete few y.chosen x.chosen in
    let kept = subst (λ v. KeepsViolation whole v y.small) violations y.kept in
    let same = subst (λ v. StaysChosen whole v y.small) violations y.same in
    let selected = selection_is_one whole x.small y.small x.violation (is_whole x.small x.initial x.small_is_complete)
    (is_whole y.small y.initial y.small_is_complete) x.kept kept x.same same x.minimal y.minimal in
    let events = part_is_one text.events x.small.events y.small.events complete.complete x.events y.events x.small_is_complete.complete
    y.small_is_complete.complete (ap (λ (c : Contents). c.operations) selected) in
    λ i. record { initial = ap (λ (c : Contents). c.initial) selected i; events = events i }
  where
    is_whole : (small : HistoryView) → ArePartOf text.initial small.initial → IsSound small → IsWhole small
    is_whole small part complete = record { complete = complete; few = few_of_part text.initial small.initial part few }

one_shrunk : (text : HistoryText) (a b : Reply) → length text.initial ≤ MAX_INITIAL → IsSound (said_by text) → IsShrunk text a → IsShrunk text b → a ≡ b
one_shrunk text a b few complete x y = one_of_verdict linearizability y.small (shown (said_in text.version y.small)) a b
    (few_of_part text.initial y.small.initial y.initial few) y.small_is_complete
    (subst (λ h. IsOfVerdict h (shown (said_in text.version h)) a) (one_small text a b few complete x y) x.answered) y.answered

-- a part in which a `NO` is found is shown in one way
one_shrunk_part : (condition : Condition) (text : HistoryText) (a b : Reply) → length text.initial ≤ MAX_INITIAL → IsSound (said_by text)
    → IsShrunkPart condition text a → IsShrunkPart condition text b → a ≡ b
one_shrunk_part condition text a b few complete x y =
    let contents = one_refuted condition.is_local condition.is_weakly_empty (contents_of (said_by text)) (contents_of x.part) (contents_of y.part) x.found y.found in
    let events = part_is_one text.events x.part.events y.part.events complete.complete x.events y.events x.complete.complete y.complete.complete
    (ap (λ (c : Contents). c.operations) contents) in
    let parts : x.part ≡ y.part = λ i. record { initial = ap (λ (c : Contents). c.initial) contents i; events = events i } in
    one_shrunk (said_in text.version y.part) a b (few_of_part text.initial y.part.initial y.initial few) y.complete
    (subst (λ part. IsShrunk (said_in text.version part) a) parts x.shrunk) y.shrunk

one_shrunk_by : (is_local is_weak : Bool) (text : HistoryText) (a b : Reply) → length text.initial ≤ MAX_INITIAL → IsSound (said_by text)
    → ShrinksBy is_local is_weak text a → ShrinksBy is_local is_weak text b → a ≡ b
one_shrunk_by false false text a b few complete = one_shrunk text a b few complete
one_shrunk_by false true text a b few complete = one_shrunk_part (record { is_local = false; is_weakly_empty = true }) text a b few complete
one_shrunk_by true is_weak text a b few complete = one_shrunk_part (record { is_local = true; is_weakly_empty = is_weak }) text a b few complete

pub shrink_has_one : (condition : Condition) → HasOneAnswer (shrink condition)
shrink_has_one condition = one_answer one_history (Shrinks condition) (λ input text a b is. let few = few_values text is.0 in one_of_history (said_by text) a b (λ complete.
    one_by_whether (one_of_verdict condition (said_by text) judged a b few complete)
    (one_shrunk_by condition.is_local condition.is_weakly_empty text a b few complete)))

-- a claim on a history is verified in one way, in whichever version the history is written
one_verification : (condition : Condition) (v w : Version) (history : HistoryView) (claimed : Claimed) (a b : Reply)
    → Verifies condition (claim_on (said_in v history) claimed) a → Verifies condition (claim_on (said_in w history) claimed) b → a ≡ b
one_verification condition v w history claimed a b = one_of_history history a b (λ complete. one_by_whether same same)

pub verify_has_one : (condition : Condition) → HasOneAnswer (verify condition)
verify_has_one condition = one_answer one_claim (Verifies condition)
    (λ input claim a b is. one_verification condition claim.text.version claim.text.version (said_by claim.text) claim.claimed a b)

-- lists merge to one complete history
one_merged : (lists : List (List Event)) (xs ys : List Event) → IsMerged lists xs → IsMerged lists ys → IsCompleteHistory xs → IsCompleteHistory ys → xs ≡ ys
one_merged lists xs ys merged_x merged_y complete_x complete_y =
    same_lists (λ e. e.ticket) xs ys complete_x.tickets_rise complete_y.tickets_rise (into xs ys merged_x merged_y) (into ys xs merged_y merged_x)
  where
    into : (zs ws : List Event) → IsMerged lists zs → IsMerged lists ws → (e : Event) → Contains zs e → Contains ws e
    into zs ws merged_z merged_w e among =
        let all = flat_map (λ (list : List Event). list) lists in
        Contains-permutation all ws e merged_w.holds_each_once (Contains-permutation zs all e (IsPermutation-sym all zs merged_z.holds_each_once) among)

-- a schedule is played in one way
one_played : (setting : Setting) (steps : List Attempt) (a b : Reply) → setting.initial ≡ [] → IsPlayed setting steps a → IsPlayed setting steps b → a ≡ b
one_played setting steps a b none x y =
    let events = one_merged (collected_lists setting steps) x.events y.events x.merged y.merged x.complete y.complete in
    let whole : List Event → HistoryView = λ es. record { initial = setting.initial; events = es } in
    let moved = subst (λ es. IsOfVerdict (whole es) (played (rejections setting steps) es) a) events x.answered in
    one_of_verdict linearizability (whole y.events) (played (rejections setting steps) y.events) a b (rw none (omega arith))
    (rw none (from_nothing y.events y.complete)) moved y.answered

pub sim_has_one : HasOneAnswer sim
sim_has_one = one_answer one_schedule Simulates (λ input schedule a b is. one_by_whether (one_played _ _ a b refl) same)

pub convert_has_one : HasOneAnswer convert
convert_has_one = one_answer one_history Converts (λ input text a b is. one_of_history (said_by text) a b (λ complete. same))

-- a history has one counting, in whichever version it is written
one_counting : (overtakes : Bool) (v w : Version) (history : HistoryView) (a b : Reply) → Counts overtakes (said_in v history) a
    → Counts overtakes (said_in w history) b → a ≡ b
one_counting true v w history a b = one_of_history history a b (λ complete x y. x ∙ sym y)
one_counting false v w history a b = one_of_history history a b
    (λ complete x y. x.is ∙ ap (λ s. counted s) (one_statistics history x.statistics y.statistics x.right y.right) ∙ sym y.is)

pub stats_has_one : (overtakes : Bool) → HasOneAnswer (stats overtakes)
stats_has_one overtakes =
    one_answer one_history (Counts overtakes) (λ input text a b is. one_counting overtakes text.version text.version (said_by text) a b)

-- ---- what isn't a failure was found of a history

pub text_fault_fails : (fault : TextFault) → 2 ≤ answer_status (answer_of_text_fault fault)
text_fault_fails text.Memory = omega arith
text_fault_fails fault = omega arith

pub history_fault_fails : (fault : HistoryFault) → 2 ≤ answer_status (answer_of_history_fault fault)
history_fault_fails Memory = omega arith
history_fault_fails fault = omega arith

verdict_is_no_failure : (claimed : Claimed) → answer_status (judged claimed) < 2
verdict_is_no_failure (claim.Yes order) = omega arith
verdict_is_no_failure (claim.No kind lines) = omega arith

played_is_no_failure : (rejected : List Rejection) (events : List Event) (claimed : Claimed) → answer_status (played rejected events claimed) < 2
played_is_no_failure rejected events (claim.Yes order) = omega arith
played_is_no_failure rejected events (claim.No kind lines) = omega arith

-- an answer whose status is no failure's is found of the history that the input says
found_of_history : (P : HistoryText → Reply → Type 0) (input : Ahead) (answer : Reply) → answer_status answer < 2
    → AnswersFor IsHistoryOf IsFaultOfHistoryInput (λ text. FaultOr (said_by text) (P text)) input answer
    → IsOfValue IsHistoryOf (λ text a. IsSound (said_by text) × P text a) input answer
found_of_history P input answer well (inr faulty) = absurd (omega (arith, well, ap answer_status faulty.is, text_fault_fails faulty.fault))
found_of_history P input answer well (inl read) = grind (arith, history_fault_fails)

-- the verdict under a condition on a history that has a text
pub record IsWrittenUnder (condition : Condition) (t : HistoryText) (claimed : Claimed) : Type 0 where
  pub complete : IsSound (said_by t)
  pub history : HasText t
  pub right : IsVerdictClaim condition (said_by t) claimed

abbrev pub IsWritten : HistoryText → Claimed → Type 0
IsWritten t claimed = IsWrittenUnder linearizability t claimed

-- the judged claim is that of the verdict on the history of the input
pub judged_is_written : (condition : Condition) (input : Ahead) (claimed : Claimed)
    → AnswersFor IsHistoryOf IsFaultOfHistoryInput (Judges condition) input (judged claimed)
    → (t : HistoryText) × IsHistoryOf input t × IsWrittenUnder condition t claimed
judged_is_written condition input claimed checked =
    let read = found_of_history (λ text. IsOfVerdictUnder condition (said_by text) judged) input (judged claimed) (verdict_is_no_failure claimed) checked in
    let is = read.answered.1 in
    let e : judged claimed ≡ judged (claim_of read.value.initial (operations_of read.value.events) is.verdict) = is.is in (
      read.value,
      read.input_of,
      record { complete = read.answered.0; history = read.input_of.0; right = record { verdict = is.verdict; decided = is.decided; is = cc } },
    )

-- ---- some of the events of a text have a text

lines_kept : {X : Type 0} (HasLine : X → Type 0) (keeps : X → Bool) (xs : List X) → AllByRecursion HasLine xs → AllByRecursion HasLine (filter keeps xs)
lines_kept HasLine keeps xs each =
    recursion_from_All HasLine (filter keeps xs) (All-filter keeps HasLine xs (All-from_recursion HasLine xs each))

part_has_text : (keeps : Event → Bool) (events : List Event) → HasHistoryText events → HasHistoryText (filter keeps events)
part_has_text keeps events is = grind (arith, lines_kept, no_longer)

values_have_lines : (version : Version) (keeps : ℕ → Bool) (initial : List ℕ) → HaveValueLines version initial → HaveValueLines version (filter keeps initial)
values_have_lines One keeps initial none = ap (filter keeps) none
values_have_lines Two keeps initial have = grind (arith, lines_kept, no_longer)

-- part of a history that has a text has one
part_is_text : (text : HistoryText) (part : HistoryView) → HasText text → ArePartOf text.initial part.initial → ArePartOf text.events part.events
    → HasText (said_in text.version part)
part_is_text text part has initial events = record {
  initial = rw initial.1 (values_have_lines text.version initial.0 text.initial has.initial);
  events = rw events.1 (part_has_text events.0 text.events has.events);
}

-- the history that is shown is a part of the text's, with its own verdict
shrunk_is_written : (text small : HistoryText) (claimed : Claimed) → HasText text → IsShrunk text (shown small claimed) → IsWritten small claimed
shrunk_is_written text small claimed has is =
    let said = said_in text.version is.small in
    let e : shown small claimed ≡ shown said (claim_of is.small.initial (operations_of is.small.events) is.answered.verdict) = is.answered.is in
    let smalls : said ≡ small = cc in
    subst (λ t. IsWritten t claimed) smalls (record {
      complete = is.small_is_complete;
      history = part_is_text text is.small has is.initial is.events;
      right = record { verdict = is.answered.verdict; decided = is.answered.decided; is = cc };
    })

shrunk_by_is_written : (is_local is_weak : Bool) (text small : HistoryText) (claimed : Claimed) → HasText text
    → ShrinksBy is_local is_weak text (shown small claimed) → IsWritten small claimed
shrunk_by_is_written false false text small claimed has is = shrunk_is_written text small claimed has is
shrunk_by_is_written false true text small claimed has is =
    shrunk_is_written (said_in text.version is.part) small claimed (part_is_text text is.part has is.initial is.events) is.shrunk
shrunk_by_is_written true is_weak text small claimed has is =
    shrunk_is_written (said_in text.version is.part) small claimed (part_is_text text is.part has is.initial is.events) is.shrunk

shown_is_written : (condition : Condition) (input : Ahead) (small : HistoryText) (claimed : Claimed)
    → AnswersFor IsHistoryOf IsFaultOfHistoryInput (Shrinks condition) input (shown small claimed) → IsWritten small claimed
shown_is_written condition input small claimed shrinks =
    let found = found_of_history (ShrinksSound condition) input (shown small claimed) (verdict_is_no_failure claimed) shrinks in
    elim found.answered.1 [
      | inl met ↦ let other = met.1.is in absurd (cc)
      | inr part ↦ shrunk_by_is_written condition.is_local condition.is_weakly_empty found.value small claimed found.input_of.0 part.1
    ]

-- ---- the two texts, read

-- the claim of a verdict that is written has a text
pub claim_is_written : (t : HistoryText) (claimed : Claimed) → IsWritten t claimed → HasVerdictText claimed
claim_is_written t claimed is = grind (arith, few_values, verdict_has_few_lines, claim_has_text)

-- the answer to a claim that is evidence is `VALID`
true_is_valid : (condition : Condition) (claim : ClaimOnText) (answer : Reply) → IsSound (said_by claim.text) → IsEvident condition claim
    → AnswersOrNoMemory (Verifies condition) claim answer → IsValidOrNoMemory answer
true_is_valid condition claim answer complete holds (inl (inl faulty)) = absurd (not_both (said_by claim.text) answer faulty complete)
true_is_valid condition claim answer complete holds (inl (inr (sound, inl (evident, is)))) = inl is
true_is_valid condition claim answer complete holds (inl (inr (sound, inr (untrue, is)))) = absurd (untrue holds)
true_is_valid condition claim answer complete holds (inr none) = inr none

-- a history with the text of a claim that is evidence is answered with `VALID`
evidence_is_valid : (condition : Condition) (bytes : List ℕ) (t : HistoryText) (claimed : Claimed) (answer : Reply) → IsHistoryOf (input_of bytes) t
    → IsSound (said_by t) → HasVerdictText claimed → IsTrueUnder condition (said_by t) claimed
    → AnswersFor IsClaimOf IsFaultOfClaimInput (Verifies condition) (input_of (bytes ++ verdict_text claimed)) answer → IsValidOrNoMemory answer
evidence_is_valid condition bytes t claimed answer read complete has evident answers =
    true_is_valid condition (claim_on t claimed) answer complete evident
    (answered_of one_claim (Verifies condition) (input_of (bytes ++ verdict_text claimed)) (claim_on t claimed) answer
    (claim_after bytes t claimed has read) answers)

-- a history with the text of its verdict is answered with `VALID`
written_is_valid : (condition : Condition) (bytes : List ℕ) (t : HistoryText) (claimed : Claimed) (answer : Reply) → IsHistoryOf (input_of bytes) t
    → HasVerdictText claimed → IsWrittenUnder condition t claimed
    → AnswersFor IsClaimOf IsFaultOfClaimInput (Verifies condition) (input_of (bytes ++ verdict_text claimed)) answer → IsValidOrNoMemory answer
written_is_valid condition bytes t claimed answer read has is =
    evidence_is_valid condition bytes t claimed answer read is.complete has
    (decided_is_true condition (said_by t) claimed is.complete (few_values t is.history) is.right)

-- the verdict that `check` writes is valid
pub checked_is_valid : CheckedIsValid
checked_is_valid bytes claimed answer checked verifies =
    let is = judged_is_written linearizability (input_of bytes) claimed checked in
    written_is_valid linearizability bytes is.0 claimed answer is.1 (claim_is_written is.0 claimed is.2) is.2 verifies

-- so it is under a condition
pub checked_is_valid_under : (condition : Condition) → CheckedIsValidUnder condition
checked_is_valid_under condition bytes claimed answer has checked verifies =
    let is = judged_is_written condition (input_of bytes) claimed checked in
    written_is_valid condition bytes is.0 claimed answer is.1 has is.2 verifies

-- and a `NO` under a condition is without one
pub refuted_is_valid : (condition : Condition) → RefutedIsValid condition
refuted_is_valid condition bytes kind lines answer has checked verifies =
    let is = judged_is_written condition (input_of bytes) (claim.No kind lines) checked in
    let evident = decided_is_true condition (said_by is.0) (claim.No kind lines) is.2.complete (few_values is.0 is.2.history) is.2.right in
    evidence_is_valid linearizability bytes is.0 (claim.No kind lines) answer is.1 is.2.complete has
    (no_is_of_the_whole condition (said_by is.0) kind lines evident) verifies

-- the texts of `shrink` are valid
pub shrunk_is_valid : (condition : Condition) → ShrunkIsValid condition
shrunk_is_valid condition bytes small claimed answer shrinks verifies =
    let is = shown_is_written condition (input_of bytes) small claimed shrinks in
    written_is_valid linearizability (text_of small) small claimed answer (is.history, record { bytes = refl; ending = refl })
    (claim_is_written small claimed is) is verifies

-- a history that is written with its verdict is answered with that verdict
written_is_checked : (condition : Condition) (t : HistoryText) (claimed : Claimed) (answer : Reply) → IsWrittenUnder condition t claimed
    → AnswersOf (check condition) (input_of (text_of t)) answer → IsVerdictOrNoMemory claimed answer
written_is_checked condition t claimed answer is checks =
    let found = answered_of one_history (Judges condition) (input_of (text_of t)) t answer (is.history, record { bytes = refl; ending = refl }) checks in
    let right : IsOfVerdictUnder condition (said_by t) judged (judged claimed) =
    record { verdict = is.right.verdict; decided = is.right.decided; is = ap (λ c. judged c) is.right.is } in
    ⊎_map (λ x. one_judgement condition t answer (judged claimed) is.history x (inr (is.complete, right))) (λ none. none) found

-- the shrunk history has the verdict that is written after the history
pub shrunk_is_checked : (condition : Condition) → ShrunkIsChecked condition
shrunk_is_checked condition bytes small claimed answer shrinks =
    written_is_checked linearizability small claimed answer (shown_is_written condition (input_of bytes) small claimed shrinks)

-- ---- runs

-- the texts of `stress` are the history of a run and its verdict
run_is_written : (condition : Condition) (count : ℕ) (lists : List (List Event)) (text : HistoryText) (claimed : Claimed) → HasText text
    → IsShownRun condition count lists (shown text claimed) → IsWrittenUnder condition text claimed
run_is_written condition count lists text claimed has is =
    let history = run_history count is.events in
    let said = said_in (run_version count) history in
    let e : shown text claimed ≡ shown said (claim_of history.initial (operations_of history.events) is.answered.verdict) = is.answered.is in
    let same_text : said ≡ text = cc in
    subst (λ t. IsWrittenUnder condition t claimed) same_text (record {
      complete = is.complete;
      history = subst HasText (sym same_text) has;
      right = record { verdict = is.answered.verdict; decided = is.answered.decided; is = cc };
    })

pub stressed_is_checked : (condition : Condition) → StressedIsChecked condition
stressed_is_checked condition count lists text claimed answer has is =
    written_is_checked condition text claimed answer (run_is_written condition count lists text claimed has is)

pub stressed_is_valid_under : (condition : Condition) → StressedIsValidUnder condition
stressed_is_valid_under condition count lists text claimed answer has has_claim is =
    written_is_valid condition (text_of text) text claimed answer (has, record { bytes = refl; ending = refl }) has_claim
    (run_is_written condition count lists text claimed has is)

pub stressed_is_valid : StressedIsValid
stressed_is_valid count lists text claimed answer has is =
    stressed_is_valid_under linearizability count lists text claimed answer has
    (claim_is_written text claimed (run_is_written linearizability count lists text claimed has is)) is

-- a history of a queue that is empty first, as a text of version 1
abbrev plain : List Event → HistoryText
plain events = said_in One (record { initial = []; events = events })

-- the texts of `sim` are the history of a schedule and its verdict
simulated_is_written : (input : Ahead) (rejected : List Rejection) (events : List Event) (claimed : Claimed) → HasHistoryText events
    → AnswersOf sim input (played rejected events claimed) → IsWritten (plain events) claimed
simulated_is_written input rejected events claimed has (inl read) = of_answer read.answered
  where
    setting : Setting
    setting = record { threads = read.value.threads; ring = read.value.ring; initial = [] }

    of_answer : AnswersOrNoMemory Simulates read.value (played rejected events claimed) → IsWritten (plain events) claimed
    of_answer (inl (inl (done, is))) =
        let e : played rejected events claimed
        ≡ played (rejections setting (schedule_of read.value.steps)) is.events (claim_of [] (operations_of is.events) is.answered.verdict) = is.answered.is in
        let same_events : is.events ≡ events = cc in
        subst (λ es. IsWritten (plain es) claimed) same_events (record {
          complete = from_nothing is.events is.complete;
          history = record { initial = refl; events = subst HasHistoryText (sym same_events) has };
          right = record { verdict = is.answered.verdict; decided = is.answered.decided; is = cc };
        })
    of_answer (inl (inr (undone, is))) = absurd (cc)
    of_answer (inr memory) = absurd (cc)
simulated_is_written input rejected events claimed has (inr faulty) =
    absurd (omega (arith, played_is_no_failure rejected events claimed, ap answer_status faulty.is, text_fault_fails faulty.fault))

pub simulated_is_checked : SimulatedIsChecked
simulated_is_checked bytes rejected events claimed answer has simulates =
    written_is_checked linearizability (plain events) claimed answer (simulated_is_written (input_of bytes) rejected events claimed has simulates)

pub simulated_is_valid : SimulatedIsValid
simulated_is_valid bytes rejected events claimed answer has simulates =
    let is = simulated_is_written (input_of bytes) rejected events claimed has simulates in
    written_is_valid linearizability (text_of (plain events)) (plain events) claimed answer (is.history, record { bytes = refl; ending = refl })
    (claim_is_written (plain events) claimed is) is

-- ---- a text and its conversion are answered alike

-- the converted text is that of the input's history, in version 2
conversion : (bytes : List ℕ) (to : HistoryText) → AnswersOf convert (input_of bytes) (converted to)
    → (text : HistoryText) × IsHistoryOf (input_of bytes) text × (to ≡ in_version_2 text)
conversion bytes to answers = grind (arith, found_of_history)

-- the conversion has a text, which says the same
says_same : (bytes : List ℕ) (to text : HistoryText) → IsHistoryOf (input_of bytes) text → to ≡ in_version_2 text
    → IsHistoryOf (input_of (text_of to)) (in_version_2 text)
says_same bytes to text read same = grind (arith, have_lines)

-- a text and its conversion say one history
pub converted_is_same_history : ConvertedIsSameHistory
converted_is_same_history bytes text to read answers =
    let is = conversion bytes to answers in
    let same : to ≡ in_version_2 text = is.2 ∙ ap in_version_2 (one_history.one_value (input_of bytes) is.0 text is.1 read) in
    (ap said_by same, ap (λ t. t.version) same, subst (IsHistoryOf (input_of (text_of to))) (sym is.2) (says_same bytes to is.0 is.1 is.2))

-- a text of version 2 comes out as it is
pub converted_is_kept : ConvertedIsKept
converted_is_kept bytes text to read two answers =
    let is = conversion bytes to answers in
    let one = one_history.one_value (input_of bytes) is.0 text is.1 read in
    let kept : in_version_2 text ≡ text = λ i. record { version = sym two i; initial = text.initial; events = text.events } in
    ap text_of (is.2 ∙ ap in_version_2 one ∙ kept) ∙ sym read.1.bytes

converted_alike : (P : HistoryText → Reply → Type 0)
    → ((text : HistoryText) (a b : Reply) → HasText text → P text a → P (in_version_2 text) b → a ≡ b) → (bytes : List ℕ) (to : HistoryText) (a b : Reply)
    → AnswersOf convert (input_of bytes) (converted to) → AnswersFor IsHistoryOf IsFaultOfHistoryInput P (input_of bytes) a
    → AnswersFor IsHistoryOf IsFaultOfHistoryInput P (input_of (text_of to)) b → SameOrNoMemory a b
converted_alike P one bytes to a b answers =
    let is = conversion bytes to answers in
    alike one_history P (input_of bytes) (input_of (text_of to)) is.0 (in_version_2 is.0) a b is.1 (says_same bytes to is.0 is.1 is.2) (one is.0 a b is.1.0)

-- `check` answers both alike
pub converted_is_checked : (condition : Condition) → ConvertedIsChecked condition
converted_is_checked condition = converted_alike (Judges condition) (one_judgement condition)

-- `stats` answers a text and its conversion alike
pub converted_is_counted : (overtakes : Bool) → ConvertedIsCounted overtakes
converted_is_counted overtakes = converted_alike (Counts overtakes) (λ text a b has. one_counting overtakes text.version Two (said_by text) a b)

-- `verify` answers a claim after a text and after its conversion alike
pub converted_is_verified : (condition : Condition) → ConvertedIsVerified condition
converted_is_verified condition bytes to claimed a b has answers =
    let is = conversion bytes to answers in
    alike one_claim (Verifies condition) (input_of (bytes ++ verdict_text claimed)) (input_of (text_of to ++ verdict_text claimed)) (claim_on is.0 claimed)
    (claim_on (in_version_2 is.0) claimed) a b (claim_after bytes is.0 claimed has is.1)
    (claim_after (text_of to) (in_version_2 is.0) claimed has (says_same bytes to is.0 is.1 is.2)) (one_verification condition is.0.version Two (said_by is.0) claimed a b)
