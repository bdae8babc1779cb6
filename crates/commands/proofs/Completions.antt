-- What `complete` answers: one thing of each input, the text of a complete history, which `check` decides as the theorem says.
use Rattle.commands.proofs.Common.{[], Ahead, AnswersOf, AnswersOrNoMemory, ap, arith, Bool, claim_of, Claimed, converted}
use Rattle.commands.proofs.Common.{Event, false, filter, HasOneAnswer, HasText, HaveValueLines, HistoryText, IfSome, inl}
use Rattle.commands.proofs.Common.{inr, input_of, IsExact, IsHistoryOf, IsSound, judged, Judges, length, List, memory_fault}
use Rattle.commands.proofs.Common.{No, None, operations_of, Option, refl, Reply, said_by, said_in, Some, subst, sym, text_of}
use Rattle.commands.proofs.Common.{true, Verdict, Version, Yes, ℕ, ◌++◌, ◌+◌, ◌∙◌, ◌∷◌, ◌≡◌, ◌≢◌, ◌≤◌, ◌⊎◌}
use Rattle.commands.proofs.Inputs.{answered_of, one_answer, one_history, one_pending}
use Rattle.commands.proofs.OneAnswer.{have_lines, history_fault_fails, not_both, one_by_whether, text_fault_fails}
use Rattle.command_words.specs.Options.{linearizability}
use Rattle.commands.specs.Answers.{answer_of_history_fault, answer_status, refused_limit, refused_text}
use Rattle.commands.specs.Completing.{completion_in, Completes, FaultOrCompletion, IsCompletable, IsFaultyBefore, IsPendingOf}
use Rattle.commands.specs.Completing.{LacksCompletion}
use Rattle.commands.specs.Evidence.{CompletedIsDecided, CompletedIsHistory, CompletedIsKept, IsYes}
use Rattle.commands.specs.Outcomes.{answer_of_fault, fault_of_completion}
use Rattle.command_words.specs.Commands.{complete}
use Rattle.completions.specs.Completed.{answers_to, calls_dequeue, completed, enqueue_answer, is_given, is_left_out, left_values}
use Rattle.completions.specs.Completed.{next_ticket, paired, pending_calls, returns_from, taken_value, taken_values}
use Rattle.completions.specs.Faults.{IsBeyondLimits, IsCompletionFault, MayBePending}
use Rattle.completions.specs.Pending.{CompletesLinearizably, IsDeciding}
use Rattle.completions.specs.declared.answers.Answer.{Answer}
use Rattle.completions.specs.declared.fault.CompletionFault.{CompletionFault}
use Rattle.completions.specs.declared.fault.CompletionFault.TheVariants as completion
use Rattle.completions.proofs.Sound.{complete_stays, may_be_pending, within_limits}
use Rattle.completions.proofs.Within.{decides_within}
use Rattle.event_records.specs.declared.event.What.{What}
use Rattle.event_records.specs.declared.event.What.TheVariants.{CallDeq, CallEnq, RetDeq, RetEmpty, RetEnq, RetNot}
use Rattle.event_records.specs.declared.limits.TheConstants.{MAX_EVENTS, MAX_INITIAL}
use Rattle.event_records.specs.Projection.{projection}
use Rattle.event_records.specs.Turns.{is_call}
use Rattle.history_merge.proofs.Faults.{complete_has_no_fault, one_first_fault}
use Rattle.history_merge.specs.Complete.{called_value}
use Rattle.history_merge.specs.Faults.{IsFirstFault, pending_call}
use Rattle.history_merge.specs.Initial.{HistoryView, IsCompleteFrom}
use Rattle.history_merge.specs.Legal.{IsLinearizable}
use Rattle.history_merge.specs.declared.operation.Operation.{Operation}
use Rattle.history_merge.specs.declared.fault.HistoryFault.{HistoryFault}
use Rattle.history_merge.specs.declared.fault.HistoryFault.TheVariants.{Memory, Pending}
use Rattle.history_text.proofs.OnePending.{has_same, same_text}
use Rattle.history_text.specs.Histories.{HasEventLine, HasHistoryText, HasValueInRange}
use Rattle.history_text.specs.Pending.{as_pending, FaultAfterEvents}
use Rattle.history_text.specs.Versions.{count_before_events}
use Rattle.history_text.specs.declared.pending_text.PendingText.{PendingText}
use Rattle.std.proofs.lemmas.List.Elements.{All-filter, All-from_recursion, recursion_from_All}
use Rattle.std.specs.Bool.{then_some}
use Rattle.std.specs.List.{AllByRecursion, cons_option, last_or}
use Rattle.std.specs.Prelude.{filter_map, if◌then◌else◌, nat_eq, not, option_and_then, ◌↔◌}
use Rattle.text_lines.specs.Lines.{greatest_value}
use Rattle.text_lines.specs.declared.fault.TextFault.TheVariants.{Count, Cut}

-- ---- lists of values and events that have lines

module _ {X : Type 0} (P : X → Type 0) where
  rec_append : (xs ys : List X) → AllByRecursion P xs → AllByRecursion P ys → AllByRecursion P (xs ++ ys)
  rec_append [] ys first second = second
  rec_append (x ∷ xs) ys first second = (first.0, rec_append xs ys first.1 second)

  rec_cons : (o : Option X) (xs : List X) → IfSome o P → AllByRecursion P xs → AllByRecursion P (cons_option o xs)
  rec_cons None xs one all = all
  rec_cons (Some x) xs one all = (one, all)

  rec_filter : (keeps : X → Bool) (xs : List X) → AllByRecursion P xs → AllByRecursion P (filter keeps xs)
  rec_filter keeps xs each = recursion_from_All P (filter keeps xs) (All-filter keeps P xs (All-from_recursion P xs each))

  rec_made : {Y : Type 0} (make : Y → Option X) (ys : List Y) → ((y : Y) → IfSome (make y) P) → AllByRecursion P (filter_map make ys)
  rec_made make [] each = tt
  rec_made make (y ∷ ys) each = rec_cons (make y) (filter_map make ys) (each y) (rec_made make ys each)

  last_has : (o : Option X) (xs : List X) → IfSome o P → AllByRecursion P xs → IfSome (last_or o xs) P
  last_has o [] one all = one
  last_has o (x ∷ xs) one all = last_has (Some x) xs all.0 all.1

-- a value that has a line
abbrev IsSmall : ℕ → Type 0
IsSmall v = v ≤ greatest_value

-- an event whose value has one
abbrev HasSmall : Event → Type 0
HasSmall e = HasValueInRange e.what

small_called : (what : What) → HasValueInRange what → IfSome (called_value what) IsSmall
small_called (CallEnq v) range = range
small_called RetEnq range = tt
small_called RetNot range = tt
small_called CallDeq range = tt
small_called (RetDeq v) range = tt
small_called RetEmpty range = tt

small_pending : (thread : ℕ) (before : List Event) → AllByRecursion HasSmall before → IfSome (pending_call thread before) HasSmall
small_pending thread before each =
    called (last_or None (projection thread before)) (last_has HasSmall None (projection thread before) tt
    (rec_filter HasSmall (λ e. nat_eq e.thread thread) before each))
  where
    by_call : (b : Bool) (e : Event) → HasSmall e → IfSome (then_some b e) HasSmall
    by_call true e small = small
    by_call false e small = tt

    called : (o : Option Event) → IfSome o HasSmall → IfSome (option_and_then (λ e. then_some (is_call e.what) e) o) HasSmall
    called None small = tt
    called (Some e) small = by_call (is_call e.what) e small

small_taken : (before : List Event) (e : Event) → AllByRecursion HasSmall before → IfSome (taken_value before e) IsSmall
small_taken before e each = by_what e.what
  where
    found : (o : Option Event) → IfSome o HasSmall → IfSome (option_and_then (λ call. called_value call.what) o) IsSmall
    found None small = tt
    found (Some call) small = small_called call.what small

    by_what : (what : What) → IfSome (elim what [ RetEnq ↦ option_and_then (λ call. called_value call.what) (pending_call e.thread before) | _ ↦ None ]) IsSmall
    by_what RetEnq = found (pending_call e.thread before) (small_pending e.thread before each)
    by_what (CallEnq v) = tt
    by_what RetNot = tt
    by_what CallDeq = tt
    by_what (RetDeq v) = tt
    by_what RetEmpty = tt

small_taken_values : (before later : List Event) → AllByRecursion HasSmall before → AllByRecursion HasSmall later
    → AllByRecursion IsSmall (taken_values before later)
small_taken_values before [] first second = tt
small_taken_values before (e ∷ later) first second =
    rec_cons IsSmall (taken_value before e) (taken_values (before ++ e ∷ []) later) (small_taken before e first)
    (small_taken_values (before ++ e ∷ []) later (rec_append HasSmall before (e ∷ []) first (second.0, tt)) second.1)

-- an answer whose value has a line
abbrev AnswersSmall : Answer → Type 0
AnswersSmall a = HasValueInRange a.what

small_enqueue : (events : List Event) (call : Event) → IfSome (enqueue_answer events call) AnswersSmall
small_enqueue events call = found (called_value call.what)
  where
    by_given : (b : Bool) → IfSome (if b then Some (record { call = call; what = RetEnq }) else None) AnswersSmall
    by_given true = tt
    by_given false = tt

    found : (o : Option ℕ) → IfSome (option_and_then (λ v. (if is_given events v then Some (record { call = call; what = RetEnq }) else None)) o) AnswersSmall
    found None = tt
    found (Some v) = by_given (is_given events v)

small_paired : (calls : List Event) (values : List ℕ) → AllByRecursion IsSmall values → AllByRecursion AnswersSmall (paired calls values)
small_paired [] values each = tt
small_paired (call ∷ calls) [] each = tt
small_paired (call ∷ calls) (v ∷ values) each = (each.0, small_paired calls values each.1)

small_returns : (n : ℕ) (answers : List Answer) → AllByRecursion AnswersSmall answers → AllByRecursion HasSmall (returns_from n answers)
small_returns n [] each = tt
small_returns n (a ∷ answers) each = (each.0, small_returns (n + 1) answers each.1)

small_completed : (initial : List ℕ) (events : List Event) → AllByRecursion IsSmall initial → AllByRecursion HasSmall events
    → AllByRecursion HasSmall (completed initial events)
small_completed initial events values each =
    let answers = answers_to initial events in
    let left = rec_filter IsSmall (λ v. not (is_given events v)) (initial ++ taken_values [] events)
    (rec_append IsSmall initial (taken_values [] events) values (small_taken_values [] events tt each)) in
    let small = rec_append AnswersSmall (filter_map (enqueue_answer events) (pending_calls events))
    (paired (filter calls_dequeue (pending_calls events)) (left_values initial events))
    (rec_made AnswersSmall (enqueue_answer events) (pending_calls events) (small_enqueue events))
    (small_paired (filter calls_dequeue (pending_calls events)) (left_values initial events) left) in
    rec_append HasSmall (filter (λ e. not (is_left_out events answers e)) events) (returns_from (next_ticket events) answers)
    (rec_filter HasSmall (λ e. not (is_left_out events answers e)) events each) (small_returns (next_ticket events) answers small)

each_small : (events : List Event) → AllByRecursion HasEventLine events → AllByRecursion HasSmall events
each_small [] each = tt
each_small (e ∷ events) each = (each.0.value, each_small events each.1)

-- a complete history whose values have lines has a text
complete_has_text : (initial : List ℕ) (events : List Event) → IsCompleteFrom initial events → length events ≤ MAX_EVENTS
    → AllByRecursion HasSmall events → HasHistoryText events
complete_has_text initial events whole few small =
    let values = All-from_recursion HasSmall events small in
    record {
      each = recursion_from_All HasEventLine events (λ k d below. record {
        ticket = whole.complete.tickets_in_range k d below;
        thread = whole.complete.threads_in_range k d below;
        value = values k d below;
      });
      few = few;
    }

-- ---- what is answered of a text

-- a fault of a completion is refused
pub completion_refused : (text : PendingText) (fault : CompletionFault) → IsCompletionFault text.initial text.events fault
    → LacksCompletion text (answer_of_fault (fault_of_completion fault)) ⊎ (answer_of_fault (fault_of_completion fault) ≡ memory_fault)
completion_refused text (completion.History fault) (first, other) = by_fault fault first other
  where
    by_fault : (f : HistoryFault) → IsFirstFault text.initial text.events f → ((ticket : ℕ) → f ≢ Pending ticket)
        → LacksCompletion text (answer_of_history_fault f) ⊎ (answer_of_history_fault f ≡ memory_fault)
    by_fault Memory first other = inr refl
    by_fault f first other = inl (inl (record { fault = f; first = first; known = (λ e. absurd (cc e)); other = other; is = refl }))
completion_refused text completion.Limit (found, beyond) = inl (inr (found, inl (beyond, refl)))

-- the history of a completion is said as the completion
pub said_completion : (text : PendingText) (history : HistoryView) → history.initial ≡ text.initial → history.events ≡ completed text.initial text.events
    → said_in text.version history ≡ completion_in text
said_completion text history initial events = λ i. record { version = text.version; initial = initial i; events = events i }

-- a history of which a call alone is pending has no other fault
faulty_or_pending : (text : PendingText) (answer : Reply) → IsFaultyBefore text answer → MayBePending text.initial text.events → ⊥
faulty_or_pending text answer faulty (inl whole) = faulty.known (complete_has_no_fault text.initial text.events faulty.fault faulty.first whole)
faulty_or_pending text answer faulty (inr (ticket, pending)) = faulty.other ticket
    (one_first_fault text.initial text.events faulty.fault (Pending ticket) faulty.known (λ e. absurd (cc e)) faulty.first pending)

-- nor is there a reason for no completion if there is one
not_lacking : (text : PendingText) (answer : Reply) → LacksCompletion text answer → IsCompletable text → ⊥
not_lacking text answer (inl faulty) is = faulty_or_pending text answer faulty is.found
not_lacking text answer (inr (found, inl (beyond, limit))) is = is.within beyond
not_lacking text answer (inr (found, inr (within, uncounted))) is = uncounted.0 is.counted

one_lacking : (text : PendingText) (a b : Reply) → LacksCompletion text a → LacksCompletion text b → a ≡ b
one_lacking text a b (inl x) (inl y) =
    x.is ∙ ap answer_of_history_fault (one_first_fault text.initial text.events x.fault y.fault x.known y.known x.first y.first) ∙ sym y.is
one_lacking text a b (inl x) (inr y) = absurd (faulty_or_pending text a x y.0)
one_lacking text a b (inr x) (inl y) = absurd (faulty_or_pending text b y x.0)
one_lacking text a b (inr x) (inr y) = one_by_whether (λ p q. p ∙ sym q) (λ p q. p.1 ∙ sym q.1) x.1 y.1

-- so one thing is answered of a text if one is of its completion
pub one_of_completion : (text : PendingText) (a b : Reply) (P Q : Reply → Type 0) → (IsCompletable text → P a → Q b → a ≡ b)
    → FaultOrCompletion text P a → FaultOrCompletion text Q b → a ≡ b
one_of_completion text a b P Q one (inl x) (inl y) = one_lacking text a b x y
one_of_completion text a b P Q one (inl x) (inr y) = absurd (not_lacking text a x y.0)
one_of_completion text a b P Q one (inr x) (inl y) = absurd (not_lacking text b y x.0)
one_of_completion text a b P Q one (inr x) (inr y) = one x.0 x.1 y.1

pub complete_has_one : (takes_cut : Bool) → HasOneAnswer (complete takes_cut)
complete_has_one takes_cut = one_answer (one_pending takes_cut) Completes (λ input text a b is. one_of_completion text a b
    (λ r. r ≡ converted (completion_in text)) (λ r. r ≡ converted (completion_in text)) (λ is p q. p ∙ sym q))

-- ---- what is written

-- each line of the input is right
pending_lines : (takes_cut : Bool) (input : Ahead) (text : PendingText) → IsPendingOf takes_cut input text
    → HaveValueLines text.version text.initial × HasHistoryText text.events
pending_lines takes_cut input text (inl is) = (is.0.initial, is.0.events)
pending_lines takes_cut input text (inr (allowed, is)) = (is.initial, by_calls text.open_calls is.cut)
  where
    by_calls : (calls : Option ℕ)
        → FaultAfterEvents is.is_pending (0 + count_before_events text.version text.initial + 1) input.ending Cut is.rest text.events calls
        → HasHistoryText text.events
    by_calls None h = h.right
    by_calls (Some n) h = h.1.right

-- the text that was read, if a completion is the answer
record IsCompleted (takes_cut : Bool) (input : Ahead) (to : HistoryText) : Type 0 where
  text : PendingText
  input_of : IsPendingOf takes_cut input text
  found : MayBePending text.initial text.events
  within : ¬ (IsBeyondLimits text.initial text.events)
  is : to ≡ completion_in text

no_refusal : (to : HistoryText) (answer : Reply) → converted to ≡ answer → 2 ≤ answer_status answer → ⊥
no_refusal to answer same fails = let status = ap answer_status same in absurd (omega (arith, status, fails))

completion_read : (takes_cut : Bool) (input : Ahead) (to : HistoryText) → AnswersOf (complete takes_cut) input (converted to) → IsCompleted takes_cut input to
completion_read takes_cut input to (inr faulty) = absurd (no_refusal to _ faulty.is (text_fault_fails faulty.fault))
completion_read takes_cut input to (inl read) = by_answer read.answered
  where
    by_answer : AnswersOrNoMemory Completes read.value (converted to) → IsCompleted takes_cut input to
    by_answer (inr memory) = absurd (no_refusal to memory_fault memory (omega arith))
    by_answer (inl (inl (inl faulty))) = absurd (no_refusal to _ faulty.is (history_fault_fails faulty.fault))
    by_answer (inl (inl (inr (found, inl (beyond, limit))))) = absurd (no_refusal to refused_limit limit (omega arith))
    by_answer (inl (inl (inr (found, inr (within, uncounted))))) = absurd (no_refusal to (refused_text Count) uncounted.1 (omega arith))
    by_answer (inl (inr (is, same))) =
        record { text = read.value; input_of = read.input_of; found = is.found; within = is.within; is = cc }

few_of_lines : (version : Version) (initial : List ℕ) → HaveValueLines version initial → length initial ≤ MAX_INITIAL
few_of_lines version initial lines = (have_lines version initial lines).few

-- the completion decides
is_deciding : (takes_cut : Bool) (input : Ahead) (to : HistoryText) (is : IsCompleted takes_cut input to)
    → IsDeciding is.text.initial is.text.events (completed is.text.initial is.text.events)
is_deciding takes_cut input to is =
    let lines = pending_lines takes_cut input is.text is.input_of in
    decides_within is.text.initial is.text.events (few_of_lines is.text.version is.text.initial lines.0)
    (may_be_pending is.text.initial is.text.events is.found) is.within

written_completion : (takes_cut : Bool) (input : Ahead) (to : HistoryText) (is : IsCompleted takes_cut input to)
    → HasText (completion_in is.text) × IsSound (said_by (completion_in is.text))
written_completion takes_cut input to is =
    let lines = pending_lines takes_cut input is.text is.input_of in
    let whole = (is_deciding takes_cut input to is).completion.is_complete in
    let values = (have_lines is.text.version is.text.initial lines.0).each in (
      record {
        initial = lines.0;
        events = complete_has_text is.text.initial (completed is.text.initial is.text.events) whole
            (within_limits is.text.initial is.text.events is.within).0
            (small_completed is.text.initial is.text.events values (each_small is.text.events lines.1.each));
      },
      whole,
    )

-- the answer of `complete` is the text of a complete history
pub completed_is_history : (takes_cut : Bool) → CompletedIsHistory takes_cut
completed_is_history takes_cut bytes to answers =
    let is = completion_read takes_cut (input_of bytes) to answers in
    let written = written_completion takes_cut (input_of bytes) to is in
    subst (λ t. IsHistoryOf (input_of (text_of t)) t × IsSound (said_by t)) (sym is.is)
    ((written.0, record { bytes = refl; ending = refl }), written.1)

-- a verdict is `YES` if and only if there is a linearization
yes_if_linearizable : (initial : List ℕ) (operations : List Operation) (verdict : Verdict) → IsExact initial operations verdict
    → IsYes (claim_of initial operations verdict) ↔ IsLinearizable initial operations
yes_if_linearizable initial operations (Yes places) legal = ((λ _. legal), (λ _. tt))
yes_if_linearizable initial operations (No violation) none = ((λ h. absurd h), (λ legal. absurd (none legal)))

-- `check` decides it as the theorem says
pub completed_is_decided : (takes_cut : Bool) → CompletedIsDecided takes_cut
completed_is_decided takes_cut bytes text to claimed reads answers checks =
    let is = completion_read takes_cut (input_of bytes) to answers in
    let deciding = is_deciding takes_cut (input_of bytes) to is in
    let written = completed_is_history takes_cut bytes to answers in
    let one = (one_pending takes_cut).one_value (input_of bytes) is.text text is.input_of reads in
    let done = completed is.text.initial is.text.events in
    let judged_so = verdict_of to claimed written.1 (answered_of one_history (Judges linearizability) (input_of (text_of to)) to (judged claimed) written.0 checks) in
    let yes = subst (λ (t : HistoryText). IsYes claimed ↔ IsLinearizable t.initial (operations_of t.events)) is.is judged_so in
    subst (λ (t : PendingText). IsYes claimed ↔ CompletesLinearizably t.initial t.events) one
    ((λ is_yes. (done, deciding.completion, yes.0 is_yes)), (λ some. yes.1 (deciding.decides some)))
  where
    verdict_of : (t : HistoryText) (c : Claimed) → IsSound (said_by t) → AnswersOrNoMemory (Judges linearizability) t (judged c)
        → IsYes c ↔ IsLinearizable t.initial (operations_of t.events)
    verdict_of t c sound (inr memory) = let other : judged c ≡ memory_fault = memory in absurd (cc)
    verdict_of t c sound (inl (inl faulty)) = absurd (not_both (said_by t) (judged c) faulty sound)
    verdict_of t c sound (inl (inr (whole, right))) =
        let same : judged c ≡ judged (claim_of t.initial (operations_of t.events) right.verdict) = right.is in
        let claims : claim_of t.initial (operations_of t.events) right.verdict ≡ c = cc in
        subst (λ (k : Claimed). IsYes k ↔ IsLinearizable t.initial (operations_of t.events)) claims
        (yes_if_linearizable t.initial (operations_of t.events) right.verdict right.decided.exact)

-- a complete history comes out as it is
pub completed_is_kept : (takes_cut : Bool) → CompletedIsKept takes_cut
completed_is_kept takes_cut bytes text to reads whole answers =
    let is = completion_read takes_cut (input_of bytes) to answers in
    let same = same_text text in
    let as_read : IsPendingOf takes_cut (input_of bytes) (as_pending text) =
    inl (has_same text reads.0, record { bytes = reads.1.bytes ∙ sym same; ending = reads.1.ending }) in
    let one = (one_pending takes_cut).one_value (input_of bytes) is.text (as_pending text) is.input_of as_read in
    let stays : completion_in (as_pending text) ≡ text =
    λ i. record { version = text.version; initial = text.initial; events = complete_stays text.initial text.events whole i } in
    ap text_of (is.is ∙ ap completion_in one ∙ stays) ∙ sym reads.1.bytes
