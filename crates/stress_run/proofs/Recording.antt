-- The lists of a run are recorded lists, which replay.
use Rattle.std.proofs.Common.{◌≡◌, ℕ, zero, suc, ◌+◌, ◌*◌, ◌<◌, ◌≤◌, List, [], ◌∷◌, length, map, All}
use Rattle.std.proofs.Common.{flat_map, get_or, IsPermutation, Some, refl, ap}
use Rattle.std.proofs.Common.{sym, subst, ◌∙◌, arith}
use Rattle.std.specs.Prelude.{slice_get, IsTrue}
use Rattle.std.specs.List.{range_with_len}
use Rattle.std.specs.List.Sorted.{IsStrictlyIncreasing}
use Rattle.std.proofs.lemmas.List.{length-map, get_or-map}
use Rattle.std.proofs.lemmas.List.Elements.{All-nil, All-cons, All-head, All-tail}
use Rattle.std.proofs.lemmas.List.FromFn.{length-range_with_len}
use Rattle.std.proofs.lemmas.List.Kept.{AllPairs-from_increasing}
use Rattle.std.proofs.lemmas.List.Sorted.{length_permutation}
use Rattle.std.proofs.lemmas.Option.{slice_get_within, get_or_from_slice_get}
use Rattle.atomic_table.specs.Seated.{TableId}
use Rattle.event_records.specs.Question.{Question, call_event, return_event, call_what, return_what, value_name}
use Rattle.event_records.specs.Turns.{TakesTurns, TicketsRise, answers}
use Rattle.event_records.specs.declared.kind.Kind.{Kind}
use Rattle.event_records.specs.declared.kind.Kind.TheVariants.{Enq, Deq}
use Rattle.event_records.specs.declared.kind.Answer.{Answer}
use Rattle.event_records.specs.declared.kind.Answer.TheVariants.{Taken, Not, Got, Empty}
use Rattle.event_records.specs.declared.event.Event.{Event}
use Rattle.event_records.specs.declared.limits.TheConstants.{MAX_THREAD_OPERATIONS}
use Rattle.event_records.specs.declared.event.What.TheVariants.{CallEnq}
use Rattle.queue_interface.specs.Answers.{IsOfKind}
use Rattle.workloads.specs.Plans.{IsPlan}
use Rattle.recorder_core.specs.Replay.{IsListOf, AreRecorded}
use Rattle.stress_run.specs.Operations.{Completed, IsAsked, Operates, IsRun, events_of, ticket_of, tickets_of, asked_number, asked_kind}

-- an answer of the kind of a call answers it
answers_of_kind : (k : Kind) (v : ℕ) (a : Answer) → IsOfKind k a → IsTrue (answers (call_what k v) (return_what a))
answers_of_kind Enq v Taken h = refl
answers_of_kind Enq v Not h = refl
answers_of_kind Enq v (Got x) h = absurd h
answers_of_kind Enq v Empty h = absurd h
answers_of_kind Deq v Taken h = absurd h
answers_of_kind Deq v Not h = absurd h
answers_of_kind Deq v (Got x) h = refl
answers_of_kind Deq v Empty h = refl

-- the value of a call to enqueue is the one that it was made with
called : (k : Kind) (v value : ℕ) → call_what k v ≡ CallEnq value → value ≡ v
called Enq v value e = cc
called Deq v value e = cc

head_same : (x y : ℕ) (xs ys : List ℕ) → x ∷ xs ≡ y ∷ ys → x ≡ y
head_same x y xs ys e = cc

tail_same : (x y : ℕ) (xs ys : List ℕ) → x ∷ xs ≡ y ∷ ys → xs ≡ ys
tail_same x y xs ys e = cc

none_at : (n : ℕ) (e : Event) → slice_get [] n ≡ Some e → ⊥
none_at n e p = cc

same_event : (d e : Event) → Some d ≡ Some e → d ≡ e
same_event d e p = cc

two_more : (n : ℕ) → 2 * suc n ≡ suc (suc (2 * n))
two_more n = omega arith

-- each operation has two events
pub two_each : (os : List Completed) → length (flat_map events_of os) ≡ 2 * length os
two_each [] = refl
two_each (o ∷ os) = let rest = two_each os in omega (arith, rest)

rise : (events : List Event) → IsStrictlyIncreasing (tickets_of events) → TicketsRise events
rise events rising i j d before inside =
    let long = length-map events ticket_of in
    let pair = AllPairs-from_increasing (tickets_of events) rising i j 0 before (omega (arith, inside, long)) in
    let first = get_or-map ticket_of events i d 0 (omega (arith, before, inside)) in
    let second = get_or-map ticket_of events j d 0 inside in
    omega (arith, pair, first, second)

module _ (may : Question → Answer → Type 0) (t : ℕ) (key : TableId) where
  -- an operation of this thread, asked at a ticket of this word
  abbrev Asked : Completed → Type 0
  Asked = IsAsked may t key

  own : (os : List Completed) → All Asked os → All (λ e. e.thread ≡ t) (flat_map events_of os)
  own [] h = All-nil (λ (e : Event). e.thread ≡ t)
  own (o ∷ os) h =
      let P : Event → Type 0 = λ e. e.thread ≡ t in
      let thread = (All-head Asked o os h).of_thread in
      let later = flat_map events_of os in
      let returned = return_event (record { question = o.question; answer = o.answer }) o.ret in
      All-cons P (call_event o.question) (returned ∷ later) thread (All-cons P returned later thread (own os (All-tail Asked o os h)))

  turns : (os : List Completed) → All Asked os → TakesTurns (flat_map events_of os)
  turns [] h = tt
  turns (o ∷ os) h = (answers_of_kind o.question.kind _ o.answer (All-head Asked o os h).of_kind, turns os (All-tail Asked o os h))

  named : (os : List Completed) (first n value : ℕ) (call : Event) → All Asked os → map asked_number os ≡ range_with_len first (length os)
      → slice_get (flat_map events_of os) (2 * n) ≡ Some call → call.what ≡ CallEnq value → value ≡ value_name t (first + n)
  named [] first n value call h e at what = absurd (none_at (2 * n) call at)
  named (o ∷ os) first zero value call h e at what =
      let is = same_event (call_event o.question) call at in
      let number : o.question.number ≡ first + 0 = head_same _ _ _ _ e ∙ omega arith in
      called o.question.kind (value_name o.question.thread o.question.number) value (ap (λ (x : Event). x.what) is ∙ what)
      ∙ ap (λ (x : ℕ). value_name x o.question.number) (All-head Asked o os h).of_thread
      ∙ ap (value_name t) number
  named (o ∷ os) first (suc n) value call h e at what =
      let later = subst (λ (i : ℕ). slice_get (flat_map events_of (o ∷ os)) i ≡ Some call) (two_more n) at in
      let number : first + 1 + n ≡ first + suc n = omega arith in
      named os (first + 1) n value call (All-tail Asked o os h) (tail_same _ _ _ _ e) later what ∙ ap (value_name t) number

  -- the events of a worker's operations are a list of its thread
  pub is_list : (kinds : List Kind) (events : List Event) → length kinds ≤ MAX_THREAD_OPERATIONS → Operates may t key 0 kinds events
      → IsStrictlyIncreasing (tickets_of events) → IsListOf t events
  is_list kinds events short o rising =
      let os = o.operations in
      let same = o.recorded in
      let long : length os ≡ length kinds = sym (length-map os asked_kind) ∙ ap length o.planned in
      let size = ap length same ∙ two_each os in
      record {
        own = subst (All (λ (e : Event). e.thread ≡ t)) (sym same) (own os o.all_asked);
        alternates = record { takes_turns = subst TakesTurns (sym same) (turns os o.all_asked); tickets_rise = rise events rising };
        names = λ n value call at what.
            let number : 0 + n ≡ n = omega arith in
            named os 0 n value call o.all_asked (o.numbered ∙ ap (range_with_len 0) (sym long))
            (subst (λ (es : List Event). slice_get es (2 * n) ≡ Some call) same at) what ∙ ap (value_name t) number;
        not_too_long = omega (arith, size, long, short);
      }

-- the lists of a run are recorded lists
pub are_recorded : (may : Question → Answer → Type 0) (rows : List (List Kind)) (lists : List (List Event)) (total : ℕ) → IsPlan rows
    → IsRun may rows lists total → AreRecorded lists
are_recorded may rows lists total plan run =
    let one_each = run.one_each in
    let some = plan.some in
    let few = plan.few in
    let small = plan.small in
    let two = run.two_each in
    let all = flat_map (λ (list : List Event). list) lists in
    let long = length_permutation _ _ run.tickets in
    let tickets = length-map all ticket_of in
    let count = length-range_with_len 0 total in
    let sum : total ≡ length all = omega (arith, long, tickets, count) in
    record {
      some = omega (arith, one_each, some);
      not_too_many = omega (arith, one_each, few);
      each = λ t events at.
          let inside = slice_get_within lists t events at in
          let row : t < length rows = omega (arith, inside, one_each) in
          subst (IsListOf t) (get_or_from_slice_get lists t events [] at)
          (is_list may t run.word (get_or rows t []) (get_or lists t []) (plan.short t [] row) (run.operates t row) (run.rising t row));
      tickets = subst (λ (n : ℕ). IsPermutation (tickets_of all) (range_with_len 0 n)) sum run.tickets;
      not_too_long = omega (arith, sum, two, small);
    }
