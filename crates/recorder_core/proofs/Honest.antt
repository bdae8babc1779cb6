-- The effects of an honest schedule: when each was taken, by which operation, and of which kind.
use Rattle.std.proofs.Common.{◌≡◌, ℕ, suc, ◌+◌, ◌*◌, ◌<◌, ◌≤◌, Bool, true, false, List, [], ◌∷◌, ◌++◌, length}
use Rattle.std.proofs.Common.{map, Option, Some, None, refl, sym}
use Rattle.std.proofs.Common.{◌∙◌, ap, subst, inl, inr, arith, eqb, cond, length-append}
use Rattle.std.specs.Prelude.{All, AllPairs, slice_get, not}
use Rattle.std.specs.List.{list_all}
use Rattle.std.specs.Option.{option_map, option_map_or}
use Rattle.std.proofs.lemmas.Bool.{cases_eq, ne_eqb, eq-eqb}
use Rattle.std.proofs.lemmas.List.{map_push}
use Rattle.std.proofs.lemmas.List.Elements.{All-nil, All-push, All-weaker}
use Rattle.std.proofs.lemmas.List.Quantifiers.{all_pairs_push}
use Rattle.std.proofs.lemmas.Option.{slice_get_past, slice_get_within, get_or_from_slice_get, same_Some}
use Rattle.event_records.specs.declared.event.Event.{Event}
use Rattle.event_records.specs.declared.event.What.{What}
use Rattle.history_merge.specs.declared.operation.OpKind.{OpKind}
use Rattle.history_merge.specs.declared.operation.OpKind.TheVariants.{DequeueEmpty as EmptyOp}
use Rattle.history_merge.specs.Operations.{kind_of}
use Rattle.recorder_core.specs.declared.step.Step.{Step}
use Rattle.recorder_core.specs.declared.step.Step.TheVariants.{AskEnq, AskDeq, Push, Effect, Say, Ret, Drain, Close}
use Rattle.event_records.specs.declared.kind.Answer.{Answer}
use Rattle.event_records.specs.declared.kind.Answer.TheVariants.{Empty}
use Rattle.recorder_core.specs.declared.pending.Request.{Request}
use Rattle.recorder_core.specs.Inner.Asked.{call_of}
use Rattle.recorder_core.specs.Setting.{Setting}
use Rattle.recorder_core.specs.Schedule.{Attempt, refusal, accepted, answers, returns, tickets, request, answered}
use Rattle.recorder_core.specs.Schedule.{effect_answer, events, is_wrong}
use Rattle.event_records.specs.Question.{return_what}
use Rattle.recorder_core.specs.Schedule.{queue, queue_answer, with_last}
use Rattle.recorder_core.specs.Replay.{is_say, effected, effect_kinds, kind_told}
use Rattle.recorder_core.proofs.Runs.{same_number, after_each, MayAsk, may_ask, MayAnswer, may_effect, MayReturn}
use Rattle.recorder_core.proofs.Runs.{may_return}
use Rattle.recorder_core.proofs.Events.{CountedAndRecorded, recorded, recorded_goes_on, told_last, asked_last}
use Rattle.recorder_core.proofs.Events.{of_right_answers, queue_is_right}
use Rattle.recorder_core.proofs.Starting.{slice_get_front}
use Rattle.recorder_core.proofs.Threads.{slice_get_at}
use Rattle.history_merge.proofs.Lists.{with_one_more}

-- an effect of the operation with this thread and number, of this kind, taken when this many tickets were drawn
pub record TakenEffect : Type 0 where
  pub thread : ℕ
  pub number : ℕ
  pub time : ℕ
  pub kind : OpKind

abbrev kind_now : Setting → ℕ → List Step → OpKind
kind_now setting t before = option_map_or (λ asked. kind_told asked (effect_answer setting t before)) (request t before) EmptyOp

now_kind : (setting : Setting) (t : ℕ) (before : List Step) (asked : Request) → request t before ≡ Some asked
    → kind_now setting t before ≡ kind_told asked (effect_answer setting t before)
now_kind setting t before asked is = ap (λ (o : Option Request). option_map_or (λ q. kind_told q (effect_answer setting t before)) o EmptyOp) is

-- the effects, in their order
abbrev pub taken : Setting → List Step → List TakenEffect
taken setting [] = []
taken setting (Effect t ∷ before) = taken setting before ++ record {
  thread = t;
  number = answers t before;
  time = tickets before;
  kind =
      kind_now setting t before;
} ∷ []
taken setting (_ ∷ before) = taken setting before

-- no step gives an answer from outside
abbrev pub without_says : List Step → Bool
without_says steps = list_all (λ step. not (is_say step)) steps

-- the relation of an effect to the events of its thread, after this many tickets, answers and returns, with this last
-- answer
pub record IsTaken (next n r : ℕ) (told : Option Answer) (list : List Event) (number time : ℕ)
    (kind : OpKind) : Type 0 where
  pub in_time : time ≤ next
  pub was_answered : number < n
  pub call : Event
  pub called : slice_get list (2 * number) ≡ Some call
  pub called_before : call.ticket < time
  pub returned : (ret : Event) → slice_get list (2 * number + 1) ≡ Some ret
      → (time ≤ ret.ticket) × (kind_of call.what ret.what ≡ Some kind)
  pub waiting : r ≤ number → (a : Answer) × (told ≡ Some a) × (kind_of call.what (return_what a) ≡ Some kind)

module _ (next n r : ℕ) (told : Option Answer) (list : List Event) (number time : ℕ) (kind : OpKind)
    (k : IsTaken next n r told list number time kind) where
  -- the relation after more steps, by what is known of the call and the return then
  taken_then : (next' n' r' : ℕ) (told' : Option Answer) (list' : List Event) → next ≤ next' → n ≤ n'
      → slice_get list' (2 * number) ≡ Some k.call
      → ((ret : Event) → slice_get list' (2 * number + 1) ≡ Some ret
      → (time ≤ ret.ticket) × (kind_of k.call.what ret.what ≡ Some kind))
      → (r' ≤ number → (a : Answer) × (told' ≡ Some a) × (kind_of k.call.what (return_what a) ≡ Some kind))
      → IsTaken next' n' r' told' list' number time kind
  taken_then next' n' r' told' list' more answered called returned waiting = record {
    in_time = omega (arith, k.in_time);
    was_answered = omega (arith, k.was_answered);
    call = k.call;
    called = called;
    called_before = k.called_before;
    returned = returned;
    waiting = waiting;
  }

  taken_later : (next' : ℕ) → next ≤ next' → IsTaken next' n r told list number time kind
  taken_later next' h = taken_then next' n r told list h (omega arith) k.called k.returned k.waiting

  still_called : (e : Event) → slice_get (list ++ e ∷ []) (2 * number) ≡ Some k.call
  still_called e = slice_get_front list e (2 * number) (slice_get_within list (2 * number) k.call k.called) ∙ k.called

  -- the return of the operation
  abbrev Returned : Event → Type 0
  Returned ret = (time ≤ ret.ticket) × (kind_of k.call.what ret.what ≡ Some kind)

  -- with one more event, the operation's return is one of those before, or this one
  still_returned : (e : Event) → (2 * number + 1 ≡ length list → Returned e) → (ret : Event)
      → slice_get (list ++ e ∷ []) (2 * number + 1) ≡ Some ret → Returned ret
  still_returned e now ret at = elim (with_one_more list e ret (2 * number + 1) at) [
    | inl earlier ↦ k.returned ret earlier
    | inr (last, same) ↦ subst Returned same (now last)
  ]

  -- an ask of its thread
  taken_asked : (e : Event) → length list ≡ r + r → IsTaken (suc next) n r told (list ++ e ∷ []) number time kind
  taken_asked e long =
      taken_then (suc next) n r told (list ++ e ∷ []) (omega arith) (omega arith) (still_called e)
      (still_returned e (λ last. absurd (omega (arith, last, long)))) k.waiting

  -- a return of its thread
  taken_returned : (e : Event) (a : Answer) → length list ≡ suc (r + r) → n ≤ suc r → told ≡ Some a → e.ticket ≡ next
      → e.what ≡ return_what a
      → IsTaken (suc next) n (suc r) told (list ++ e ∷ []) number time kind
  taken_returned e a long few is ticket what =
      taken_then (suc next) n (suc r) told (list ++ e ∷ []) (omega arith) (omega arith) (still_called e) (still_returned e (λ last.
      let w = k.waiting (omega (arith, last, long)) in
      let one : w.0 ≡ a = same_Some w.0 a (sym w.1 ∙ is) in
      (omega (arith, k.in_time, ticket), ap (kind_of k.call.what) (what ∙ ap return_what (sym one)) ∙ w.2)))
      (λ none. absurd (omega (arith, k.was_answered)))

  -- an effect of a later operation of its thread
  taken_answered : (told' : Option Answer) → n ≤ r → IsTaken next (suc n) r told' list number time kind
  taken_answered told' few =
      taken_then next (suc n) r told' list (omega arith) (omega arith) k.called k.returned (λ none. absurd (omega (arith, k.was_answered)))

-- ---- an effect that is taken by this step

told_kind : (asked : Request) (answer : Answer) → is_wrong answer (Some asked) ≡ false
    → kind_of (call_of asked) (return_what answer) ≡ Some (kind_told asked answer)
told_kind =
    of_right_answers (λ asked answer. kind_of (call_of asked) (return_what answer) ≡ Some (kind_told asked answer)) (λ v. refl) (λ v. refl) (λ w. refl) refl

taken_now : (setting : Setting) (u : ℕ) (before : List Step) → CountedAndRecorded setting u before
    → MayAnswer setting u before →
    IsTaken (tickets before) (suc (answers u before)) (returns u before) (Some (effect_answer setting u before)) (events setting u before)
    (answers u before) (tickets before) (kind_now setting u before)
taken_now setting u before k m =
    let c = k.0 in
    let b = k.1.busy m.one_pending in
    let number : answers u before ≡ returns u before = omega (arith, c.returned_below, m.no_answer) in
    let long : length (events setting u before) ≡ suc (2 * answers u before) = omega (arith, c.events_are, c.one_pending, m.one_pending, number) in
    let earlier : length b.earlier ≡ 2 * answers u before = omega (arith, long, ap length b.events_are, length-append b.earlier (b.call ∷ [])) in
    let at : slice_get (events setting u before) (2 * answers u before) ≡ Some b.call =
    rw b.events_are (slice_get_at b.earlier b.call (2 * answers u before) earlier) in
    let right : is_wrong (effect_answer setting u before) (Some b.request) ≡ false =
    ap (λ (o : Option Request). is_wrong (option_map_or (λ asked. queue_answer asked (queue setting before)) o Empty) (Some b.request)) b.asked_is
    ∙ queue_is_right b.request (queue setting before) in
    let kind : kind_now setting u before ≡ kind_told b.request (effect_answer setting u before) = now_kind setting u before b.request b.asked_is in
    record {
      in_time = omega arith;
      was_answered = omega arith;
      call = b.call;
      called = at;
      called_before = All-at (λ e. e.ticket < tickets before) (events setting u before) (2 * answers u before) b.call k.1.below at;
      returned = λ ret at'. let past = slice_get_past (events setting u before) (2 * answers u before + 1) (omega (arith, long)) in cc;
      waiting = λ none. (
        effect_answer setting u before,
        refl,
        ap (λ (w : What). kind_of w (return_what (effect_answer setting u before))) b.call_is
            ∙ told_kind b.request (effect_answer setting u before) right ∙ ap (λ (x : OpKind). Some x) (sym kind),
      );
    }
  where
    All-at : {X : Type 0} (P : X → Type 0) (xs : List X) (i : ℕ) (x : X) → All P xs → slice_get xs i ≡ Some x → P x
    All-at {X} P xs i x all at = subst P (get_or_from_slice_get xs i x x at) (all i x (slice_get_within xs i x at))

-- ---- after any honest schedule

-- the effect was taken at this step
abbrev pub IsTakenAt : Setting → List Step → TakenEffect → Type 0
IsTakenAt setting steps x = (x.thread < setting.threads) × IsTaken (tickets steps) (answers x.thread steps) (returns x.thread steps)
    (answered setting x.thread steps) (events setting x.thread steps) x.number x.time x.kind

-- a taken effect stays related after an ask of either kind
taken_asking : (setting : Setting) (u : ℕ) (before : List Step) (x : TakenEffect) (what : What)
    → ((t : ℕ) → CountedAndRecorded setting t before)
    → MayAsk setting u before → IsTakenAt setting before x
    → (x.thread < setting.threads)
    × IsTaken (suc (tickets before)) (answers x.thread before) (returns x.thread before)
    (answered setting x.thread before)
    (with_last (events setting x.thread before) (cond (eqb u x.thread) (Some (record { ticket = tickets before; thread = x.thread; what = what })) None))
    x.number x.time x.kind
taken_asking setting u before x what all may k = elim (cases_eq u x.thread) [
  | inl same ↦
      let m = subst (λ (v : ℕ). MayAsk setting v before) same may in
      let c = (all x.thread).0 in
      rw (eq-eqb u x.thread same)
      (k.0, taken_asked _ _ _ _ _ _ _ _ k.1 _ (omega (arith, c.events_are, c.returned_below, c.answered_below, m.none_pending)))
  | inr other ↦ rw (ne_eqb u x.thread other) (k.0, taken_later _ _ _ _ _ _ _ _ k.1 (suc (tickets before)) (omega arith))
]

-- a taken effect stays related after each honest step
taken_on : (setting : Setting) (step : Step) (starved : Bool) (before : List Step) (x : TakenEffect)
    → ((t : ℕ) → CountedAndRecorded setting t before)
    → without_says (step ∷ before) ≡ true → refusal setting before (record { step = step; starved = starved }) ≡ None
    → IsTakenAt setting before x
    → IsTakenAt setting (step ∷ before) x
taken_on setting (AskEnq u) starved before x all honest none k = taken_asking setting u before x _ all (may_ask setting before u starved none) k
taken_on setting (AskDeq u) starved before x all honest none k = taken_asking setting u before x _ all (may_ask setting before u starved none) k
taken_on setting (Effect u) starved before x all honest none k = elim (cases_eq u x.thread) [
  | inl same ↦
      let e : eqb u x.thread ≡ true = eq-eqb u x.thread same in
      let m = subst (λ (v : ℕ). MayAnswer setting v before) same (may_effect setting before u starved none) in
      rw e (k.0, taken_answered _ _ _ _ _ _ _ _ k.1 _ m.no_answer)
  | inr other ↦ rw (ne_eqb u x.thread other) k
]
taken_on setting (Say u answer) starved before x all honest none k = cc
taken_on setting (Ret u) starved before x all honest none k = elim (cases_eq u x.thread) [
  | inl same ↦
      let e : eqb u x.thread ≡ true = eq-eqb u x.thread same in
      let m = subst (λ (v : ℕ). MayReturn setting v before) same (may_return setting before u starved none) in
      let c = (all x.thread).0 in
      let a = told_last setting x.thread before (all x.thread).1 m.has_answer in
      rw (e, a.1) (
        k.0,
        taken_returned _ _ _ _ _ _ _ _ (rw a.1 at k.1) _ a.0 (omega (arith, c.events_are, c.one_pending, m.one_pending))
            (omega (arith, c.answered_below, c.one_pending)) refl refl refl,
      )
  | inr other ↦ rw (ne_eqb u x.thread other) (k.0, taken_later _ _ _ _ _ _ _ _ k.1 (suc (tickets before)) (omega arith))
]
taken_on setting (Push u) starved before x all honest none k = k
taken_on setting (Drain u n) starved before x all honest none k = k
taken_on setting (Close u) starved before x all honest none k = k

-- the effects in the order of their times, and their kinds in the machine's queue
pub record AreTaken (setting : Setting) (steps : List Step) : Type 0 where
  pub each : All (IsTakenAt setting steps) (taken setting steps)
  pub in_order : AllPairs (λ x y. x.time ≤ y.time) (taken setting steps)
  pub kinds_are : map (λ x. x.kind) (taken setting steps) ≡ effect_kinds setting steps

-- the steps before an honest one are honest
pub later_honest : (step : Step) (before : List Step) → without_says (step ∷ before) ≡ true
    → without_says before ≡ true
later_honest (Say u answer) before honest = cc
later_honest _ before honest = honest

one_effect : (setting : Setting) (u : ℕ) (starved : Bool) (before : List Step)
    → ((t : ℕ) → CountedAndRecorded setting t before)
    → without_says (Effect u ∷ before) ≡ true
    → refusal setting before (record { step = Effect u; starved = starved }) ≡ None
    → AreTaken setting before → AreTaken setting (Effect u ∷ before)
one_effect setting u starved before all honest none k =
    let m = may_effect setting before u starved none in
    let q = asked_last setting u before (all u).1 m.one_pending in
    record {
      each = All-push (IsTakenAt setting (Effect u ∷ before)) (taken setting before) _
          (All-weaker (IsTakenAt setting before) (IsTakenAt setting (Effect u ∷ before))
          (λ x. taken_on setting (Effect u) starved before x all honest none) (taken setting before) k.each)
          (m.known, rw (same_number u) (taken_now setting u before (all u) m));
      in_order = all_pairs_push (λ x y. x.time ≤ y.time) (taken setting before) _ k.in_order (λ i d within. (k.each i d within).1.in_time);
      kinds_are =
          map_push (λ (x : TakenEffect). x.kind) (taken setting before) _
          ∙ ap (λ (l : List OpKind). l ++ kind_now setting u before ∷ []) k.kinds_are
          ∙ ap (λ (kind : OpKind). effect_kinds setting before ++ kind ∷ []) (now_kind setting u before q.0 q.1)
          ∙ ap (λ (o : Option Request). with_last (effect_kinds setting before)
          (option_map (λ asked. kind_told asked (effect_answer setting u before)) o)) (sym q.1);
    }

abbrev HonestlyTaken : Setting → List Step → Type 0
HonestlyTaken setting steps = ((t : ℕ) → CountedAndRecorded setting t steps) × (without_says steps ≡ true → AreTaken setting steps)

same_effects : (setting : Setting) (step : Step) (starved : Bool) (before : List Step)
    → ((t : ℕ) → CountedAndRecorded setting t before)
    → without_says (step ∷ before) ≡ true → refusal setting before (record { step = step; starved = starved }) ≡ None
    → AreTaken setting before →
    All (IsTakenAt setting (step ∷ before)) (taken setting before)
same_effects setting step starved before all honest none k =
    All-weaker (IsTakenAt setting before) (IsTakenAt setting (step ∷ before)) (λ x. taken_on setting step starved before x all honest none)
    (taken setting before) k.each

effects_on : (setting : Setting) (step : Step) (starved : Bool) (before : List Step)
    → ((t : ℕ) → CountedAndRecorded setting t before)
    → without_says (step ∷ before) ≡ true → refusal setting before (record { step = step; starved = starved }) ≡ None
    → AreTaken setting before
    → AreTaken setting (step ∷ before)
effects_on setting (Effect u) starved before all honest none k = one_effect setting u starved before all honest none k
effects_on setting (AskEnq u) starved before all honest none k =
    record { each = same_effects setting (AskEnq u) starved before all honest none k; in_order = k.in_order; kinds_are = k.kinds_are }
effects_on setting (AskDeq u) starved before all honest none k =
    record { each = same_effects setting (AskDeq u) starved before all honest none k; in_order = k.in_order; kinds_are = k.kinds_are }
effects_on setting (Push u) starved before all honest none k =
    record { each = same_effects setting (Push u) starved before all honest none k; in_order = k.in_order; kinds_are = k.kinds_are }
effects_on setting (Say u answer) starved before all honest none k = cc
effects_on setting (Ret u) starved before all honest none k =
    record { each = same_effects setting (Ret u) starved before all honest none k; in_order = k.in_order; kinds_are = k.kinds_are }
effects_on setting (Drain u n) starved before all honest none k =
    record { each = same_effects setting (Drain u n) starved before all honest none k; in_order = k.in_order; kinds_are = k.kinds_are }
effects_on setting (Close u) starved before all honest none k =
    record { each = same_effects setting (Close u) starved before all honest none k; in_order = k.in_order; kinds_are = k.kinds_are }

-- the effects of an honest schedule were taken
pub honestly_taken : (setting : Setting) (schedule : List Attempt) → without_says (accepted setting schedule) ≡ true
    → AreTaken setting (accepted setting schedule)
honestly_taken setting schedule = (after_each setting (HonestlyTaken setting) (
  λ t. recorded setting t [],
  λ honest. record {
    each = All-nil (IsTakenAt setting []);
    in_order =
        λ i j d below within. absurd (omega arith);
    kinds_are = refl;
  },
)
    (λ before attempt k none. (
      λ t. recorded_goes_on setting t before attempt (k.0 t) none,
      λ honest. effects_on setting attempt.step attempt.starved before k.0 honest none (k.1 (later_honest attempt.step before honest)),
    )) schedule).1

-- the operations of the effects
pub effected_are : (setting : Setting) (steps : List Step)
    → map (λ (x : TakenEffect). (x.thread, x.number)) (taken setting steps) ≡ effected steps
effected_are setting [] = refl
effected_are setting (Effect u ∷ before) = map_push (λ (x : TakenEffect). (x.thread, x.number)) (taken setting before) _
    ∙ ap (λ (l : List (ℕ × ℕ)). l ++ (u, answers u before) ∷ []) (effected_are setting before)
effected_are setting (_ ∷ before) = effected_are setting before
