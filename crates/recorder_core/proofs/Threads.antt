-- The effect of each step on the state of a thread.
use Prim.Native.Nat.compare
use Rattle.std.proofs.Common.{◌≡◌, ℕ, zero, suc, ◌+◌, ◌<◌, ◌≤◌, min, Bool, true, false, not, cond, List, [], ◌∷◌, ◌++◌}
use Rattle.std.proofs.Common.{length, take, drop, Option}
use Rattle.std.proofs.Common.{None, Some, refl, sym, ap, ◌∙◌, inl, inr, arith, eqb, ltb, leb, is_some, length-take}
use Rattle.std.proofs.Common.{length-drop}
use Rattle.std.proofs.lemmas.Bool.{ne_eqb, cases_eq, cases_lt, lt-ltb, le-ltb, le-leb, lt-leb, ltb-true}
use Rattle.std.proofs.Math.Seq.{take-add}
use Rattle.std.proofs.lemmas.List.{take-append-le, drop-append-le, drop-drop, take-take}
use Rattle.std.proofs.lemmas.Option.{slice_get_past}
use Rattle.std.specs.List.{slice_get}
use Rattle.std.specs.Option.{is_none, option_map}
use Rattle.event_records.specs.declared.event.Event.{Event}
use Rattle.recorder_core.specs.declared.step.Step.{Step}
use Rattle.recorder_core.specs.declared.step.Step.TheVariants.{AskEnq, AskDeq, Push, Effect, Say, Ret, Drain, Close}
use Rattle.event_records.specs.declared.kind.Answer.{Answer}
use Rattle.recorder_core.specs.declared.pending.Request.{Request}
use Rattle.recorder_core.specs.declared.pending.Request.TheVariants.{Enqueue, Dequeue}
use Rattle.recorder_core.specs.declared.pending.Pending.{Pending}
use Rattle.recorder_core.specs.Setting.{Setting}
use Rattle.recorder_core.specs.View.{ThreadView}
use Rattle.recorder_core.specs.Inner.Seen.{given_answer}
use Rattle.event_records.specs.Question.{return_what, value_name}
use Rattle.event_records.specs.declared.kind.Kind.{Kind}
use Rattle.event_records.specs.declared.kind.Kind.TheVariants.{Enq, Deq}
use Rattle.recorder_core.specs.Inner.Asked.{ask_of, asked_for, call_of}
use Rattle.recorder_core.specs.Schedule.{asks, answers, returns, pushes, drained, in_ring, tickets, events, with_last}
use Rattle.recorder_core.specs.Schedule.{request, answered}
use Rattle.recorder_core.specs.Schedule.{effect_answer, thread_of}
use Rattle.recorder_core.specs.After.{pending, thread_after}
use Rattle.recorder_core.proofs.Runs.{same_number, MayAsk, MayPush, MayAnswer, MayReturn}
use Rattle.recorder_core.proofs.Counts.{Counted, has_answer}

-- the pending operation of this request
abbrev pub with_answer : Option Answer → Request → Pending
with_answer a q = record { request = q; answer = a }

-- threads that agree in all fields are equal
pub same_view : (a b : ThreadView) → a.closed ≡ b.closed → a.asked ≡ b.asked → a.pending ≡ b.pending → a.held ≡ b.held
    → a.ring ≡ b.ring
    → a.collected ≡ b.collected → a ≡ b
same_view a b p q r s t u =
    ap (λ (x : Bool). record a { closed = x }) p
    ∙ ap (λ (x : ℕ). record a { closed = b.closed; asked = x }) q
    ∙ ap (λ (x : Option Pending). record a { closed = b.closed; asked = b.asked; pending = x }) r
    ∙ ap (λ (x : Option Event). record a { closed = b.closed; asked = b.asked; pending = b.pending; held = x }) s
    ∙ ap (λ (x : List Event). record a { closed = b.closed; asked = b.asked; pending = b.pending; held = b.held; ring = x }) t
    ∙ ap (λ (x : List Event). record b { collected = x }) u

-- the item after a list
pub slice_get_at : {X : Type 0} (xs : List X) (x : X) (n : ℕ) → length xs ≡ n → slice_get (xs ++ x ∷ []) n ≡ Some x
slice_get_at [] x n e = rw (sym e) refl
slice_get_at (y ∷ xs) x zero e = absurd (omega arith)
slice_get_at (y ∷ xs) x (suc n) e = slice_get_at xs x n (omega arith)

-- one more item of a list, if there is one
pub take_next : {X : Type 0} (xs : List X) (n : ℕ) → take (suc n) xs ≡ with_last (take n xs) (slice_get xs n)
take_next [] zero = refl
take_next [] (suc n) = refl
take_next (x ∷ xs) zero = refl
take_next (x ∷ xs) (suc n) = ap (λ l. x ∷ l) (take_next xs n) ∙ joined x (take n xs) (slice_get xs n)
  where
    joined : {Y : Type 0} (y : Y) (ys : List Y) (o : Option Y) → y ∷ with_last ys o ≡ with_last (y ∷ ys) o
    joined y ys None = refl
    joined y ys (Some z) = refl

-- the rest of a list with one more element
pub drop-with_last : {X : Type 0} (n : ℕ) (xs : List X) (o : Option X) → n ≤ length xs
    → drop n (with_last xs o) ≡ with_last (drop n xs) o
drop-with_last n xs None h = refl
drop-with_last n xs (Some x) h = drop-append-le n xs (x ∷ []) h

-- there is an element at a place if and only if it is in range
pub is_some-slice_get : {X : Type 0} (xs : List X) (n : ℕ) → is_some (slice_get xs n) ≡ ltb n (length xs)
is_some-slice_get [] n = sym (le-ltb n 0 (omega arith))
is_some-slice_get (x ∷ xs) zero = sym (lt-ltb 0 (suc (length xs)) (omega arith))
is_some-slice_get (x ∷ xs) (suc n) = rw compare.suc-suc (is_some-slice_get xs n)

-- there is no element at a place if and only if it isn't in range
pub is_none-slice_get : {X : Type 0} (xs : List X) (n : ℕ) → is_none (slice_get xs n) ≡ leb (length xs) n
is_none-slice_get [] n = sym (le-leb 0 n (omega arith))
is_none-slice_get (x ∷ xs) zero = sym (lt-leb (suc (length xs)) 0 (omega arith))
is_none-slice_get (x ∷ xs) (suc n) = rw compare.suc-suc (is_none-slice_get xs n)

-- if a thread has asked, it has a last request
pub has_request : (t : ℕ) (steps : List Step) → 0 < asks t steps → is_some (request t steps) ≡ true
has_request t [] h = absurd (omega arith)
has_request t (AskEnq u ∷ before) h = elim (cases_eq u t) [
  | inl same ↦ let e : eqb u t ≡ true = rw same (same_number t) in rw e refl
  | inr other ↦ rw (ne_eqb u t other) (has_request t before (rw (ne_eqb u t other) at h))
]
has_request t (AskDeq u ∷ before) h = elim (cases_eq u t) [
  | inl same ↦ let e : eqb u t ≡ true = rw same (same_number t) in rw e refl
  | inr other ↦ rw (ne_eqb u t other) (has_request t before (rw (ne_eqb u t other) at h))
]
has_request t (Push u ∷ before) h = has_request t before h
has_request t (Effect u ∷ before) h = has_request t before h
has_request t (Say u answer ∷ before) h = has_request t before h
has_request t (Ret u ∷ before) h = has_request t before h
has_request t (Drain u k ∷ before) h = has_request t before h
has_request t (Close u ∷ before) h = has_request t before h

-- a step of another thread changes nothing
pub other_thread : (setting : Setting) (t : ℕ) (step : Step) (before : List Step) → (thread_of step ≡ t → ⊥)
    → thread_after setting t (step ∷ before) ≡ thread_after setting t before
other_thread setting t (AskEnq u) before ne = rw (ne_eqb u t ne) refl
other_thread setting t (AskDeq u) before ne = rw (ne_eqb u t ne) refl
other_thread setting t (Push u) before ne = rw (ne_eqb u t ne) refl
other_thread setting t (Effect u) before ne = rw (ne_eqb u t ne) refl
other_thread setting t (Say u answer) before ne = rw (ne_eqb u t ne) refl
other_thread setting t (Ret u) before ne = rw (ne_eqb u t ne) refl
other_thread setting t (Drain u k) before ne = rw (ne_eqb u t ne) refl
other_thread setting t (Close u) before ne = rw (ne_eqb u t ne) refl

module _ (setting : Setting) (u : ℕ) (before : List Step) (k : Counted setting u before) where
  -- one more event changes neither the collected events nor those in the ring
  ring_kept : (event : Event)
      → drop (drained u before) (take (pushes u before) (events setting u before ++ event ∷ []))
      ≡ drop (drained u before)
      (take (pushes u before) (events setting u before))
  ring_kept event = ap (drop (drained u before)) (take-append-le (pushes u before) (events setting u before) (event ∷ []) (omega arith))

  collected_kept : (event : Event)
      → take (drained u before) (events setting u before ++ event ∷ [])
      ≡ take (drained u before) (events setting u before)
  collected_kept event = take-append-le (drained u before) (events setting u before) (event ∷ []) (omega arith)

  new_pending : (asked : Request) → MayAsk setting u before →
      cond (ltb (returns u before) (suc (asks u before))) (option_map
      (with_answer (cond (ltb (returns u before) (answers u before)) (answered setting u before) None)) (Some asked)) None
      ≡ Some (record { request = asked; answer = None })
  new_pending asked m =
      let e1 : ltb (returns u before) (suc (asks u before)) ≡ true = lt-ltb (returns u before) (suc (asks u before)) (omega arith) in
      let e2 : ltb (returns u before) (answers u before) ≡ false = le-ltb (returns u before) (answers u before) (omega arith) in
      rw (e1, e2) refl

  -- after an ask the call of its thread is pending and held
  pub own_ask : MayAsk setting u before → (kind : Kind)
      → thread_after setting u (ask_of kind u ∷ before) ≡ record (thread_after setting u before) {
        asked = asks u before + 1;
        pending = Some (record { request = asked_for kind u (asks u before); answer = None });
        held = Some (record { ticket = tickets before; thread = u; what = call_of (asked_for kind u (asks u before)) });
      }
  own_ask m Enq = rw (same_number u) (same_view _ _ refl (omega arith) (new_pending (Enqueue (value_name u (asks u before))) m)
      (slice_get_at (events setting u before) _ (pushes u before) (omega arith)) (ring_kept _) (collected_kept _))
  own_ask m Deq = rw (same_number u) (same_view _ _ refl (omega arith) (new_pending Dequeue m)
      (slice_get_at (events setting u before) _ (pushes u before) (omega arith)) (ring_kept _) (collected_kept _))

  -- a push moves the held event of its thread into the ring
  pub own_push : MayPush setting u before
      → thread_after setting u (Push u ∷ before) ≡ record (thread_after setting u before) {
        held = None;
        ring = with_last (thread_after setting u before).ring (thread_after setting u before).held;
      }
  own_push m = rw (same_number u) (same_view _ _ refl refl refl
      (slice_get_past (events setting u before) (suc (pushes u before)) (omega arith))
      (ap (drop (drained u before)) (take_next (events setting u before) (pushes u before))
      ∙ drop-with_last (drained u before) (take (pushes u before) (events setting u before)) (slice_get (events setting u before) (pushes u before))
      (omega (arith, length-take (pushes u before) (events setting u before))))
      refl)

  own_answer : MayAnswer setting u before → (asked : Request) (answer : Answer) → request u before ≡ Some asked →
      cond (ltb (returns u before) (asks u before)) (option_map (with_answer
      (cond (ltb (returns u before) (suc (answers u before))) (Some answer) None)) (request u before)) None
      ≡ Some (record { request = asked; answer = Some answer })
  own_answer m asked answer is =
      let e1 : ltb (returns u before) (asks u before) ≡ true = lt-ltb (returns u before) (asks u before) m.one_pending in
      let e2 : ltb (returns u before) (suc (answers u before)) ≡ true = lt-ltb (returns u before) (suc (answers u before)) (omega arith) in
      rw (e1, e2, is) refl

  -- an effect gives the pending operation of its thread the queue's answer
  pub own_effect : MayAnswer setting u before → (asked : Request) → request u before ≡ Some asked →
      thread_after setting u (Effect u ∷ before) ≡ record (thread_after setting u before)
      { pending = Some (record { request = asked; answer = Some (effect_answer setting u before) }) }
  own_effect m asked is = rw (same_number u) (same_view _ _ refl refl (own_answer m asked (effect_answer setting u before) is) refl refl refl)

  -- a say gives the pending operation of its thread that answer
  pub own_say : MayAnswer setting u before → (asked : Request) (answer : Answer) → request u before ≡ Some asked →
      thread_after setting u (Say u answer ∷ before) ≡ record (thread_after setting u before)
      { pending = Some (record { request = asked; answer = Some answer }) }
  own_say m asked answer is = rw (same_number u) (same_view _ _ refl refl (own_answer m asked answer is) refl refl refl)

  -- the answer of the pending operation
  pub answer_of_pending : MayReturn setting u before → (answer : Answer)
      → given_answer (pending setting u before) ≡ Some answer
      → answered setting u before ≡ Some answer
  answer_of_pending m answer is =
      let e1 : ltb (returns u before) (asks u before) ≡ true = lt-ltb (returns u before) (asks u before) m.one_pending in
      let e2 : ltb (returns u before) (answers u before) ≡ true = lt-ltb (returns u before) (answers u before) m.has_answer in
      of_map (request u before) (rw (e1, e2) at is)
    where
      of_map : (o : Option Request)
          → given_answer (option_map (with_answer (answered setting u before)) o) ≡ Some answer
          → answered setting u before ≡ Some answer
      of_map None h = cc
      of_map (Some q) h = h

  -- after a return its event is held, and nothing is pending
  pub own_return : MayReturn setting u before → (answer : Answer) → answered setting u before ≡ Some answer
      → thread_after setting u (Ret u ∷ before) ≡ record (thread_after setting u before) {
        pending = None;
        held = Some (record { ticket = tickets before; thread = u; what = return_what answer });
      }
  own_return m answer is =
      let e : ltb (suc (returns u before)) (asks u before) ≡ false = le-ltb (suc (returns u before)) (asks u before) k.one_pending in
      rw (same_number u, is) (same_view _ _ refl refl (rw e refl)
      (slice_get_at (events setting u before) _ (pushes u before) (omega arith)) (ring_kept _) (collected_kept _))

  -- a drain moves the first events of its thread's ring to the collected ones
  pub own_drain : (n : ℕ) → let m = min n (in_ring u before) in thread_after setting u (Drain u n ∷ before) ≡ record (thread_after setting u before) {
    ring = drop m (thread_after setting u before).ring;
    collected = (thread_after setting u before).collected ++ take m (thread_after setting u before).ring;
  }
  own_drain n =
      let d = drained u before in let p = pushes u before in let l = events setting u before in
      let m = min n (in_ring u before) in
      let fits : d + m ≤ p = omega arith in
      rw (same_number u) (same_view _ _ refl refl refl refl
      (sym (drop-drop m d (take p l)))
      (sym (take-take (d + m) p l fits) ∙ take-add d m (take p l) ∙ ap (λ (x : List Event). x ++ take m (drop d (take p l))) (take-take d p l (omega arith))))

  -- after a close its thread is closed
  pub own_close : thread_after setting u (Close u ∷ before) ≡ record (thread_after setting u before) { closed = true }
  own_close = rw (same_number u) refl

  -- a thread holds an event if it pushed fewer than it asked and returned
  pub seen_held : is_some (thread_after setting u before).held
      ≡ ltb (pushes u before) (asks u before + returns u before)
  seen_held = is_some-slice_get (events setting u before) (pushes u before) ∙ ap (ltb (pushes u before)) k.events_are

  -- a thread holds no event if it pushed as many as it asked and returned
  pub seen_none_held : is_none (thread_after setting u before).held
      ≡ leb (asks u before + returns u before) (pushes u before)
  seen_none_held = is_none-slice_get (events setting u before) (pushes u before) ∙ ap (λ (n : ℕ). leb n (pushes u before)) k.events_are

  -- the number of events in a ring, by the counts
  pub seen_ring : length (thread_after setting u before).ring ≡ in_ring u before
  seen_ring = omega (
    arith,
    length-drop (drained u before) (take (pushes u before) (events setting u before)),
    length-take (pushes u before)
        (events setting u before),
  )

  is_some-mapped : {X Y : Type 0} (f : X → Y) (o : Option X) → is_some o ≡ true
      → (is_some (option_map f o) ≡ true) × (is_none (option_map f o) ≡ false)
  is_some-mapped f None h = cc
  is_some-mapped f (Some x) h = (refl, refl)

  -- an operation is pending if more were asked than returned
  pub seen_pending : (is_some (thread_after setting u before).pending ≡ ltb (returns u before) (asks u before))
      × (is_none (thread_after setting u before).pending ≡ leb (asks u before) (returns u before))
  seen_pending = elim (cases_lt (returns u before) (asks u before)) [
    | inl less ↦
        let e1 : ltb (returns u before) (asks u before) ≡ true = lt-ltb (returns u before) (asks u before) less in
        let e2 : leb (asks u before) (returns u before) ≡ false = lt-leb (asks u before) (returns u before) less in
        let some : is_some (request u before) ≡ true = has_request u before (omega arith) in
        rw (e1, e2) (is_some-mapped _ (request u before) some)
    | inr more ↦
        let e1 : ltb (returns u before) (asks u before) ≡ false = le-ltb (returns u before) (asks u before) more in
        let e2 : leb (asks u before) (returns u before) ≡ true = le-leb (asks u before) (returns u before) more in
        rw (e1, e2) (refl, refl)
  ]

  given-mapped : (f : Request → Pending) (a : Option Answer) → ((q : Request) → (f q).answer ≡ a)
      → (o : Option Request) → is_some o ≡ true
      → given_answer (option_map f o) ≡ a
  given-mapped f a h None s = cc
  given-mapped f a h (Some q) s = h q

  -- the answer of the pending operation
  pub given : returns u before < asks u before → given_answer (thread_after setting u before).pending ≡ cond
      (ltb (returns u before) (answers u before)) (answered setting u before) None
  given less =
      let e1 : ltb (returns u before) (asks u before) ≡ true = lt-ltb (returns u before) (asks u before) less in
      let some : is_some (request u before) ≡ true = has_request u before (omega arith) in
      rw e1 (given-mapped _ (cond (ltb (returns u before) (answers u before)) (answered setting u before) None) (λ q. refl) (request u before) some)

  some_or_none : (b : Bool) (o : Option Answer) → (b ≡ true → is_some o ≡ true)
      → (is_some (cond b o None) ≡ b) × (is_none (cond b o None) ≡ not b)
  some_or_none true o h = let e = h refl in (e, ap not e)
  some_or_none false o h = (refl, refl)

  not-ltb : (a b : ℕ) → not (ltb a b) ≡ leb b a
  not-ltb a b = elim (cases_lt a b) [
    | inl less ↦ rw (lt-ltb a b less, lt-leb b a less) refl
    | inr more ↦ rw (le-ltb a b more, le-leb b a more) refl
  ]

  -- the pending operation has its answer if more were answered than returned
  pub seen_given : (is_some (given_answer (thread_after setting u before).pending)
      ≡ ltb (returns u before) (answers u before))
      × (is_none (given_answer (thread_after setting u before).pending) ≡ leb (answers u before) (returns u before))
  seen_given = elim (cases_lt (returns u before) (asks u before)) [
    | inl less ↦
        let g = given less in
        let p = some_or_none (ltb (returns u before) (answers u before)) (answered setting u before)
        (λ e. has_answer setting u before (let f : returns u before < answers u before = ltb-true (returns u before) (answers u before) e in
        omega arith)) in
        (ap is_some g ∙ p.0, ap is_none g ∙ p.1 ∙ not-ltb (returns u before) (answers u before))
    | inr more ↦
        let e1 : ltb (returns u before) (asks u before) ≡ false = le-ltb (returns u before) (asks u before) more in
        let e2 : ltb (returns u before) (answers u before) ≡ false = le-ltb (returns u before) (answers u before) (omega arith) in
        let e3 : leb (answers u before) (returns u before) ≡ true = le-leb (answers u before) (returns u before) (omega arith) in
        rw (e1, e2, e3) (refl, refl)
  ]
