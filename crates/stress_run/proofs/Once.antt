-- One operation of a worker.
use Rattle.std.proofs.Common.{◌≡◌, ℕ, ◌+◌, ◌<◌, ◌≤◌, [], ◌∷◌, ◌++◌, length, All, refl, ap, sym, ◌∙◌}
use Rattle.std.proofs.Common.{arith, subst, append_assoc, length-append, inl, inr}
use Rattle.std.proofs.Common.{true, false}
use Rattle.std.proofs.lemmas.List.Elements.{All-push, All-cons, All-head, All-tail, Contains-push}
use Rattle.std.proofs.lemmas.Bool.{false≢true}
use Rattle.std.specs.List.Sorted.{IsStrictlyIncreasing}
use Rattle.stress_run.proofs.Composed.{rising-join}
use Rattle.tickets.specs.Views.{PassView, DrawnView, DrawsOne}
use Rattle.tickets.specs.Log.{note_at}
use Rattle.tickets.specs.declared.note.Note.{Note}
use Rattle.std.proofs.Common.{Bool, List, Some, Contains}
use Rattle.history_merge.specs.Operations.{kind_of}
use Rattle.stress_run.specs.Noted.{effect_of, kind_noted, NotesOne, IsNoteOf, AreNotesOf, KeepsNotes}
use Rattle.std.proofs.Common.{Result, Ok, Err}
use Rattle.std.specs.Prelude.{IsTrue, OnErr}
use Rattle.event_records.specs.Question.{Answered, NamerView, Question, call_event, call_what, next_question, return_event, return_what, value_name}
use Rattle.event_records.specs.Turns.{answers}
use Rattle.event_records.specs.declared.event.Event.{Event}
use Rattle.event_records.specs.declared.kind.Kind.{Kind}
use Rattle.event_records.specs.declared.kind.Kind.TheVariants.{Enq, Deq}
use Rattle.event_records.specs.declared.kind.Answer.{Answer}
use Rattle.event_records.specs.declared.kind.Answer.TheVariants.{Taken, Not, Got, Empty}
use Rattle.queue_interface.specs.Answers.{IsOfKind}
use Rattle.stress_run.specs.Ends.{EndsView}
use Rattle.stress_run.specs.Operations.{Completed, IsAsked, events_of}
use Rattle.stress_run.specs.Workers.{WorkerView, Works, Stalls}
use Rattle.history_merge.proofs.Lists.{All-left, All-right}

one_rises : (n : ℕ) → IsStrictlyIncreasing (n ∷ [])
one_rises n k h = absurd (omega (arith, h))

module _ (may : Question → Answer → Type 0) where
  works_one : (k : Kind) (w u : WorkerView) (o : Completed) (p : PassView)
      → (o.question.thread ≡ w.thread) × (o.question.key ≡ w.pass.key) × (o.question.number ≡ w.asked) × (o.question.kind ≡ k)
      → IsOfKind o.question.kind o.answer
      → may o.question o.answer
      → (u.thread ≡ w.thread) × (u.ring ≡ w.ring) × (u.asked ≡ w.asked + 1) × (u.sent ≡ w.sent ++ events_of o) × (u.stopped ≡ w.stopped)
      × (u.capacity ≡ w.capacity) × (u.tries ≡ w.tries) × (u.ends ≡ w.ends)
      → DrawsOne w.pass o.question.call p
      → (m : List Note) → DrawsOne (record p { noted = m }) o.ret u.pass
      → Works may (k ∷ []) w u
  works_one k w u o p q of_kind allowed s d m e =
      let drawn : u.pass.drawn ≡ w.pass.drawn ++ (o.question.call ∷ o.ret ∷ []) =
      e.drawn ∙ ap (λ l. l ++ o.ret ∷ []) d.drawn ∙ append_assoc w.pass.drawn (o.question.call ∷ []) (o.ret ∷ []) in
      let grown = ap length drawn ∙ length-append w.pass.drawn (o.question.call ∷ o.ret ∷ []) in
      let later = subst (All (λ t. t < o.ret)) d.drawn e.above in
      record {
        same = record { ends = s.7; thread = s.0; ring = s.1; capacity = s.5; tries = s.6; key = e.key ∙ d.key; share = omega (arith, grown, d.left, e.left) };
        running = s.4;
        asked = s.2;
        left = omega (arith, d.left, e.left);
        events = events_of o;
        operates = record {
          operations = o ∷ [];
          planned = ap (λ x. x ∷ []) q.3;
          numbered = ap (λ x. x ∷ []) q.2;
          all_asked = All-push (IsAsked may w.thread w.pass.key) [] o (λ i x h. absurd (omega (arith, h)))
              (record { of_thread = q.0; of_key = q.1; of_kind = of_kind; allowed = allowed });
          recorded = refl;
        };
        sent = s.3;
        drawn = drawn;
        rising = rising-join (o.question.call ∷ []) (o.ret ∷ []) (one_rises o.question.call) (one_rises o.ret)
            (All-cons (λ t. All (λ u. u < t) (o.question.call ∷ [])) o.ret [] (All-right (λ t. t < o.ret) w.pass.drawn (o.question.call ∷ []) later)
            (λ k x h. absurd (omega (arith, h))));
        above = All-cons (λ t. All (λ u. u < t) w.pass.drawn) o.question.call (o.ret ∷ []) d.above
            (All-cons (λ t. All (λ u. u < t) w.pass.drawn) o.ret [] (All-left (λ t. t < o.ret) w.pass.drawn (o.question.call ∷ []) later)
            (λ k x h. absurd (omega (arith, h))));
      }

-- an answer is of a kind if its return answers a call of that kind
of_kind_called : (k : Kind) (v : ℕ) (a : Answer) → IsTrue (answers (call_what k v) (return_what a)) → IsOfKind k a
of_kind_called Enq v Taken h = tt
of_kind_called Enq v Not h = tt
of_kind_called Enq v (Got x) h = absurd (false≢true h)
of_kind_called Enq v Empty h = absurd (false≢true h)
of_kind_called Deq v Taken h = absurd (false≢true h)
of_kind_called Deq v Not h = absurd (false≢true h)
of_kind_called Deq v (Got x) h = tt
of_kind_called Deq v Empty h = tt

-- an answer is of the question's kind if its return answers the question's call
of_kind : (q : Question) (a : Answer) → IsTrue (answers (call_event q).what (return_what a)) → IsOfKind q.kind a
of_kind q a h = of_kind_called q.kind (value_name q.thread q.number) a h

-- an operation whose return can't be pushed stalls its worker
stalls_after : (k : Kind) (w u : WorkerView) (q : Question) (ret : ℕ) (p : PassView)
    → (q.thread ≡ w.thread) × (q.number ≡ w.asked) × (q.kind ≡ k)
    → (u.thread ≡ w.thread) × (u.ring ≡ w.ring) × (u.sent ≡ w.sent ++ call_event q ∷ []) × (u.stopped ≡ true) × (u.asked ≡ w.asked + 1)
    × (u.capacity ≡ w.capacity) × (u.tries ≡ w.tries) × (u.ends ≡ w.ends)
    → u.capacity ≤ length u.sent
    → w.stopped ≡ false
    → DrawsOne w.pass q.call p
    → (m : List Note) → DrawsOne (record p { noted = m }) ret u.pass
    → Stalls k w u
stalls_after k w u q ret p asked s filled ran d m e =
    let first = ap length d.drawn ∙ length-append w.pass.drawn (q.call ∷ []) in
    let second = ap length e.drawn ∙ length-append p.drawn (ret ∷ []) in
    record {
      same = record { ends = s.7; thread = s.0; ring = s.1; capacity = s.5; tries = s.6; key = e.key ∙ d.key; share = omega (arith, first, second, d.left, e.left) };
      stopped = s.3;
      filled = filled;
      sent = inr (q, asked.0, asked.1, asked.2, s.2);
      draws_few = omega (arith, d.left, e.left);
      asks_one = let one = s.4 in omega (arith, one);
      idle = λ h. absurd (false≢true (sym ran ∙ h));
    }

-- a worker that was stopped before and is unchanged stalls
pub stalls_still : (k : Kind) (w : WorkerView) → w.stopped ≡ true → w.capacity ≤ length w.sent → Stalls k w w
stalls_still k w stopped filled = record {
  same = record { ends = refl; thread = refl; ring = refl; capacity = refl; tries = refl; key = refl; share = refl };
  stopped = stopped;
  filled = filled;
  sent = inl refl;
  draws_few = omega arith;
  asks_one = omega arith;
  idle = λ _. refl;
}

-- an operation whose call can't be pushed stalls its worker
pub stalls_at_call : (k : Kind) (w b u : WorkerView) (p : PassView) (ticket asked : ℕ) → b ≡ w → w.stopped ≡ false → DrawsOne b.pass ticket p
    → asked ≡ b.asked + 1 → u ≡ record b { pass = p; asked = asked; stopped = true } → b.capacity ≤ length b.sent → Stalls k w u
stalls_at_call k w b u p ticket asked opened ran draws counted ended filled =
    let d = subst (λ (x : WorkerView). DrawsOne x.pass ticket p) opened draws in
    let one = subst (λ (x : WorkerView). asked ≡ x.asked + 1) opened counted in
    let grown = ap length d.drawn ∙ length-append w.pass.drawn (ticket ∷ []) in
    subst (Stalls k w) (sym (ended ∙ ap (λ (x : WorkerView). record x { pass = p; asked = asked; stopped = true }) opened)) (record {
      same = record { ends = refl; thread = refl; ring = refl; capacity = refl; tries = refl; key = d.key; share = omega (arith, grown, d.left) };
      stopped = refl;
      filled = subst (λ (x : WorkerView). x.capacity ≤ length x.sent) opened filled;
      sent = inl refl;
      draws_few = omega (arith, d.left);
      asks_one = omega (arith, one);
      idle = λ h. absurd (false≢true (sym ran ∙ h));
    })

-- what holds in any case holds if there is an error
pub on_err : {A E : Type 0} (r : Result A E) (P : Type 0) → P → OnErr r P
on_err (Ok x) P p = tt
on_err (Err e) P p = p

-- the pass has the ticket that it drew last
pub drew_call : (held : List ℕ) (ticket : ℕ) (drawn : List ℕ) (call : ℕ) → drawn ≡ held ++ ticket ∷ [] → call ≡ ticket → Contains drawn call
drew_call held ticket drawn call grown same =
    subst (λ (l : List ℕ). Contains l call) (sym grown) (subst (Contains (held ++ ticket ∷ [])) (sym same) (Contains-push held ticket))

-- one more note, of one more operation
notes_push : (es : List Event) (ns : List Note) (call ret : Event) (n : Note) → AreNotesOf es ns → IsNoteOf call ret n
    → AreNotesOf (es ++ call ∷ ret ∷ []) (ns ++ n ∷ [])
notes_push [] [] call ret n h one = (one, tt)
notes_push [] (x ∷ ns) call ret n h one = absurd h
notes_push (e ∷ []) ns call ret n h one = absurd h
notes_push (e ∷ f ∷ es) [] call ret n h one = absurd h
notes_push (e ∷ f ∷ es) (x ∷ ns) call ret n h one = (h.0, notes_push es ns call ret n h.1 one)

-- the note of an answer has the kind of its operation
kind_is : (k : Kind) (q : Question) (a : Answer) → IsTrue (answers (call_what k (value_name q.thread q.number)) (return_what a))
    → kind_of (call_what k (value_name q.thread q.number)) (return_what a) ≡ Some (kind_noted (effect_of q a))
kind_is Enq q Taken h = refl
kind_is Enq q Not h = refl
kind_is Enq q (Got x) h = absurd (false≢true h)
kind_is Enq q Empty h = absurd (false≢true h)
kind_is Deq q Taken h = absurd (false≢true h)
kind_is Deq q Not h = absurd (false≢true h)
kind_is Deq q (Got x) h = refl
kind_is Deq q Empty h = refl

all_last : (P : Note → Type 0) (ns : List Note) (n : Note) → All P (ns ++ n ∷ []) → P n
all_last P [] n all = All-head P n [] all
all_last P (x ∷ ns) n all = all_last P ns n (All-tail P x (ns ++ n ∷ []) all)

-- the worker after it drew a ticket and sent an event
abbrev sent_by : PassView → Event → WorkerView → WorkerView
sent_by p e w = record w { pass = p; sent = w.sent ++ e ∷ [] }

-- the worker after it drew a ticket, asked at it as its n-th question, and sent the call
abbrev called_by : PassView → ℕ → Event → WorkerView → WorkerView
called_by p n e w = record w { pass = p; asked = n; sent = w.sent ++ e ∷ [] }

-- the worker after it drew a ticket and was stopped
abbrev stopped_by : PassView → WorkerView → WorkerView
stopped_by p w = record w { pass = p; stopped = true }

-- the queue left the worker's ends as they were
pub sent_with : (b v u : WorkerView) (p : PassView) (e : Event) (ends : EndsView) → b ≡ v → ends ≡ b.ends
    → u ≡ record b { pass = p; sent = b.sent ++ e ∷ []; ends = ends } → u ≡ sent_by p e b
sent_with b v u p e ends opened same ended = ended ∙ ap (λ (x : EndsView). record b { pass = p; sent = b.sent ++ e ∷ []; ends = x }) same

pub stopped_with : (b v u : WorkerView) (p : PassView) (ends : EndsView) → b ≡ v → ends ≡ b.ends → u ≡ record b { pass = p; stopped = true; ends = ends }
    → u ≡ stopped_by p b
stopped_with b v u p ends opened same ended = ended ∙ ap (λ (x : EndsView). record b { pass = p; stopped = true; ends = x }) same

-- a worker opened at `b`, with the namer `n`: it draws, asks and sends the call, so that it is at `v`; reopened there
-- it draws again
module _ (k : Kind) (w b v b' u : WorkerView) (n : NamerView) (asked : ℕ) (d : DrawnView) (p r : PassView) (q : Question) (call returned : Event) (m : List Note)
    (opened : b ≡ w) (own : (n.thread ≡ b.thread) × (n.asked ≡ b.asked)) (draws : DrawsOne b.pass d.ticket p)
    (asks : (q ≡ next_question n k d) × (call ≡ call_event q) × (asked ≡ n.asked + 1))
    (called : v ≡ called_by p asked call b)
    (reopened : b' ≡ v) (draws_again : DrawsOne (record b'.pass { noted = m }) returned.ticket r) where
  -- the worker before its second push, by what it was at first
  halfway : b' ≡ called_by p (w.asked + 1) (call_event q) w
  halfway =
      let counted : asked ≡ b.asked + 1 = asks.2 ∙ ap (λ x. x + 1) own.1 in
      reopened ∙ called ∙ ap (λ x. called_by p x call b) counted
      ∙ ap (λ e. called_by p (b.asked + 1) e b) asks.1
      ∙ ap (λ x. called_by p (x.asked + 1) (call_event q) x) opened

  first_draw : DrawsOne w.pass q.call p
  first_draw = subst (λ x. DrawsOne x.pass q.call p) opened (subst (λ t. DrawsOne b.pass t p) (sym (ap (λ x. x.call) asks.0)) draws)

  second_draw : DrawsOne (record p { noted = m }) returned.ticket r
  second_draw = subst (λ x. DrawsOne (record x.pass { noted = m }) returned.ticket r) halfway draws_again

  of_worker : (q.thread ≡ w.thread) × (q.number ≡ w.asked) × (q.kind ≡ k)
  of_worker = (
    ap (λ x. x.thread) asks.0 ∙ own.0 ∙ ap (λ x. x.thread) opened,
    ap (λ x. x.number) asks.0 ∙ own.1 ∙ ap (λ x. x.asked) opened,
    ap (λ x. x.kind) asks.0,
  )

  -- it works, if the queue answered this question and the return of the answer is sent
  pub works_once : (may : Question → Answer → Type 0) (a : Answered) → d.key ≡ w.pass.key → a.question ≡ q → may q a.answer
      → returned ≡ return_event a returned.ticket → IsTrue (answers (call_event a.question).what returned.what)
      → u ≡ sent_by r returned b'
      → Works may (k ∷ []) w u
  works_once may a of_key of_question allowed said answers_call ended =
      let answered_to : Question → Answered = λ x. record { question = x; answer = a.answer } in
      let whole : a ≡ answered_to q = ap answered_to of_question in
      let says : returned ≡ return_event (answered_to q) returned.ticket = said ∙ ap (λ x. return_event x returned.ticket) whole in
      let is_answer = subst (λ x. IsTrue (answers (call_event x).what returned.what)) of_question answers_call in
      let is : u ≡ sent_by r returned (called_by p (w.asked + 1) (call_event q) w) =
      ended ∙ ap (sent_by r returned) halfway in
      works_one may k w u (record { question = q; answer = a.answer; ret = returned.ticket }) p
      (of_worker.0, ap (λ x. x.key) asks.0 ∙ of_key, of_worker.1, of_worker.2)
      (of_kind q a.answer (subst (λ e. IsTrue (answers (call_event q).what e.what)) says is_answer))
      allowed (
        ap (λ x. x.thread) is,
        ap (λ x. x.ring) is,
        ap (λ x. x.asked) is,
        ap (λ x. x.sent) is ∙ append_assoc w.sent (call_event q ∷ []) (returned ∷ []) ∙ ap (λ e. w.sent ++ call_event q ∷ e ∷ []) says,
        ap (λ x. x.stopped) is,
        ap (λ x. x.capacity) is,
        ap (λ x. x.tries) is,
        ap (λ x. x.ends) is,
      )
      first_draw m (subst (DrawsOne (record p { noted = m }) returned.ticket) (sym (ap (λ x. x.pass) is)) second_draw)

  -- it has one more note, if the queue notes its answers
  pub told_once : (notes : Bool) (a : Answered) → a.question ≡ q → returned ≡ return_event a returned.ticket
      → IsTrue (answers (call_event a.question).what returned.what) → u ≡ sent_by r returned b'
      → (notes ≡ true → NotesOne q a.answer b'.pass.noted m) → KeepsNotes notes w u
  told_once notes a of_question said answers_call ended noted on running kept =
      let is : u ≡ sent_by r returned (called_by p (w.asked + 1) (call_event q) w) = ended ∙ ap (sent_by r returned) halfway in
      let one = noted on in
      let note = note_at q.call (effect_of q a.answer) one.0 in
      let before : b'.pass.noted ≡ w.pass.noted = ap (λ x. x.pass.noted) halfway ∙ first_draw.noted in
      let grown : m ≡ w.pass.noted ++ note ∷ [] = one.1 ∙ ap (λ l. l ++ note ∷ []) before in
      let answered_to : Question → Answered = λ x. record { question = x; answer = a.answer } in
      let whole : a ≡ answered_to q = ap answered_to of_question in
      let says : returned ≡ return_event (answered_to q) returned.ticket = said ∙ ap (λ x. return_event x returned.ticket) whole in
      let is_answer = subst (λ x. IsTrue (answers (call_event x).what returned.what)) of_question answers_call in
      let past : All (λ n. n.look ≤ returned.ticket) (w.pass.noted ++ note ∷ []) = subst (All (λ n. n.look ≤ returned.ticket)) grown second_draw.past in
      let all_sent : u.sent ≡ w.sent ++ call_event q ∷ returned ∷ [] = ap (λ x. x.sent) is ∙ append_assoc w.sent (call_event q ∷ []) (returned ∷ []) in
      let all_noted : u.pass.noted ≡ w.pass.noted ++ note ∷ [] = ap (λ x. x.pass.noted) is ∙ second_draw.noted ∙ grown in
      let of_it : IsNoteOf (call_event q) returned note = record {
        called = refl;
        did = subst (λ (e : Event). kind_of (call_event q).what e.what ≡ Some (kind_noted (effect_of q a.answer))) (sym says)
            (kind_is q.kind q a.answer (subst (λ (e : Event). IsTrue (answers (call_event q).what e.what)) says is_answer));
        returned = all_last (λ (n : Note). n.look ≤ returned.ticket) w.pass.noted note past;
      } in
      subst (λ (l : List Event). AreNotesOf l u.pass.noted) (sym all_sent)
      (subst (AreNotesOf (w.sent ++ call_event q ∷ returned ∷ [])) (sym all_noted)
      (notes_push w.sent w.pass.noted (call_event q) returned note kept of_it))

  -- it stalls, if the return finds no room
  pub stalls_once : w.stopped ≡ false → b'.capacity ≤ length b'.sent → u ≡ stopped_by r b' → Stalls k w u
  stalls_once ran filled ended =
      let is : u ≡ stopped_by r (called_by p (w.asked + 1) (call_event q) w) =
      ended ∙ ap (stopped_by r) halfway in
      let full = subst (λ x. x.capacity ≤ length x.sent) halfway filled in
      stalls_after k w u q returned.ticket p of_worker (
        ap (λ x. x.thread) is,
        ap (λ x. x.ring) is,
        ap (λ x. x.sent) is,
        ap (λ x. x.stopped) is,
        ap (λ x. x.asked) is,
        ap (λ x. x.capacity) is,
        ap (λ x. x.tries) is,
        ap (λ x. x.ends) is,
      )
      (subst (λ x. x.capacity ≤ length x.sent) (sym is) full)
      ran first_draw m (subst (DrawsOne (record p { noted = m }) returned.ticket) (sym (ap (λ x. x.pass) is)) second_draw)
