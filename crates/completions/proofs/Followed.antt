-- The operations after one more event, and after events are removed.
use Rattle.std.proofs.Common.{◌≡◌, ℕ, zero, suc, ◌<◌, ◌≤◌, ◌⊎◌, ◌++◌, inl, inr, Bool, true, false, not, List, [], ◌∷◌}
use Rattle.std.proofs.Common.{length, Option, Some, None}
use Rattle.std.proofs.Common.{refl, ap, sym, subst, ◌∙◌, arith}
use Rattle.std.specs.Prelude.{Contains, filter, find, nat_eq, option_and_then, ⊤}
use Rattle.std.specs.List.{cons_option, last_or}
use Rattle.std.specs.Bool.{then_some}
use Rattle.std.specs.Option.{option_or}
use Rattle.std.proofs.lemmas.Bool.{cases_Bool, eq-eqb, eqb-true}
use Rattle.std.proofs.Common.{get_or, length-append}
use Rattle.std.proofs.lemmas.List.{append_assoc, append-nil, get_or_append_left}
use Rattle.std.proofs.lemmas.List.Elements.{filter-append}
use Rattle.std.proofs.lemmas.List.Folds.{find-append}
use Rattle.event_records.specs.declared.event.Event.{Event}
use Rattle.event_records.specs.declared.event.What.{What}
use Rattle.event_records.specs.declared.event.What.TheVariants.{CallEnq, CallDeq, RetEnq, RetNot, RetDeq, RetEmpty}
use Rattle.event_records.specs.Projection.{projection}
use Rattle.event_records.specs.Turns.{is_call, TicketsRise}
use Rattle.history_merge.specs.declared.operation.Operation.{Operation}
use Rattle.history_merge.specs.Faults.{pending_call}
use Rattle.history_merge.specs.Operations.{kind_of, operation_of, operations_of}
use Rattle.history_merge.proofs.Distinct.{contains_cons, not_in_none, one_by_key, pairs_at, place_of, rises_later}
use Rattle.history_merge.proofs.Distinct.{contains_cons_option, behind_option}

-- ---- the last event of a thread

abbrev pub last_of : ℕ → List Event → Option Event
last_of thread events = last_or None (projection thread events)

pub last_or-some : {X : Type 0} (o : Option X) (xs : List X) (x : X) → last_or None xs ≡ Some x → last_or o xs ≡ Some x
last_or-some o [] x is = let clash : None ≡ Some x = is in cc
last_or-some o (y ∷ xs) x is = is

pub last_or-none : {X : Type 0} (xs : List X) → last_or None xs ≡ None → xs ≡ []
last_or-none [] is = refl
last_or-none {X} (y ∷ xs) is = absurd (begun xs y is)
  where
    begun : (ys : List X) (z : X) → last_or (Some z) ys ≡ None → ⊥
    begun [] z e = cc
    begun (w ∷ ys) z e = begun ys w e

-- an event before others of its thread isn't the last
pub last_of-cons : (x : Event) (xs : List Event) (thread : ℕ) (l : Event) → last_of thread xs ≡ Some l
    → last_of thread (x ∷ xs) ≡ Some l
last_of-cons x xs thread l is = elim (cases_Bool (nat_eq x.thread thread)) [
  | inl own ↦ rw own (last_or-some (Some x) (projection thread xs) l is)
  | inr other ↦ rw other is
]

-- if no event of the thread follows, the event is its last
pub last_of-own : (x : Event) (xs : List Event) → last_of x.thread xs ≡ None → last_of x.thread (x ∷ xs) ≡ Some x
last_of-own x xs none = let own = eq-eqb x.thread x.thread refl in let nil = last_or-none (projection x.thread xs) none in rw (own, nil) refl

pub last_of-other : (x : Event) (xs : List Event) (thread : ℕ) → nat_eq x.thread thread ≡ false
    → last_of thread (x ∷ xs) ≡ last_of thread xs
last_of-other x xs thread other = rw other refl

-- no event of the thread is found if the thread has no last event
pub none_of_thread : (xs : List Event) (thread : ℕ) → last_of thread xs ≡ None
    → find (λ r. nat_eq r.thread thread) xs ≡ None
none_of_thread [] thread none = refl
none_of_thread (x ∷ xs) thread none = elim (cases_Bool (nat_eq x.thread thread)) [
  | inl own ↦ let nil : x ∷ projection thread xs ≡ [] = last_or-none (x ∷ projection thread xs) (rw own at none) in cc
  | inr other ↦ rw other (none_of_thread xs thread (rw other at none))
]

pub last_if_none : (xs : List Event) (thread : ℕ) → find (λ r. nat_eq r.thread thread) xs ≡ None
    → last_of thread xs ≡ None
last_if_none [] thread none = refl
last_if_none (x ∷ xs) thread none = elim (cases_Bool (nat_eq x.thread thread)) [
  | inl own ↦ let clash : Some x ≡ None = rw own at none in cc
  | inr other ↦ rw other (last_if_none xs thread (rw other at none))
]

-- ---- operations of calls and returns

pub no_kind : (call answer : What) → is_call call ≡ false → kind_of call answer ≡ None
no_kind (CallEnq v) answer e = cc
no_kind CallDeq answer e = cc
no_kind _ answer e = refl

pub no_kind_of_call : (call next : What) → is_call next ≡ true → kind_of call next ≡ None
no_kind_of_call (CallEnq v) (CallEnq w) e = refl
no_kind_of_call (CallEnq v) CallDeq e = refl
no_kind_of_call CallDeq (CallEnq w) e = refl
no_kind_of_call CallDeq CallDeq e = refl
no_kind_of_call RetEnq next e = refl
no_kind_of_call RetNot next e = refl
no_kind_of_call (RetDeq v) next e = refl
no_kind_of_call RetEmpty next e = refl
no_kind_of_call call RetEnq e = cc
no_kind_of_call call RetNot e = cc
no_kind_of_call call (RetDeq v) e = cc
no_kind_of_call call RetEmpty e = cc

-- the first event of an operation is a call
pub made_by_call : (call answer : Event) (o : Operation) → operation_of call (Some answer) ≡ Some o
    → is_call call.what ≡ true
made_by_call call answer o made = elim (cases_Bool (is_call call.what)) [
  | inl is ↦ is
  | inr isnt ↦ let clash : None ≡ Some o = rw (no_kind call.what answer.what isnt, operation_of) at made in cc
]

-- an optional element, if there is one, comes first
pub head_option : {X : Type 0} (made : Option X) (xs : List X) (o : X) → made ≡ Some o
    → Contains (cons_option made xs) o
head_option made xs o is = rw is (zero, omega arith, refl)

-- operations stay when events are added
pub operations_keep : (xs more : List Event) (o : Operation) → Contains (operations_of xs) o
    → Contains (operations_of (xs ++ more)) o
operations_keep [] more o among = absurd (not_in_none o among)
operations_keep (x ∷ xs) more o among =
    let p : Event → Bool = λ r. nat_eq r.thread x.thread in
    elim (contains_cons_option (operation_of x (find p xs)) (operations_of xs) o among) [
      | inl made ↦ head_option (operation_of x (find p (xs ++ more))) (operations_of (xs ++ more)) o
          (ap (operation_of x) (find-append p xs more) ∙ found (find p xs) refl made)
      | inr there ↦ behind_option (operation_of x (find p (xs ++ more))) (operations_of (xs ++ more)) o (operations_keep xs more o there)
    ]
  where
    found : (f : Option Event) → find (λ r. nat_eq r.thread x.thread) xs ≡ f → operation_of x f ≡ Some o
        → operation_of x (option_or f (find (λ r. nat_eq r.thread x.thread) more)) ≡ Some o
    found None is made = cc
    found (Some r) is made = made

-- the first of these events in the thread of an event
abbrev pub next_after : Event → List Event → Option Event
next_after e later = find (λ r. nat_eq r.thread e.thread) later

-- the return of a pending call makes an operation
pub operations_made : (xs : List Event) (e call : Event) (o : Operation) → last_of e.thread xs ≡ Some call
    → operation_of call (Some e) ≡ Some o
    → Contains (operations_of (xs ++ e ∷ [])) o
operations_made [] e call o last made = let clash : None ≡ Some call = last in cc
operations_made (x ∷ xs) e call o last made = by_later (last_of e.thread xs) refl (λ l is. operations_made xs e call o is made)
  where
    by_later : (l : Option Event) → last_of e.thread xs ≡ l
        → ((m : Event) → last_of e.thread xs ≡ Some call → Contains (operations_of (xs ++ e ∷ [])) o)
        → Contains (operations_of ((x ∷ xs) ++ e ∷ [])) o
    by_later (Some l) is deeper =
        let same : l ≡ call = let whole = last_of-cons x xs e.thread l is in let both : Some l ≡ Some call = sym whole ∙ last in cc in
        behind_option (operation_of x (next_after x (xs ++ e ∷ []))) (operations_of (xs ++ e ∷ [])) o (deeper l (is ∙ ap (λ y. Some y) same))
    by_later None is deeper = elim (cases_Bool (nat_eq x.thread e.thread)) [
      | inl own ↦
          let threads : x.thread ≡ e.thread = eqb-true x.thread e.thread own in
          let same : x ≡ call =
          let whole = last_of-own x xs (ap (λ t. last_of t xs) threads ∙ is) in
          let both : Some x ≡ Some call = sym whole ∙ ap (λ t. last_of t (x ∷ xs)) threads ∙ last in cc in
          let nothing : next_after x xs ≡ None = none_of_thread xs x.thread (ap (λ t. last_of t xs) threads ∙ is) in
          let itself : next_after x (e ∷ []) ≡ Some e = rw (eq-eqb e.thread x.thread (sym threads)) refl in
          let found : next_after x (xs ++ e ∷ []) ≡ Some e = find-append (λ r. nat_eq r.thread x.thread) xs (e ∷ []) ∙ rw (nothing, itself) refl in
          head_option (operation_of x (next_after x (xs ++ e ∷ []))) (operations_of (xs ++ e ∷ [])) o
          (ap (operation_of x) found ∙ ap (λ c. operation_of c (Some e)) same ∙ made)
      | inr other ↦ let clash : None ≡ Some call = sym is ∙ sym (last_of-other x xs e.thread other) ∙ last in cc
    ]

-- no other operation is made by it
pub operations_push : (xs : List Event) (e : Event) (o : Operation) → Contains (operations_of (xs ++ e ∷ [])) o
    → Contains (operations_of xs) o
    ⊎ ((call : Event) × (last_of e.thread xs ≡ Some call) × (operation_of call (Some e) ≡ Some o))
operations_push [] e o among = elim (contains_cons_option (operation_of e None) [] o among) [ inl made ↦ cc | inr none ↦ inl none ]
operations_push (x ∷ xs) e o among =
    elim (contains_cons_option (operation_of x (find (λ r. nat_eq r.thread x.thread) (xs ++ e ∷ []))) (operations_of (xs ++ e ∷ [])) o among) [
      | inl made ↦ by_next (find (λ r. nat_eq r.thread x.thread) xs) refl
          (ap (operation_of x) (sym (find-append (λ r. nat_eq r.thread x.thread) xs (e ∷ []))) ∙ made)
      | inr there ↦ elim (operations_push xs e o there) [
        | inl old ↦ inl (behind_option (operation_of x (find (λ r. nat_eq r.thread x.thread) xs)) (operations_of xs) o old)
        | inr new ↦ inr (new.0, last_of-cons x xs e.thread new.0 new.1, new.2)
      ]
    ]
  where
    by_next : (next : Option Event) → find (λ r. nat_eq r.thread x.thread) xs ≡ next
        → operation_of x (option_or (find (λ r. nat_eq r.thread x.thread) xs)
        (find (λ r. nat_eq r.thread x.thread) (e ∷ []))) ≡ Some o
        → Contains (operations_of (x ∷ xs)) o ⊎ ((call : Event) × (last_of e.thread (x ∷ xs) ≡ Some call) × (operation_of call (Some e) ≡ Some o))
    by_next (Some r) is made = inl (head_option (operation_of x (find (λ r. nat_eq r.thread x.thread) xs)) (operations_of xs) o
        (ap (operation_of x) is ∙ (rw is at made)))
    by_next None is made = elim (cases_Bool (nat_eq e.thread x.thread)) [
      | inl own ↦
          let threads : x.thread ≡ e.thread = sym (eqb-true e.thread x.thread own) in
          let here : operation_of x (Some e) ≡ Some o = rw (is, own) at made in
          let last : last_of e.thread (x ∷ xs) ≡ Some x = ap (λ t. last_of t (x ∷ xs)) (sym threads) ∙ last_of-own x xs (last_if_none xs x.thread is) in
          inr (x, last, here)
      | inr other ↦ let clash : None ≡ Some o = rw (is, other) at made in cc
    ]

-- ---- removed events, each a call and the last event of its thread

abbrev pub OnlyLast : (Event → Bool) → List Event → Type 0
OnlyLast out [] = ⊤
OnlyLast out (e ∷ later) = (out e ≡ true → (is_call e.what ≡ true) × (last_of e.thread later ≡ None)) × OnlyLast out later

abbrev pub keeping : (Event → Bool) → List Event → List Event
keeping out events = filter (λ e. not (out e)) events

-- if no event of the thread follows, none follows among fewer
none_kept : (out : Event → Bool) (e : Event) (xs : List Event) → next_after e xs ≡ None
    → next_after e (keeping out xs) ≡ None
none_kept out e [] none = refl
none_kept out e (x ∷ xs) none = elim (cases_Bool (nat_eq x.thread e.thread)) [
  | inl own ↦ let clash : Some x ≡ None = rw own at none in cc
  | inr other ↦
      let rest = none_kept out e xs (rw other at none) in
      elim (cases_Bool (out x)) [ inl gone ↦ rw gone rest | inr stays ↦ rw (stays, other) rest ]
]

-- the operation of an event and the next one of its thread stays the same
next_kept : (out : Event → Bool) (e : Event) (xs : List Event) → OnlyLast out xs
    → operation_of e (next_after e (keeping out xs)) ≡ operation_of e (next_after e xs)
next_kept out e [] only = refl
next_kept out e (x ∷ xs) only = elim (cases_Bool (nat_eq x.thread e.thread)) [
  | inl own ↦ elim (cases_Bool (out x)) [
    | inl gone ↦
        let last = only.0 gone in
        let threads : x.thread ≡ e.thread = eqb-true x.thread e.thread own in
        let nothing : next_after e xs ≡ None = none_of_thread xs e.thread (ap (λ t. last_of t xs) (sym threads) ∙ last.1) in
        let left : operation_of e (next_after e (keeping out (x ∷ xs))) ≡ None = rw gone (rw (none_kept out e xs nothing) refl) in
        let whole : operation_of e (next_after e (x ∷ xs)) ≡ None = rw own (rw (no_kind_of_call e.what x.what last.0, operation_of) refl) in
        left ∙ sym whole
    | inr stays ↦ rw (stays, own) refl
  ]
  | inr other ↦
      let rest = next_kept out e xs only.1 in
      elim (cases_Bool (out x)) [ inl gone ↦ rw (gone, other) rest | inr stays ↦ rw (stays, other) rest ]
]

-- the operations stay the same
pub operations_kept : (out : Event → Bool) (xs : List Event) → OnlyLast out xs
    → operations_of (keeping out xs) ≡ operations_of xs
operations_kept out [] only = refl
operations_kept out (x ∷ xs) only =
    let rest = operations_kept out xs only.1 in
    elim (cases_Bool (out x)) [
      | inl gone ↦
          let nothing : next_after x xs ≡ None = none_of_thread xs x.thread (only.0 gone).1 in
          rw gone (rw nothing rest)
      | inr stays ↦ rw stays (ap (λ (o : Option Operation). cons_option o (operations_of (keeping out xs))) (next_kept out x xs only.1)
          ∙ ap (λ (os : List Operation). cons_option (operation_of x (next_after x xs)) os) rest)
    ]

-- the events of a list whose tickets rise come after its first
rises_head : (x : Event) (xs : List Event) (e : Event) → TicketsRise (x ∷ xs) → Contains xs e → x.ticket < e.ticket
rises_head x xs e rise among =
    let at = place_of xs e among in
    pairs_at (λ earlier later. earlier.ticket < later.ticket) (x ∷ xs) zero (suc at.0) x e rise (omega arith) refl at.1

-- the last event of a thread is one of its events
pub last_in : (xs : List Event) (thread : ℕ) (l : Event) → last_of thread xs ≡ Some l
    → Contains xs l × (l.thread ≡ thread)
last_in [] thread l last = let clash : None ≡ Some l = last in cc
last_in (x ∷ xs) thread l last = by_rest (last_of thread xs) refl (last_in xs thread)
  where
    by_rest : (m : Option Event) → last_of thread xs ≡ m
        → ((k : Event) → last_of thread xs ≡ Some k → Contains xs k × (k.thread ≡ thread))
        → Contains (x ∷ xs) l × (l.thread ≡ thread)
    by_rest (Some m) is deeper =
        let same : m ≡ l = let both : Some m ≡ Some l = sym (last_of-cons x xs thread m is) ∙ last in cc in
        let found = deeper l (is ∙ ap (λ y. Some y) same) in
        ((suc found.0.0, omega (arith, found.0.1), found.0.2), found.1)
    by_rest None is deeper = elim (cases_Bool (nat_eq x.thread thread)) [
      | inl own ↦
          let threads : x.thread ≡ thread = eqb-true x.thread thread own in
          let whole = last_of-own x xs (ap (λ t. last_of t xs) threads ∙ is) in
          let same : x ≡ l = let both : Some x ≡ Some l = sym whole ∙ ap (λ t. last_of t (x ∷ xs)) threads ∙ last in cc in
          (subst (λ (y : Event). Contains (x ∷ xs) y) same (zero, omega arith, refl), subst (λ (y : Event). y.thread ≡ thread) same threads)
      | inr other ↦ let clash : None ≡ Some l = sym is ∙ sym (last_of-other x xs thread other) ∙ last in cc
    ]

-- each event of a thread comes no later than its last
pub last_above : (xs : List Event) (e : Event) → Contains xs e → TicketsRise xs
    → (l : Event) × (last_of e.thread xs ≡ Some l) × (e.ticket ≤ l.ticket)
last_above [] e among rise = absurd (not_in_none e among)
last_above (x ∷ xs) e among rise = elim (contains_cons x xs e among) [
  | inl here ↦ by_rest here (last_of e.thread xs) refl
  | inr there ↦ let found = last_above xs e there (rises_later x xs rise) in (found.0, last_of-cons x xs e.thread found.0 found.1, found.2)
]
  where
    by_rest : x ≡ e → (m : Option Event) → last_of e.thread xs ≡ m
        → (l : Event) × (last_of e.thread (x ∷ xs) ≡ Some l) × (e.ticket ≤ l.ticket)
    by_rest here (Some m) is =
        let less = rises_head x xs m rise (last_in xs e.thread m is).0 in
        let tickets = ap (λ (y : Event). y.ticket) here in
        (m, last_of-cons x xs e.thread m is, omega (arith, less, tickets))
    by_rest here None is =
        let threads = ap (λ (y : Event). y.thread) here in
        let tickets = ap (λ (y : Event). y.ticket) here in
        (x, ap (λ t. last_of t (x ∷ xs)) (sym threads) ∙ last_of-own x xs (ap (λ t. last_of t xs) threads ∙ is), omega (arith, tickets))

-- a pending call is the last event of its thread
pub pending_is_last : (thread : ℕ) (xs : List Event) (e : Event) → pending_call thread xs ≡ Some e
    → (last_of thread xs ≡ Some e) × (is_call e.what ≡ true)
pending_is_last thread xs e = waits (last_of thread xs)
  where
    waits : (l : Option Event) → option_and_then (λ r. then_some (is_call r.what) r) l ≡ Some e
        → (l ≡ Some e) × (is_call e.what ≡ true)
    waits None is = cc
    waits (Some r) is = elim (cases_Bool (is_call r.what)) [
      | inl call ↦ let same : Some r ≡ Some e = rw call at is in let one : r ≡ e = cc in (same, subst (λ (y : Event). is_call y.what ≡ true) one call)
      | inr other ↦ let clash : None ≡ Some e = rw other at is in cc
    ]

pub last_is_pending : (thread : ℕ) (xs : List Event) (e : Event) → last_of thread xs ≡ Some e → is_call e.what ≡ true
    → pending_call thread xs ≡ Some e
last_is_pending thread xs e last call = rw last (rw call refl)

-- only pending calls are removed
pub only_last : (out : Event → Bool) (events : List Event) → TicketsRise events
    → ((e : Event) → Contains events e → out e ≡ true → pending_call e.thread events ≡ Some e) → OnlyLast out events
only_last out [] rise pending = tt
only_last out (x ∷ xs) rise pending = (here, only_last out xs (rises_later x xs rise) later)
  where
    here : out x ≡ true → (is_call x.what ≡ true) × (last_of x.thread xs ≡ None)
    here gone =
        let is = pending_is_last x.thread (x ∷ xs) x (pending x (zero, omega arith, refl) gone) in
        (is.1, none_behind (last_of x.thread xs) refl is.0)
      where
        none_behind : (l : Option Event) → last_of x.thread xs ≡ l → last_of x.thread (x ∷ xs) ≡ Some x
            → last_of x.thread xs ≡ None
        none_behind None is last = is
        none_behind (Some l) is last =
            let same : l ≡ x = let both : Some l ≡ Some x = sym (last_of-cons x xs x.thread l is) ∙ last in cc in
            let less = rises_head x xs l rise (last_in xs x.thread l is).0 in
            let tickets = ap (λ (y : Event). y.ticket) same in
            absurd (omega (arith, less, tickets))

    later : (e : Event) → Contains xs e → out e ≡ true → pending_call e.thread xs ≡ Some e
    later e among gone =
        let is = pending_is_last e.thread (x ∷ xs) e (pending e (suc among.0, omega (arith, among.1), among.2) gone) in
        let found = last_above xs e among (rises_later x xs rise) in
        let same : found.0 ≡ e = let both : Some found.0 ≡ Some e = sym (last_of-cons x xs e.thread found.0 found.1) ∙ is.0 in cc in
        last_is_pending e.thread xs e (found.1 ∙ ap (λ y. Some y) same) is.1

-- ---- events that are added at the end

-- an operation made by later events is that of one of them and the last event of its thread
pub made_later : (front rest : List Event) (o : Operation) → Contains (operations_of (front ++ rest)) o
    → Contains (operations_of front) o
    ⊎ ((before : List Event) × (r : Event) × (after : List Event) × (call : Event) × (rest ≡ before ++ r ∷ after)
    × (last_of r.thread (front ++ before) ≡ Some call) × (operation_of call (Some r) ≡ Some o))
made_later front [] o among = inl (subst (λ (es : List Event). Contains (operations_of es) o) (append-nil front) among)
made_later front (r ∷ rest) o among =
    let parts : front ++ r ∷ rest ≡ (front ++ r ∷ []) ++ rest = sym (append_assoc front (r ∷ []) rest) in
    elim (made_later (front ++ r ∷ []) rest o (subst (λ (es : List Event). Contains (operations_of es) o) parts among)) [
      | inl old ↦ elim (operations_push front r o old) [
        | inl older ↦ inl older
        | inr (call, last, made) ↦
            inr ([], r, rest, call, refl, subst (λ (es : List Event). last_of r.thread es ≡ Some call) (sym (append-nil front)) last, made)
      ]
      | inr (before, s, after, call, is, last, made) ↦
          let moved : (front ++ r ∷ []) ++ before ≡ front ++ r ∷ before = append_assoc front (r ∷ []) before in
          inr (r ∷ before, s, after, call, ap (λ (es : List Event). r ∷ es) is, subst (λ (es : List Event). last_of s.thread es ≡ Some call) moved last, made)
    ]

-- events of other threads don't change a thread's last event
pub last_of-append : (xs ys : List Event) (thread : ℕ) → last_of thread ys ≡ None
    → last_of thread (xs ++ ys) ≡ last_of thread xs
last_of-append xs ys thread none =
    let nil : projection thread ys ≡ [] = last_or-none (projection thread ys) none in
    let parts : projection thread (xs ++ ys) ≡ projection thread xs = filter-append (λ e. nat_eq e.thread thread) xs ys
    ∙ ap (λ (es : List Event). projection thread xs ++ es) nil ∙ append-nil (projection thread xs) in
    ap (last_or None) parts

-- tickets rise in the front of a list in which they rise
pub rises_front : (xs ys : List Event) → TicketsRise (xs ++ ys) → TicketsRise xs
rises_front xs ys rise i j d below inside =
    let within : j < length (xs ++ ys) = omega (arith, length-append xs ys) in
    let less = rise i j d below within in
    let at_i = get_or_append_left xs ys d i (omega arith) in
    let at_j = get_or_append_left xs ys d j inside in
    subst (λ (e : Event). e.ticket < (get_or xs j d).ticket) at_i (subst (λ (e : Event). (get_or (xs ++ ys) i d).ticket < e.ticket) at_j less)

-- an event is known by its ticket
pub one_by_ticket : (xs : List Event) (e r : Event) → TicketsRise xs → Contains xs e → Contains xs r
    → e.ticket ≡ r.ticket → e ≡ r
one_by_ticket xs e r rise in_e in_r same =
    let at_e = place_of xs e in_e in
    let at_r = place_of xs r in_r in
    (one_by_key (λ (x : Event). x.ticket) xs at_e.0 at_r.0 e r rise at_e.1 at_r.1 same).1
