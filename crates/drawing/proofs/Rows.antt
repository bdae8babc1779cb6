-- Rows are in the order of time.
use Rattle.drawing.proofs.Common.{add-one, ap, ap₂, arith, cases_lt, Claimed, common_steps, cond, cond_both, Contains}
use Rattle.drawing.proofs.Common.{Contains-append_left, Contains-append_right, Contains-permutation, contains_at}
use Rattle.drawing.proofs.Common.{contains_cons, effect_if, effect_rows, enumerate_from, eq-eqb, eqb-true, Event}
use Rattle.drawing.proofs.Common.{event_rows, events_in, EventsAreCounted, false, flat_map, fold}
use Rattle.drawing.proofs.Common.{get_or-enumerate_from, get_or_from_slice_get, has_row, HistoryView, initial_row}
use Rattle.drawing.proofs.Common.{initial_rows, InitialRowsAreFirst, InitialValuesHaveRows, inl, inr}
use Rattle.drawing.proofs.Common.{IsPermutation-sym, left_out_rows, length, length-enumerate_from, List, max, nat_eq}
use Rattle.drawing.proofs.Common.{nat_tests, not_in_none, one_at, Operation, operation_within, operations_of}
use Rattle.drawing.proofs.Common.{OperationsHaveRows, pairs_at, passes_filter, point, Precedes, refl}
use Rattle.drawing.proofs.Common.{returns_at_no_call, Row}
use Rattle.drawing.proofs.Common.{row_number, rows_after, rows_of, RowsRise, RowsTellPrecedence, slice_get}
use Rattle.drawing.proofs.Common.{slice_get-get_or, slice_get_within, Some, stands_above, subst, suc, sum_by}
use Rattle.drawing.proofs.Common.{sum_by-append, sum_by-cons}
use Rattle.drawing.proofs.Common.{sym, take, traced, true, values_left_out, Yes, zero, zero-add, [], ℕ, ◌++◌, ◌+◌, ◌-◌}
use Rattle.drawing.proofs.Common.{◌<◌, ◌||◌, ◌∙◌, ◌∷◌}
use Rattle.drawing.proofs.Common.{◌≡◌, ◌≤◌, ◌⊎◌}
use Rattle.history_merge.specs.Legal.{IsLegalOrder}
use Rattle.drawing.specs.Laws.{EffectRowsAreInBars, EffectRowsRise, EffectsAreInBars, EffectsHaveRows, EffectsRise}
use Rattle.drawing.specs.Laws.{Matters, values_in, ValuesAreCounted}
use Rattle.drawing.specs.Claim.{order_of, shown_by}
use Rattle.drawing.specs.Drawn.{drawn_initial, has_value, is_drawn_initial, is_initial}
use Rattle.history_merge.proofs.Lists.{no_longer}
use Rattle.claims.specs.declared.claimed.ClaimLine.TheVariants as line
use Rattle.drawing.specs.declared.scene.Row.TheVariants.{Effect, Head, Initial, Ticket}
use Rattle.drawing.proofs.Below.{fewer, one_fewer}
use Rattle.drawing.proofs.Nearness.{any_of}
use Rattle.history_merge.proofs.Lists.{into_flat_map}

-- ---- the effects of a `YES`, and the numbers of a claim

-- the greatest call so far
abbrev greatest_from : ℕ → List Operation → ℕ
greatest_from g operations = fold (λ greatest o. max greatest o.call) g operations

-- the greatest call is at least the number that it starts from
from_rises : (g : ℕ) (operations : List Operation) → g ≤ greatest_from g operations
from_rises g [] = omega arith
from_rises g (o ∷ rest) = let more = from_rises (max g o.call) rest in omega arith

-- the greatest call rises with more operations
longer : (g : ℕ) (operations : List Operation) (m n : ℕ) → m ≤ n
    → greatest_from g (take m operations) ≤ greatest_from g (take n operations)
longer g operations zero n le = from_rises g (take n operations)
longer g operations (suc m) zero le = absurd (omega arith)
longer g [] (suc m) (suc n) le = omega arith
longer g (o ∷ rest) (suc m) (suc n) le = longer (max g o.call) rest m n (omega arith)

-- effects rise in the order of a `YES`
pub effects_rise : EffectsRise
effects_rise order i j le = longer 0 order (i + 1) (j + 1) (omega arith)

-- the call of the operation at a place is at most the point there
call_at_most : (g : ℕ) (order : List Operation) (i : ℕ) (o : Operation) → slice_get order i ≡ Some o
    → o.call ≤ greatest_from g (take (suc i) order)
call_at_most g [] i o at = absurd (cc)
call_at_most g (x ∷ rest) zero o at = let same : x ≡ o = cc in let more = from_rises (max g x.call) (take zero rest) in let e : x.call ≡ o.call =
    ap (λ y. y.call) same in omega arith
call_at_most g (x ∷ rest) (suc i) o at = call_at_most (max g x.call) rest i o at

-- a property of each call holds of the greatest
of_greatest : (P : ℕ → Type 0) (g : ℕ) (order : List Operation) (k : ℕ) → P g
    → ((j : ℕ) (o : Operation) → j < k → slice_get order j ≡ Some o → P o.call)
    → P (greatest_from g (take k order))
of_greatest P g order zero holds each = holds
of_greatest P g [] (suc k) holds each = holds
of_greatest P g (x ∷ rest) (suc k) holds each =
    of_greatest P (max g x.call) rest k (either (cases_lt g x.call)) (λ j o less at. each (suc j) o (omega arith) at)
  where
    either : (g < x.call) ⊎ (x.call ≤ g) → P (max g x.call)
    either (inl less) = let e : x.call ≡ max g x.call = omega arith in subst P e (each zero x (omega arith) refl)
    either (inr no_more) = let e : g ≡ max g x.call = omega arith in subst P e holds

-- an operation of a linearization takes effect just after the event of a call
pub point_is_a_call : (initial : List ℕ) (events : List Event) (order : List Operation) (i : ℕ) (o : Operation)
    → IsLegalOrder initial (operations_of events) order → slice_get order i ≡ Some o
    → (e : Event) × (Contains events e) × ((o : Operation) × Contains (operations_of events) o × (o.call ≡ e.ticket))
    × (e.ticket ≡ point order i)
point_is_a_call initial events [] i o legal at = absurd (cc)
point_is_a_call initial events (x ∷ rest) i o legal at =
    let first : max 0 x.call ≡ x.call = omega arith in
    rw add-one (of_greatest IsTicket (max 0 x.call) rest i (subst IsTicket (sym first) (called x 0 refl)) (λ j p less here. called p (suc j) here))
  where
    IsTicket : ℕ → Type 0
    IsTicket t = (e : Event) × (Contains events e) × ((o : Operation) × Contains (operations_of events) o × (o.call ≡ e.ticket)) × (e.ticket ≡ t)

    called : (p : Operation) (j : ℕ) → slice_get (x ∷ rest) j ≡ Some p → IsTicket p.call
    called p j here =
        let among = Contains-permutation (x ∷ rest) (operations_of events) p (IsPermutation-sym (operations_of events) (x ∷ rest) legal.holds_each_once)
        (contains_at (x ∷ rest) j p here) in
        let t = traced events p among in
        (t.call, contains_at events t.called_at t.call t.at_call, (p, among, t.made.called), sym t.made.called)

-- effects of a linearization are within the bars
pub effects_are_in_bars : EffectsAreInBars
effects_are_in_bars initial events order i o complete legal at = (called, below)
  where
    listed : (x : Operation) (j : ℕ) → slice_get order j ≡ Some x → Contains (operations_of events) x
    listed x j here = Contains-permutation order (operations_of events) x (IsPermutation-sym (operations_of events) order legal.holds_each_once)
        (contains_at order j x here)

    called : o.call ≤ point order i
    called = rw add-one (call_at_most 0 order i o at)

    each : (j : ℕ) (x : Operation) → j < i + 1 → slice_get order j ≡ Some x → x.call < o.ret
    each j x less here = elim (cases_lt j i) [
      | inl earlier ↦
          let apart = pairs_at (λ e l. ¬ (Precedes l e)) order j i x o legal.extends_precedence earlier here at in
          let differs = returns_at_no_call events o x complete (listed o i at) (listed x j here) in
          omega (arith, apart, differs)
      | inr above ↦
          let same : j ≡ i = omega arith in
          let one = one_at order i x o (subst (λ k. slice_get order k ≡ Some x) same here) at in
          let rises = (operation_within events o complete (listed o i at)).0 in
          let e : x.call ≡ o.call = ap (λ y. y.call) one in
          omega arith
    ]

    below : point order i < o.ret
    below = of_greatest (λ n. n < o.ret) 0 order (i + 1) (let rises = (operation_within events o complete (listed o i at)).0 in omega arith) each

-- ---- rows are in the order of time

-- ---- numbers rise

pub rows_rise : RowsRise
unfolding row_number
rows_rise rows other r among above =
    let more = one_fewer (λ a. stands_above a other) (λ a. stands_above a r) (λ a higher. grind (arith, nat_tests)) rows other among
    (grind (arith, nat_tests)) above in
    omega arith

-- rows of earlier tickets aren't lower
no_lower : (rows : List Row) (s t : ℕ) → s ≤ t → row_number rows (Ticket s) ≤ row_number rows (Ticket t)
unfolding row_number
no_lower rows s t no_later = fewer (λ a. stands_above a (Ticket s)) (λ a. stands_above a (Ticket t)) (λ a higher. grind (arith, nat_tests)) rows

-- ---- rows of their own

in_enumerated : {X : Type 0} (xs : List X) (i : ℕ) (x : X) → slice_get xs i ≡ Some x
    → Contains (enumerate_from 0 xs) (i, x)
in_enumerated xs i x at =
    let within = slice_get_within xs i x at in
    let here = get_or-enumerate_from 0 xs i (i, x) within in
    (i, omega (arith, length-enumerate_from 0 xs), here ∙ ap₂ (λ n y. (n, y)) (zero-add i) (get_or_from_slice_get xs i x x at))

-- a drawn initial value is among the rows of initial values, if there are any
in_initial_rows : (initial drawn : List ℕ) (j v : ℕ) → 0 < length initial → slice_get drawn j ≡ Some v
    → Contains (initial_rows initial drawn) (Initial j v)
in_initial_rows [] drawn j v some at = absurd (omega arith)
in_initial_rows (front ∷ others) drawn j v some at =
    let own = flat_map initial_row (enumerate_from 0 drawn) in
    let rest = values_left_out (length (front ∷ others) - length drawn) (length drawn) in
    Contains-append_right (Head ∷ []) (own ++ rest) (Initial j v) (Contains-append_left own rest (Initial j v)
    (into_flat_map initial_row (enumerate_from 0 drawn) (j, v) (Initial j v) (in_enumerated drawn j v at) (contains_at (Initial j v ∷ []) 0 (Initial j v) refl)))

-- so it is among all rows
drawn_has_row : (history : HistoryView) (claimed : Claimed) (drawn : List Operation) (j v : ℕ)
    → slice_get (drawn_initial history claimed drawn) j ≡ Some v
    → Contains (rows_of history claimed drawn) (Initial j v)
unfolding rows_of
drawn_has_row history claimed drawn j v at =
    let values = drawn_initial history claimed drawn in
    let within = slice_get_within values j v at in
    let fewer = no_longer (is_drawn_initial claimed drawn) history.initial in
    Contains-append_left (initial_rows history.initial values) (rows_after drawn (order_of claimed) 0 0 history.events) (Initial j v)
    (in_initial_rows history.initial values j v (omega arith) at)

-- an initial value that matters is drawn
matters_is_drawn : (claimed : Claimed) (drawn : List Operation) (v : ℕ) → Matters claimed drawn v
    → is_drawn_initial claimed drawn v ≡ true
matters_is_drawn claimed drawn v (inl listed) =
    let is = any_of (is_initial v) (shown_by claimed) (line.Initial v) listed (eq-eqb v v refl) in grind (arith, is)
matters_is_drawn claimed drawn v (inr (o, among, has)) =
    let is = any_of (λ o. has_value v o.kind) drawn o among has in grind (arith, is)

pub initial_values_have_rows : InitialValuesHaveRows
initial_values_have_rows history claimed drawn v among matters =
    let values = drawn_initial history claimed drawn in
    let kept = passes_filter (is_drawn_initial claimed drawn) history.initial v (matters_is_drawn claimed drawn v matters) among in
    (kept.0, drawn_has_row history claimed drawn kept.0 v (slice_get-get_or values kept.0 v kept.1 ∙ ap Some kept.2))

-- the row of an event that has its own is one of all rows
module _ (drawn order : List Operation) (e : Event) (r : Row)
    (own : has_row drawn e.ticket ≡ true) (here : Contains (event_rows order e) r) where
  in_rows_after : (count last : ℕ) (events : List Event) → Contains events e
      → Contains (rows_after drawn order count last events) r
  in_rows_after count last [] among = absurd (not_in_none e among)
  in_rows_after count last (x ∷ later) among =
      cond_both (has_row drawn x.ticket) (left_out_rows count last ++ (event_rows order x ++ rows_after drawn order 0 last later))
      (rows_after drawn order (count + 1) x.ticket later) (λ rows. Contains rows r)
      (λ is. Contains-append_right (left_out_rows count last) (event_rows order x ++ rows_after drawn order 0 last later) r
      (elim (contains_cons x later e among) [
        | inl same ↦ Contains-append_left (event_rows order x) (rows_after drawn order 0 last later) r
            (subst (λ y. Contains (event_rows order y) r) (sym same) here)
        | inr there ↦ Contains-append_right (event_rows order x) (rows_after drawn order 0 last later) r (in_rows_after 0 last later there)
      ]))
      (λ is. elim (contains_cons x later e among) [
        | inl same ↦ let clash : false ≡ true = sym is ∙ ap (λ (y : Event). has_row drawn y.ticket) same ∙ own in cc
        | inr there ↦ in_rows_after (count + 1) x.ticket later there
      ])

with_event : (history : HistoryView) (claimed : Claimed) (drawn : List Operation) (e : Event) (r : Row)
    → Contains history.events e
    → has_row drawn e.ticket ≡ true → Contains (event_rows (order_of claimed) e) r
    → Contains (rows_of history claimed drawn) r
unfolding rows_of
with_event history claimed drawn e r among own here =
    Contains-append_right (initial_rows history.initial (drawn_initial history claimed drawn))
    (rows_after drawn (order_of claimed) 0 0 history.events) r
    (in_rows_after drawn (order_of claimed) e r own here 0 0 history.events among)

-- the event of a drawn operation has its own row
has_own : (drawn : List Operation) (o : Operation) (ticket : ℕ) → Contains drawn o
    → (o.call ≡ ticket) ⊎ (o.ret ≡ ticket) → has_row drawn ticket ≡ true
has_own drawn o ticket among at = any_of (λ o. nat_eq o.call ticket || nat_eq o.ret ticket) drawn o among (grind (arith, nat_tests, at))

pub operations_have_rows : OperationsHaveRows
operations_have_rows history claimed drawn o among drawn_too =
    let t = traced history.events o among in (
      subst (λ n. Contains (rows_of history claimed drawn) (Ticket n)) (sym t.made.called)
          (with_event history claimed drawn t.call (Ticket t.call.ticket) (contains_at history.events t.called_at t.call t.at_call)
          (has_own drawn o t.call.ticket drawn_too (inl t.made.called))
          (contains_at (event_rows (order_of claimed) t.call) 0 (Ticket t.call.ticket) refl)),
      subst (λ n. Contains (rows_of history claimed drawn) (Ticket n)) (sym t.made.returned)
          (with_event history claimed drawn t.answer (Ticket t.answer.ticket) (contains_at history.events t.returned_at t.answer t.at_return)
          (has_own drawn o t.answer.ticket drawn_too (inr t.made.returned))
          (contains_at (event_rows (order_of claimed) t.answer) 0 (Ticket t.answer.ticket) refl)),
    )

-- ---- events are counted

none_in_all : {X : Type 0} (m : Row → ℕ) (f : X → List Row) → ((x : X) → sum_by m (f x) ≡ 0) → (xs : List X)
    → sum_by m (flat_map f xs) ≡ 0
none_in_all m f none [] = refl
none_in_all m f none (x ∷ xs) = grind (arith, sum_by-append, none_in_all m f none xs)

counted_left_out : (count last : ℕ) → sum_by events_in (left_out_rows count last) ≡ count
counted_left_out count last = grind (arith, cond_both, eqb-true, sum_by-cons)

counted_with_event : (order : List Operation) (e : Event) → sum_by events_in (event_rows order e) ≡ 1
unfolding effect_rows
counted_with_event order e = grind (arith, nat_tests, common_steps, none_in_all, cond_both, sum_by-append)

counted_after : (drawn order : List Operation) (count last : ℕ) (events : List Event)
    → sum_by events_in (rows_after drawn order count last events) ≡ count + length events
counted_after drawn order count last [] = let here = counted_left_out count last in omega arith
counted_after drawn order count last (e ∷ later) =
    cond_both (has_row drawn e.ticket) (left_out_rows count last ++ (event_rows order e ++ rows_after drawn order 0 last later))
    (rows_after drawn order (count + 1) e.ticket later) (λ rows. sum_by events_in rows ≡ count + length (e ∷ later))
    (λ shown. let after = counted_after drawn order 0 last later in let here = counted_left_out count last in let own = counted_with_event order e in
    omega (
      arith,
      sum_by-append events_in (left_out_rows count last) (event_rows order e ++ rows_after drawn order 0 last later),
      sum_by-append events_in (event_rows order e) (rows_after drawn order 0 last later),
    ))
    (λ hidden. let after = counted_after drawn order (count + 1) e.ticket later in omega arith)

-- rows of initial values count no events
no_events_first : (initial drawn : List ℕ) → sum_by events_in (initial_rows initial drawn) ≡ 0
no_events_first [] drawn = refl
no_events_first (front ∷ others) drawn =
    let count = length (front ∷ others) - length drawn in
    let own = none_in_all events_in initial_row (λ x. refl) (enumerate_from 0 drawn) in
    let rest = none_left count (length drawn) in
    omega (arith, sum_by-append events_in (flat_map initial_row (enumerate_from 0 drawn)) (values_left_out count (length drawn)))
  where
    none_left : (count below : ℕ) → sum_by events_in (values_left_out count below) ≡ 0
    none_left count below = grind (arith, cond_both, sum_by-cons)

pub events_are_counted : EventsAreCounted
unfolding rows_of
events_are_counted history claimed drawn =
    let initial = drawn_initial history claimed drawn in
    let first = no_events_first history.initial initial in
    let after = counted_after drawn (order_of claimed) 0 0 history.events in
    omega (arith, sum_by-append events_in (initial_rows history.initial initial) (rows_after drawn (order_of claimed) 0 0 history.events))

-- ---- initial values are counted

counted_own : (a : ℕ) (values : List ℕ)
    → sum_by values_in (flat_map initial_row (enumerate_from a values)) ≡ length values
counted_own a [] = refl
counted_own a (v ∷ values) = let rest = counted_own (a + 1) values in omega (arith, sum_by-cons)

counted_values_left : (count below : ℕ) → sum_by values_in (values_left_out count below) ≡ count
counted_values_left count below = grind (arith, cond_both, eqb-true, sum_by-cons)

counted_first : (initial drawn : List ℕ) → length drawn ≤ length initial
    → sum_by values_in (initial_rows initial drawn) ≡ length initial
counted_first [] drawn few = refl
counted_first (front ∷ others) drawn few =
    let count = length (front ∷ others) - length drawn in
    let own = counted_own 0 drawn in
    let rest = counted_values_left count (length drawn) in
    omega (arith, sum_by-append values_in (flat_map initial_row (enumerate_from 0 drawn)) (values_left_out count (length drawn)))

no_values_left : (count last : ℕ) → sum_by values_in (left_out_rows count last) ≡ 0
no_values_left count last = grind (arith, cond_both, sum_by-cons)

no_values_with_event : (order : List Operation) (e : Event) → sum_by values_in (event_rows order e) ≡ 0
unfolding effect_rows
no_values_with_event order e = grind (arith, nat_tests, common_steps, none_in_all, cond_both, sum_by-append)

no_values_after : (drawn order : List Operation) (count last : ℕ) (events : List Event)
    → sum_by values_in (rows_after drawn order count last events) ≡ 0
no_values_after drawn order count last [] = no_values_left count last
no_values_after drawn order count last (e ∷ later) =
    cond_both (has_row drawn e.ticket) (left_out_rows count last ++ (event_rows order e ++ rows_after drawn order 0 last later))
    (rows_after drawn order (count + 1) e.ticket later) (λ rows. sum_by values_in rows ≡ 0)
    (λ shown. let after = no_values_after drawn order 0 last later in let here = no_values_left count last in let own = no_values_with_event order e in
    omega (
      arith,
      sum_by-append values_in (left_out_rows count last) (event_rows order e ++ rows_after drawn order 0 last later),
      sum_by-append values_in (event_rows order e) (rows_after drawn order 0 last later),
    ))
    (λ hidden. no_values_after drawn order (count + 1) e.ticket later)

pub values_are_counted : ValuesAreCounted
unfolding rows_of
values_are_counted history claimed drawn =
    let initial = drawn_initial history claimed drawn in
    let first = counted_first history.initial initial (no_longer (is_drawn_initial claimed drawn) history.initial) in
    let after = no_values_after drawn (order_of claimed) 0 0 history.events in
    omega (arith, sum_by-append values_in (initial_rows history.initial initial) (rows_after drawn (order_of claimed) 0 0 history.events))

-- the row of an operation's effect is after the event at its point
after_its_event : (order : List Operation) (i : ℕ) (o : Operation) (e : Event) → slice_get order i ≡ Some o
    → e.ticket ≡ point order i
    → Contains (event_rows order e) (Effect o (i + 1) (point order i))
unfolding effect_rows
after_its_event order i o e at here =
    Contains-append_right (Ticket e.ticket ∷ []) (flat_map (effect_if order e.ticket) (enumerate_from 0 order)) (Effect o (i + 1) (point order i))
    (into_flat_map (effect_if order e.ticket) (enumerate_from 0 order) (i, o) (Effect o (i + 1) (point order i)) (in_enumerated order i o at)
    (subst (λ b. Contains (cond b (Effect o (i + 1) (point order i) ∷ []) []) (Effect o (i + 1) (point order i))) (sym (eq-eqb (point order i) e.ticket (sym here)))
    (contains_at (Effect o (i + 1) (point order i) ∷ []) 0 (Effect o (i + 1) (point order i)) refl)))

pub effects_have_rows : EffectsHaveRows
effects_have_rows history order i o complete legal at =
    let call = point_is_a_call history.initial history.events order i o legal at in
    with_event history (Yes order) (operations_of history.events) call.0 (Effect o (i + 1) (point order i)) call.1
    (has_own (operations_of history.events) call.2.0 call.0.ticket call.2.1 (inl call.2.2)) (after_its_event order i o call.0 at call.3)

-- ---- consequences

pub initial_rows_are_first : InitialRowsAreFirst
initial_rows_are_first history claimed drawn j later v w ticket at less =
    grind (arith, nat_tests, drawn_has_row, rows_rise)

pub rows_tell_precedence : RowsTellPrecedence
rows_tell_precedence history claimed drawn x y in_x drawn_too = (
  λ less. rows_rise _ (Ticket x.ret) (Ticket y.call) (operations_have_rows history claimed drawn x in_x drawn_too).1
      (grind (arith, nat_tests)),
  λ above. elim (cases_lt x.ret y.call) [
    | inl less ↦ less
    | inr not_less ↦ let low = no_lower (rows_of history claimed drawn) y.call x.ret (omega arith) in absurd (omega arith)
  ],
)

pub effect_rows_are_in_bars : EffectRowsAreInBars
effect_rows_are_in_bars history order i o complete legal at =
    let window = effects_are_in_bars history.initial history.events order i o complete legal at in
    let among = Contains-permutation order (operations_of history.events) o (IsPermutation-sym (operations_of history.events) order legal.holds_each_once)
    (contains_at order i o at) in (
      rows_rise _ (Ticket o.call) (Effect o (i + 1) (point order i))
          (operations_have_rows history (Yes order) (operations_of history.events) o among among).0
          (grind (arith, nat_tests, window.0)),
      rows_rise _ (Effect o (i + 1) (point order i)) (Ticket o.ret) (effects_have_rows history order i o complete legal at)
          (grind (arith, nat_tests, window.1)),
    )

pub effect_rows_rise : EffectRowsRise
effect_rows_rise history order i j o p complete legal at less =
    grind (arith, nat_tests, rows_rise, effects_have_rows, effects_rise)
