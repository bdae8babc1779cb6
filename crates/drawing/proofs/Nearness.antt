-- The drawn operations: those that overlap one of a `NO`, and at distance 0 no others. The bars in the lanes are
-- these.
use Rattle.drawing.proofs.Common.{ap, AreComplete, arith, BarsAreOfOperations, Bool, cases_lt, Claimed, ClaimLine}
use Rattle.drawing.proofs.Common.{cond, cond_both, Contains, contains_at}
use Rattle.drawing.proofs.Common.{contains_cons, count_by, drawn_operations, eq-eqb, eqb-true, Event, events_before}
use Rattle.drawing.proofs.Common.{false, find, found_first, get_or, HistoryView, InitialLinesHaveNumbers}
use Rattle.drawing.proofs.Common.{InitialNumbersAreOfLines, inl, inr, is_near_any, is_under_way, IsCompleteHistory}
use Rattle.drawing.proofs.Common.{IsPartitionedBy-ltb, IsTraced, length, LinesAreDrawn, List, list_any, lt-ltb, map}
use Rattle.drawing.proofs.Common.{nat_lt, nat_tests, No, None, not_in_none, one_at, one_deeper, Op, Operation}
use Rattle.drawing.proofs.Common.{operation_in, operation_within, operations_are_complete, operations_in}
use Rattle.drawing.proofs.Common.{operations_of, Option, OverlappingAreDrawn, pairs_at, passed_filter, passes_filter}
use Rattle.drawing.proofs.Common.{position, position_or_len, refl, returns_at_no_call, same_call, slice_get}
use Rattle.drawing.proofs.Common.{slice_get-get_or, slice_get_within, Some, stand_near, standing_of, stands_in, subst}
use Rattle.drawing.proofs.Common.{suc, sum_by-cons, sym, traced, true, Yes, zero, [], ℕ, ◌<◌, ◌||◌, ◌∙◌, ◌∷◌, ◌≡◌, ◌≤◌}
use Rattle.std.proofs.lemmas.List.Folds.{Any-from_list_any, find_at, list_any-from_Any}
use Rattle.std.specs.List.Sorted.{IsPartitionedBy}
use Rattle.drawing.specs.Pending.{is_added}
use Rattle.event_records.specs.Turns.{TicketsRise}
use Rattle.claims.specs.declared.claimed.ClaimLine.TheVariants.{Initial}
use Rattle.drawing.specs.Laws.{LastsTo, LinesAreOfHistory, LinesHaveNumbers, NoCallsAreAdded, NoOtherBars}
use Rattle.drawing.specs.Laws.{NoOthersAreDrawn}
use Rattle.drawing.specs.Laws.{NumbersAreOfLines}
use Rattle.drawing.proofs.Below.{fewer, one_fewer}
use Rattle.std.proofs.lemmas.List.Quantifiers.{position-Some}
use Rattle.claims.proofs.Lines.{each_there, operation_among, value_among}
use Rattle.history_merge.proofs.Lists.{into_flat_map}
use Rattle.drawing.specs.declared.scene.Row.TheVariants as row

-- ---- lists

-- if an element passes a test, some element does
pub any_of : {X : Type 0} (p : X → Bool) (xs : List X) (x : X) → Contains xs x → p x ≡ true → list_any p xs ≡ true
any_of p xs x among passes = list_any-from_Any p xs (among.0, x, among.1, among.2, passes)

-- if some element passes a test, there is one
some_passes : {X : Type 0} (p : X → Bool) (xs : List X) → list_any p xs ≡ true → (x : X) × Contains xs x × (p x ≡ true)
some_passes p xs is = let one = Any-from_list_any p xs is in (one.1, (one.0, one.2, one.3), one.4)

-- a test of mapped elements
any_mapped : {X Y : Type 0} (p : Y → Bool) (f : X → Y) (xs : List X)
    → list_any p (map f xs) ≡ list_any (λ x. p (f x)) xs
any_mapped p f [] = refl
any_mapped p f (x ∷ xs) = ap (λ (b : Bool). p (f x) || b) (any_mapped p f xs)

-- the number of elements that pass is the place of the first that fails, if none passes after it
pub counted_up_to : {X : Type 0} (p : X → Bool) (xs : List X) (i : ℕ) → i ≤ length xs
    → ((k : ℕ) (d : X) → k < i → p (get_or xs k d) ≡ true)
    → ((k : ℕ) (d : X) → i ≤ k → k < length xs → p (get_or xs k d) ≡ false) → i ≡ count_by p xs
counted_up_to p [] i within passes fails = omega arith
counted_up_to p (x ∷ xs) zero within passes fails =
    let later = counted_up_to p xs 0 (omega arith) (λ k d less. absurd (omega arith)) (λ k d from to. fails (suc k) d (omega arith) (omega arith)) in
    omega (arith, sum_by-cons (λ y. cond {A = ℕ} (p y) 1 0) x xs, later, ap (λ (b : Bool). cond {A = ℕ} b 1 0) (fails 0 x (omega arith) (omega arith)))
counted_up_to p (x ∷ xs) (suc i) within passes fails =
    let later = counted_up_to p xs i (omega arith) (λ k d less. passes (suc k) d (omega arith)) (λ k d from to. fails (suc k) d (omega arith) (omega arith)) in
    omega (arith, sum_by-cons (λ y. cond {A = ℕ} (p y) 1 0) x xs, later, ap (λ (b : Bool). cond {A = ℕ} b 1 0) (passes 0 x (omega arith)))

-- no ticket is below that of an earlier event
pub no_earlier_ticket : (events : List Event) → TicketsRise events → (i j : ℕ) (e r : Event)
    → slice_get events i ≡ Some e → slice_get events j ≡ Some r
    → i ≤ j → e.ticket ≤ r.ticket
no_earlier_ticket events rise i j e r at_i at_j le = elim (cases_lt i j) [
  | inl less ↦ let below = pairs_at (λ e r. e.ticket < r.ticket) events i j e r rise less at_i at_j in omega arith
  | inr no_less ↦
      let same : i ≡ j = omega arith in
      let one = ap (λ (x : Event). x.ticket) (one_at events j e r (subst (λ k. slice_get events k ≡ Some e) same at_i) at_j) in
      omega arith
]

-- the tickets below a given one come first, since tickets rise
pub parted_by_ticket : (events : List Event) (ticket : ℕ) → TicketsRise events
    → IsPartitionedBy (λ e. nat_lt e.ticket ticket) events
parted_by_ticket events ticket rise = IsPartitionedBy-ltb (λ (e : Event). e.ticket) events ticket (λ i j d le within.
    no_earlier_ticket events rise i j _ _ (slice_get-get_or events i d (omega arith)) (slice_get-get_or events j d within) le)

-- ---- lines

in_operations : (lines : List ClaimLine) (o : Operation) → Contains lines (Op o) → Contains (operations_in lines) o
in_operations lines o among = into_flat_map operation_in lines (Op o) o among (contains_at (o ∷ []) 0 o refl)

from_operations : (lines : List ClaimLine) (o : Operation) → Contains (operations_in lines) o → Contains lines (Op o)
from_operations [] o among = absurd (not_in_none o among)
from_operations (Op x ∷ lines) o among = grind (arith, contains_cons, contains_at, one_deeper, from_operations lines o)
from_operations (Initial v ∷ lines) o among = one_deeper (Initial v) lines (Op o) (from_operations lines o among)

-- ---- drawn operations

-- each drawn operation is one of the history
pub among_operations : (history : HistoryView) (claimed : Claimed) (around : Option ℕ) (o : Operation)
    → Contains (drawn_operations history claimed around) o
    → Contains (operations_of history.events) o
among_operations history (Yes listed) around o among = among
among_operations history (No kind lines) None o among = among
among_operations history (No kind lines) (Some n) o among =
    (passed_filter (is_near_any history.events n (operations_in lines)) (operations_of history.events) o among).0

-- at least as many events come before a later ticket
before_rises : (events : List Event) (s t : ℕ) → s ≤ t → events_before events s ≤ events_before events t
before_rises events s t no_later = fewer (λ e. nat_lt e.ticket s) (λ e. nat_lt e.ticket t) (λ e before. grind (arith, nat_tests)) events

-- more events come before a ticket after a return
before_grows : (events : List Event) (o : Operation) (t : ℕ) → Contains (operations_of events) o → o.ret < t
    → events_before events o.ret < events_before events t
before_grows events o t among less =
    let tr = traced events o among in
    let at : o.ret ≡ tr.answer.ticket = tr.made.returned in
    let more = one_fewer (λ e. nat_lt e.ticket o.ret) (λ e. nat_lt e.ticket t) (λ e before. grind (arith, nat_tests)) events tr.answer
    (contains_at events tr.returned_at tr.answer tr.at_return) (grind (arith, nat_tests)) (grind (arith, nat_tests)) in
    omega arith

pub overlapping_are_drawn : OverlappingAreDrawn
overlapping_are_drawn history kind lines None x y in_x listed apart apart' = in_x
overlapping_are_drawn history kind lines (Some n) x y in_x listed apart apart' =
    let events = history.events in
    let first = before_rises events y.call x.ret (omega (arith, apart)) in
    let second = before_rises events x.call y.ret (omega (arith, apart')) in
    passes_filter (is_near_any events n (operations_in lines)) (operations_of events) x
    (any_mapped (stand_near n (standing_of events x)) (standing_of events) (operations_in lines)
    ∙ any_of (λ o. stand_near n (standing_of events x) (standing_of events o)) (operations_in lines) y (in_operations lines y listed)
    (grind (arith, nat_tests, first, second))) in_x

pub no_others_are_drawn : NoOthersAreDrawn
no_others_are_drawn history kind lines x all_among drawn =
    let events = history.events in
    let passed = passed_filter (is_near_any events 0 (operations_in lines)) (operations_of events) x drawn in
    let mapped = any_mapped (stand_near 0 (standing_of events x)) (standing_of events) (operations_in lines) in
    let some = some_passes (λ o. stand_near 0 (standing_of events x) (standing_of events o)) (operations_in lines) (sym mapped ∙ passed.1) in
    let y = some.0 in
    let listed = from_operations lines y some.1 in
    let first : events_before events y.call ≤ events_before events x.ret = grind (arith, nat_tests, some.2) in
    let second : events_before events x.call ≤ events_before events y.ret = grind (arith, nat_tests, some.2) in (
      y,
      listed,
      λ less. let grows = before_grows events x y.call passed.0 less in absurd (omega arith),
      λ less. let grows = before_grows events y x.call (all_among y listed) less in absurd (omega arith),
    )

pub lines_are_drawn : LinesAreDrawn
lines_are_drawn history kind lines around complete all_among o listed =
    let rises = (operation_within history.events o complete (all_among o listed)).0 in
    overlapping_are_drawn history kind lines around o o (all_among o listed) listed (λ less. absurd (omega arith)) (λ less. absurd (omega arith))

-- ---- bars

-- if an element passes a test, `find` gives one
pub found : {X : Type 0} (p : X → Bool) (xs : List X) (x : X) → Contains xs x → p x ≡ true
    → (r : X) × (find p xs ≡ Some r)
found p [] x among passes = absurd (not_in_none x among)
found p (y ∷ ys) x among passes = cond_both (p y) (Some y) (find p ys) (λ f. (r : _) × (f ≡ Some r)) (λ is. (y, refl)) (λ is. elim (contains_cons y ys x among) [
  | inl here ↦ let clash : false ≡ true = sym is ∙ ap p here ∙ passes in cc
  | inr there ↦ found p ys x there passes
])

-- the bar in a lane is that of an operation of its thread
pub no_other_bars : NoOtherBars
no_other_bars added_from operations thread ticket o is =
    let first = found_first (is_under_way added_from thread ticket) operations o is in
    let passes = first.passes in
    record {
      among = contains_at operations first.place o first.at;
      own = grind (arith, nat_tests);
      called = grind (arith, nat_tests);
      lasts = grind (arith, nat_tests);
    }

-- a ticket that wasn't added is below each one that was
pub seen_before_added : (added_from : Option ℕ) (seen added : ℕ) → is_added added_from seen ≡ false
    → is_added added_from added ≡ true → seen ≤ added
seen_before_added None seen added before from = cc
seen_before_added (Some first) seen added before from = grind (arith, nat_tests)

-- ---- one operation of a thread at a time

module _ (events : List Event) (complete : IsCompleteHistory events) where
  all : AreComplete (operations_of events)
  all = operations_are_complete events complete

  -- an operation of a thread that is called after another is called after its return
  not_both : (x y : Operation) (tx : IsTraced events x) (ty : IsTraced events y) → Contains (operations_of events) x
      → Contains (operations_of events) y → x.thread ≡ y.thread → tx.called_at < ty.called_at → y.call ≤ x.ret → ⊥
  not_both x y tx ty in_x in_y threads below no_later = elim (cases_lt ty.called_at tx.returned_at) [
    | inl less ↦
        let apart = tx.none_between ty.called_at ty.call below less ty.at_call in
        let same : ty.call.thread ≡ tx.call.thread = sym ty.made.same_thread ∙ sym threads ∙ tx.made.same_thread in
        let clash : true ≡ false = sym (eq-eqb ty.call.thread tx.call.thread same) ∙ apart in
        cc
    | inr above ↦
        let no_earlier = no_earlier_ticket events complete.tickets_rise _ _ tx.answer ty.call tx.at_return ty.at_call above in
        returns_at_no_call events x y complete in_x in_y (omega (arith, tx.made.returned, ty.made.called))
  ]

  -- an operation that lasts to a ticket doesn't return before others that are called up to that ticket
  lasts_over : (added_from : Option ℕ) (x y : Operation) (c : ℕ) → NoCallsAreAdded added_from (operations_of events)
      → Contains (operations_of events) y
      → LastsTo added_from c x → y.call ≤ c → y.call ≤ x.ret
  lasts_over added_from x y c no_calls in_y (inl to) from = omega arith
  lasts_over added_from x y c no_calls in_y (inr pending) from = seen_before_added added_from y.call x.ret (no_calls y in_y) pending

  -- at most one operation of a thread is under way at a ticket
  one_bar : (x y : Operation) → Contains (operations_of events) x → Contains (operations_of events) y
      → x.thread ≡ y.thread → y.call ≤ x.ret
      → x.call ≤ y.ret → x ≡ y
  one_bar x y in_x in_y threads x_lasts y_lasts =
      let tx = traced events x in_x in
      let ty = traced events y in_y in
      elim (cases_lt tx.called_at ty.called_at) [
        | inl below ↦ absurd (not_both x y tx ty in_x in_y threads below x_lasts)
        | inr above ↦ elim (cases_lt ty.called_at tx.called_at) [
          | inl less ↦ absurd (not_both y x ty tx in_y in_x (sym threads) less y_lasts)
          | inr not_less ↦
              let here : tx.called_at ≡ ty.called_at = omega arith in
              let one = one_at events ty.called_at tx.call ty.call (subst (λ i. slice_get events i ≡ Some tx.call) here tx.at_call) ty.at_call in
              same_call (operations_of events) x y all in_x in_y (tx.made.called ∙ ap (λ e. e.ticket) one ∙ sym ty.made.called)
        ]
      ]

-- each operation has its bar
pub bars_are_of_operations : BarsAreOfOperations
bars_are_of_operations history claimed around added_from o ticket complete no_calls among called lasts =
    let drawn = drawn_operations history claimed around in
    let some = found (is_under_way added_from o.thread ticket) drawn o among (grind (arith, nat_tests, lasts)) in
    let bar = no_other_bars added_from drawn o.thread ticket some.0 some.1 in
    let in_o = among_operations history claimed around o among in
    let in_bar = among_operations history claimed around some.0 bar.among in
    let same = one_bar history.events complete some.0 o in_bar in_o bar.own
    (lasts_over history.events complete added_from some.0 o ticket no_calls in_o bar.lasts called)
    (lasts_over history.events complete added_from o some.0 ticket no_calls in_bar lasts bar.called) in
    some.1 ∙ ap (λ x. Some x) same

-- ---- the numbers of a claim, and its lines of evidence, which are operations and initial values of the history

-- the first place at which an element passes is within the list
place_if : {X : Type 0} (d : X) (xs : List X) (p : X → Bool) (i : ℕ) → position p xs ≡ Some i
    → (x : X) × (slice_get xs i ≡ Some x) × (p x ≡ true)
place_if d xs p i at = let first = position-Some p xs i d at in (get_or xs i d, slice_get-get_or xs i d first.0, first.1)

-- if a line passes a test, there is a first place at which one does
place_of_one : (lines : List ClaimLine) (p : ClaimLine → Bool) (x : ClaimLine) → Contains lines x → p x ≡ true
    → (i : ℕ) × (position p lines ≡ Some i)
place_of_one lines p x among passes =
    let some = found p lines x among passes in
    let at : slice_get lines (position_or_len p lines) ≡ Some some.0 = sym (find_at p lines) ∙ some.1 in
    let within = slice_get_within lines (position_or_len p lines) some.0 at in
    (position_or_len p lines, ap (λ (b : Bool). cond b (Some (position_or_len p lines)) None) (lt-ltb _ _ within))

-- a number is that of its line
pub numbers_are_of_lines : NumbersAreOfLines
numbers_are_of_lines events lines o i complete all_among among at = let h = place_if (Initial 0) lines (stands_in (row.Ticket o.call)) i at in same_line h.0 h.1 h.2
  where
    same_line : (x : ClaimLine) → slice_get lines i ≡ Some x → stands_in (row.Ticket o.call) x ≡ true
        → slice_get lines i ≡ Some (Op o)
    same_line (Op listed) here passes =
        let line_among = all_among listed (contains_at lines i (Op listed) here) in
        let same = same_call (operations_of events) listed o (operations_are_complete events complete) line_among among (eqb-true listed.call o.call passes) in
        here ∙ ap (λ x. Some (Op x)) same
    same_line (Initial v) here passes = cc

-- each line of an operation has a number
pub lines_have_numbers : LinesHaveNumbers
lines_have_numbers lines o among = place_of_one lines (stands_in (row.Ticket o.call)) (Op o) among (eq-eqb o.call o.call refl)

-- the number of an initial value is that of its line
pub initial_numbers_are_of_lines : InitialNumbersAreOfLines
initial_numbers_are_of_lines lines j v i at = let h = place_if (Initial 0) lines (stands_in (row.Initial j v)) i at in same_line h.0 h.1 h.2
  where
    same_line : (x : ClaimLine) → slice_get lines i ≡ Some x → stands_in (row.Initial j v) x ≡ true
        → slice_get lines i ≡ Some (Initial v)
    same_line (Op o) here passes = cc
    same_line (Initial listed) here passes = here ∙ ap (λ (x : ℕ). Some (Initial x)) (eqb-true listed v passes)

-- each line of an initial value has a number
pub initial_lines_have_numbers : InitialLinesHaveNumbers
initial_lines_have_numbers lines j v among = place_of_one lines (stands_in (row.Initial j v)) (Initial v) among (eq-eqb v v refl)

-- ---- evidence

-- the lines of evidence are lines of the history
pub lines_are_of_history : LinesAreOfHistory
lines_are_of_history initial operations kind lines few shows = (
  λ o among. operation_among initial operations o (each_there initial operations kind lines shows (Op o) among),
  λ v among. value_among initial operations v (each_there initial operations kind lines shows (Initial v) among),
)
