use Rattle.linearizer.proofs.Common.{All-contains, ap, arith, cases_lt, contains_at, dequeue_return, enqueue_call}
use Rattle.linearizer.proofs.Common.{entered_by, false, get_or_from_slice_get, inl, inr, IsFirstLeft, IsPassedOver}
use Rattle.linearizer.proofs.Common.{length, length-map, NEVER, places_in, refl, replicate, rules, slice_get}
use Rattle.linearizer.proofs.Common.{slice_get_read, slice_get_within, Some, subst, sym, true, ◌<◌, ◌∙◌, ◌≡◌, ◌≤◌}
use Rattle.linearizer.proofs.Choosing.{IsLeastLeft, IsNext, least_left, next_at, not_past, all_swept, flags_within}
use Rattle.linearizer.proofs.Choosing.{nothing_swept, met_passed_over, some_left, swept_next}
use Rattle.linearizer.proofs.choice.put_in_order.Goals as goal
use Rattle.linearizer.proofs.choice.put_in_order.Goals.{After-choice-next, After-first_left-first_in}
use Rattle.linearizer.proofs.choice.put_in_order.Goals.{After-first_left-first_out, After-unpack-entry}

pub loop-entries-init : goal.loop-entries-init
loop-entries-init c =
    let flags : c.in_ok-taken.taken.items ≡ replicate (length c.args.values.now) false = search rules in
    rw (flags, c.in_ok-order.ensures.items) (nothing_swept c.args.values.now c.as_slice-entries.result.now c.as_slice-dequeues.result.now)

pub first_left-first_in-requires-clause-flagged : goal.first_left-first_in-requires-clause-flagged
first_left-first_in-requires-clause-flagged c = rw c.deref.ensures.value
    (flags_within entered_by _ _ _ (rw c.as_slice-entries.ensures.value c.in_ok-by_time.ensures.entries) c.loop-entries.invariant.one_flag_each)

pub first_left-first_out-requires-clause-flagged : goal.first_left-first_out-requires-clause-flagged
first_left-first_out-requires-clause-flagged c = rw c.deref-in-loop-entries.ensures.value
    (flags_within dequeue_return _ _ _ (rw c.as_slice-dequeues.ensures.value c.in_ok-by_time.ensures.dequeues) c.loop-entries.invariant.one_flag_each)

-- each cursor is at the first entry of its list that is left
entered : (c : After-first_left-first_in)
    → IsFirstLeft c.as_slice-entries.result.now c.loop-entries.taken.items c.first_left-first_in.result
entered c = rw c.deref.ensures.value at c.first_left-first_in.ensures

dequeued : (c : After-first_left-first_out)
    → IsFirstLeft c.as_slice-dequeues.result.now c.loop-entries.taken.items c.first_left-first_out.result
dequeued c = rw c.deref-in-loop-entries.ensures.value at c.first_left-first_out.ensures

-- some value is left, so the first cursor is at an entry
inside : (c : After-first_left-first_in) → c.first_left-first_in.result < length c.as_slice-entries.result.now
inside c =
    let fewer : length (places_in c.loop-entries.order.items) < length c.args.values.now = omega (
      arith,
      length-map c.loop-entries.order.items (λ timed. timed.place),
      c.loop-entries-test.true,
      c.len-in-loop-entries.ensures,
      c.len-in-loop-entries-2.ensures,
    ) in
    not_past _ _ _ (entered c).before (some_left entered_by _ _ _ _ _ (rw c.as_slice-entries.ensures.value c.in_ok-by_time.ensures.entries)
    c.requires.entries c.loop-entries.invariant.within c.loop-entries.invariant.so_far fewer)

pub bounds-entries-first_in : goal.bounds-entries-first_in
bounds-entries-first_in c = inside (goal.at.bounds-entries-first_in c).After-first_left-first_in

pub offset_bounds-entries-first_in : goal.offset_bounds-entries-first_in
offset_bounds-entries-first_in c = let within = inside (goal.at.offset_bounds-entries-first_in c).After-first_left-first_in in search rules

module _ (c : After-unpack-entry) (within : c.first_left-first_in.result < length c.as_slice-entries.result.now) where
  at_first : slice_get c.as_slice-entries.result.now c.first_left-first_in.result ≡ Some c.unpack-entry.result
  at_first = slice_get_read _ _ _ _ refl within c.index-entries-first_in.is ∙ ap Some (sym c.unpack-entry.ensures)

  -- this entry is the least of those that are left
  least : IsLeastLeft entered_by c.args.values.now c.loop-entries.taken.items c.unpack-entry.result
  least = least_left entered_by _ _ _ (rw c.as_slice-entries.ensures.value c.in_ok-by_time.ensures.entries) _
      (rw c.deref.ensures.value at c.first_left-first_in.ensures) _ at_first

  bounded : entered_by least.value.life ≤ NEVER
  bounded =
      let less = All-contains (λ value. entered_by value.life < NEVER) c.args.values.now least.value c.requires.entries
      (contains_at c.args.values.now c.unpack-entry.result.place least.value least.is_at) in
      omega (arith, less)

pub choice-next-requires : goal.choice-next-requires
choice-next-requires c =
    let states = goal.at.choice-next-requires c in
    let first = least states.After-unpack-entry (inside states.After-first_left-first_in) in
    slice_get_within _ _ first.value first.is_at

module _ (c : After-choice-next) (within : c.first_left-first_in.result < length c.as_slice-entries.result.now) where
  -- the choice of this turn
  next : IsNext c.args.values.now c.loop-entries.taken.items c.choice-next.result
  next = next_at _ _ _ _ _ _ _ _ _ (rw c.as_slice-entries.ensures.value c.in_ok-by_time.ensures.entries)
      (rw c.as_slice-dequeues.ensures.value c.in_ok-by_time.ensures.dequeues) c.requires.dequeues
      (rw c.deref.ensures.value at c.first_left-first_in.ensures) (rw c.deref-in-loop-entries.ensures.value at c.first_left-first_out.ensures)
      (slice_get_read _ _ _ _ refl within c.index-entries-first_in.is ∙ ap Some (sym c.unpack-entry.ensures)) c.dequeued_at.ensures c.choice-next.ensures

  -- the choice is in range
  chosen_within : c.choice-next.result < length c.args.values.now
  chosen_within = slice_get_within c.args.values.now c.choice-next.result next.value next.is_at

pub index_mut-requires : goal.index_mut-requires
index_mut-requires c =
    let states = goal.at.index_mut-requires c in
    let within = chosen_within states.After-choice-next (inside states.After-first_left-first_in) in
    let same = c.loop-entries.invariant.one_flag_each in
    search rules

pub get-requires : goal.get-requires
get-requires c = let states = goal.at.get-requires c in chosen_within states.After-choice-next (inside states.After-first_left-first_in)

pub is_late-requires-clause-next : goal.is_late-requires-clause-next
is_late-requires-clause-next c =
    let states = goal.at.is_late-requires-clause-next c in chosen_within states.After-choice-next (inside states.After-first_left-first_in)

pub is_late-requires-clause-in_time : goal.is_late-requires-clause-in_time
is_late-requires-clause-in_time c m at =
    let states = goal.at.is_late-requires-clause-in_time c in
    let first = least states.After-unpack-entry (inside states.After-first_left-first_in) in
    let one : Some first.value ≡ Some m = sym first.is_at ∙ at in
    let same : first.value ≡ m = cc in
    let called = All-contains (λ value. enqueue_call value.life ≤ entered_by value.life) c.args.values.now m c.requires.in_time
    (contains_at c.args.values.now c.unpack-entry.result.place m at) in
    omega (arith, called, first.time_is, ap (λ m. entered_by m.life) same)

pub new-requires-clause-place : goal.new-requires-clause-place
new-requires-clause-place c =
    let states = goal.at.new-requires-clause-place c in
    let within = chosen_within states.After-choice-next (inside states.After-first_left-first_in) in
    omega (arith, within, c.requires.few)

pub new-requires-clause-time : goal.new-requires-clause-time
new-requires-clause-time c =
    let states = goal.at.new-requires-clause-time c in
    let first = inside states.After-first_left-first_in in
    omega (arith, bounded states.After-unpack-entry first, (least states.After-unpack-entry first).time_is)

pub returns-then-is_late : goal.returns-then-is_late
returns-then-is_late c =
    let states = goal.at.returns-then-is_late c in
    let first = inside states.After-first_left-first_in in
    let turn = next states.After-choice-next first in
    let told = c.get.ensures ∙ get_or_from_slice_get c.args.values.now c.choice-next.result turn.value c.get.result turn.is_at in
    subst (IsPassedOver c.args.values.now) (sym told)
    (met_passed_over c.args.values.now c.loop-entries.taken.items _ _ c.choice-next.result c.unpack-entry.result turn
    c.loop-entries.invariant.so_far (least states.After-unpack-entry first) ((c.is_late.ensures turn.value turn.is_at).0 c.if-is_late.true))

pub loop-entries-preserved : goal.loop-entries-preserved
loop-entries-preserved c =
    let states = goal.at.loop-entries-preserved c in
    let first = inside states.After-first_left-first_in in
    let turn = next states.After-choice-next first in
    let late = c.is_late.ensures turn.value turn.is_at in
    let called : enqueue_call turn.value.life ≤ c.unpack-entry.result.time = elim (cases_lt c.unpack-entry.result.time (enqueue_call turn.value.life)) [
      | inl above ↦ let yes : c.is_late.result ≡ true = late.1 above in absurd (cc (yes, c.if-is_late.false))
      | inr below ↦ below
    ] in
    rw (c.in_ok-push.ensures.items, c.new.ensures, c.saturating_sub.ensures)
    (swept_next c.args.values.now c.as_slice-entries.result.now c.as_slice-dequeues.result.now c.loop-entries.taken.items _ _ _ _
    c.loop-entries.order.items c.choice-next.result c.unpack-entry.result turn c.loop-entries.invariant
    (entered states.After-first_left-first_in) (dequeued states.After-first_left-first_out)
    (least states.After-unpack-entry first) (bounded states.After-unpack-entry first) called c.requires.takes_time)

pub returns : goal.returns
returns c = all_swept _ _ _ _ _ _ _ c.loop-entries.invariant (search rules)
