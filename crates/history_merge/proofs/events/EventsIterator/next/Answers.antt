use Rattle.history_merge.proofs.Common.{ap, AreLeft, arith, Event, events_of, item_count, List, MakesProgress}
use Rattle.history_merge.proofs.Common.{put_each, set, Some, sym, ◌∙◌, ◌∷◌, ◌≡◌}
use Rattle.history_merge.proofs.TheirEvents.{GivesCall, GivesReturn, IsFirstOfAll, first_of_all, gives_call}
use Rattle.history_merge.proofs.TheirEvents.{gives_nothing, gives_return}
use Rattle.history_merge.proofs.TheirEvents.{left_after_call, left_after_return, left_as_told, stays_none, still_none}
use Rattle.history_merge.proofs.TheirEvents.{told}
use Rattle.history_merge.proofs.events.EventsIterator.next.Goals as goal
use Rattle.history_merge.proofs.events.EventsIterator.next.Goals.{After-maybe_return, After-branch-event}

-- ---- a call comes first

call : (c : After-maybe_return)
    → GivesCall (put_each c.self.inside.due
    (events_of c.self.inside.by_call)) c.in-Some.operation c.in-Some.by_call c.self.inside.due
call c = grind (arith, gives_call, first_of_all)

after_call : (c : After-maybe_return)
    → AreLeft (call c).later c.in-Some.by_call (set c.self.inside.due c.from-thread.result c.maybe_return.result)
after_call c = left_after_call _ _ _ _ (call c) c.from-thread.result c.maybe_return.result c.from-thread.ensures c.maybe_return.ensures

pub bounds-self-inside-thread : goal.bounds-self-inside-thread
bounds-self-inside-thread c =
    let at = (goal.at.bounds-self-inside-thread c).After-maybe_return in
    omega (arith, c.from-thread.ensures, (call at).thread)

pub invariant_of-self : goal.invariant_of-self
invariant_of-self c =
    let at = (goal.at.invariant_of-self c).After-maybe_return in
    let first = call at in
    let left = after_call at in
    let same = told _ _ _ left in
    grind (arith, left_as_told, still_none)

-- one more item leaves fewer
goes : (old new : List Event) (e : Event) → old ≡ e ∷ new
    → MakesProgress {S = List Event} {A = Event} (λ _. Unit {0})
    (item_count {S = List Event} {A = Event} (λ rest. rest)) old (Some e) new
goes old new e is = grind arith

pub returns-in-Some-clause-steps : goal.returns-in-Some-clause-steps
returns-in-Some-clause-steps c =
    let at = (goal.at.returns-in-Some-clause-steps c).After-maybe_return in
    let same = told _ _ _ (after_call at) in
    grind (arith, (call at).is)

pub returns-in-Some-clause-goes : goal.returns-in-Some-clause-goes
returns-in-Some-clause-goes c = goes _ _ _ (returns-in-Some-clause-steps c)

-- ---- a return comes first

is_first : (c : After-branch-event) → IsFirstOfAll c.self.inside.due c.first_due-due.result
is_first c = grind (arith, first_of_all)

given : (c : After-branch-event) (e : Event) → c.first_due-due.result ≡ Some e
    → GivesReturn (put_each c.self.inside.due
    (events_of c.self.inside.by_call)) e c.self.inside.by_call c.self.inside.due
given c e is = gives_return _ _ _ e c.self.invariant.0 (rw is at (is_first c)) (rw is at c.in_default.ensures)

-- no event is left
pub returns-in_err-event-clause-steps : goal.returns-in_err-event-clause-steps
returns-in_err-event-clause-steps c =
    let first = is_first (goal.at.returns-in_err-event-clause-steps c).After-branch-event in
    let empty = gives_nothing _ _ _ c.self.invariant.0 (rw c.in_err-event.was at first) (rw c.in_err-event.was at c.in_default.ensures) in
    grind (arith, empty)

pub bounds-self-inside-from : goal.bounds-self-inside-from
bounds-self-inside-from c =
    let at = given (goal.at.bounds-self-inside-from c).After-branch-event c.in_ok-event.event c.in_ok-event.was in
    omega (arith, at.thread, c.from.ensures)

pub invariant_of-self-2 : goal.invariant_of-self-2
invariant_of-self-2 c =
    let at = given (goal.at.invariant_of-self-2 c).After-branch-event c.in_ok-event.event c.in_ok-event.was in
    let left = left_after_return _ _ _ _ at c.from.result c.from.ensures in
    let same = told _ _ _ left in
    grind (arith, at.is, left_as_told, stays_none)

pub returns-clause-steps : goal.returns-clause-steps
returns-clause-steps c =
    let at = given (goal.at.returns-clause-steps c).After-branch-event c.in_ok-event.event c.in_ok-event.was in
    let left = left_after_return _ _ _ _ at c.from.result c.from.ensures in
    sym c.self.view_is ∙ at.is ∙ ap (λ xs. c.in_ok-event.event ∷ xs) (sym (told _ _ _ left))

pub returns-clause-goes : goal.returns-clause-goes
returns-clause-goes c = goes _ _ _ (returns-clause-steps c)
