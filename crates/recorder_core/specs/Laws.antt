-- The words of the laws of every schedule.
use Rattle.std.specs.Prelude.{map, ◌≡◌, ℕ, ◌<◌, ◌++◌, true, List, ◌∷◌, Some, None}
use Rattle.std.specs.List.{range_with_len}
use Rattle.event_records.specs.declared.event.Event.{Event}
use Rattle.event_records.specs.declared.event.What.{What}
use Rattle.event_records.specs.declared.event.What.TheVariants.{CallEnq, RetEnq, RetNot, CallDeq, RetDeq, RetEmpty}
use Rattle.history_merge.specs.declared.operation.Operation.{Operation}
use Rattle.history_merge.specs.declared.operation.OpKind.{OpKind}
use Rattle.history_merge.specs.declared.operation.OpKind.TheVariants.{Enqueue, Dequeue, DequeueEmpty, EnqueueFailed}
use Rattle.recorder_core.specs.declared.step.Step.{Step}
use Rattle.recorder_core.specs.declared.step.Step.TheVariants.{Drain}
use Rattle.recorder_core.specs.Setting.{Setting}
use Rattle.recorder_core.specs.Schedule.{Attempt, accepted, refusal, events, event_of, pushes, drained, is_closed}
use Rattle.recorder_core.specs.After.{thread_after}

-- the whole list begins with the first one
abbrev pub IsPrefix : {X : Type 0} → List X → List X → Type 0
IsPrefix {X} first whole = (rest : List X) × (first ++ rest ≡ whole)

-- the events of t
abbrev pub events_in : Setting → List Attempt → ℕ → List Event
events_in setting schedule t = events setting t (accepted setting schedule)

-- the collected events of t
abbrev pub collected_in : Setting → List Attempt → ℕ → List Event
collected_in setting schedule t = (thread_after setting t (accepted setting schedule)).collected

-- every thread is closed, and all pushed events are drained
abbrev pub IsDone : Setting → List Attempt → Type 0
IsDone setting schedule =
    let steps = accepted setting schedule in
    (t : ℕ) → t < setting.threads → (is_closed t steps ≡ true) × (pushes t steps ≡ drained t steps)

-- the step is for open threads only: any step but a drain
abbrev pub NeedsOpenThread : Step → Type 0
NeedsOpenThread (Drain t k) = ⊥
NeedsOpenThread _ = Unit {0}

-- the attempt after this schedule is accepted and gives this event
abbrev pub Gives : Setting → List Attempt → Attempt → Event → Type 0
Gives setting before attempt event =
    let steps = accepted setting before in
    (refusal setting steps attempt ≡ None) × (event_of setting event.thread attempt.step steps ≡ Some event)

-- the step that gives the first event comes before the step that gives the second
pub record StandsBefore (setting : Setting) (schedule : List Attempt) (first second : Event) : Type 0 where
  pub before : List Attempt
  pub one : Attempt
  pub between : List Attempt
  pub other : Attempt
  pub later : List Attempt
  pub schedule_is : schedule ≡ later ++ other ∷ (between ++ one ∷ before)
  pub gives_first : Gives setting before one first
  pub gives_second : Gives setting (between ++ one ∷ before) other second

-- the call of an operation of this kind
abbrev pub call_of_kind : OpKind → What
call_of_kind (Enqueue v) = CallEnq v
call_of_kind (EnqueueFailed v) = CallEnq v
call_of_kind (Dequeue v) = CallDeq
call_of_kind DequeueEmpty = CallDeq

-- the return of an operation of this kind
abbrev pub return_of_kind : OpKind → What
return_of_kind (Enqueue v) = RetEnq
return_of_kind (EnqueueFailed v) = RetNot
return_of_kind (Dequeue v) = RetDeq v
return_of_kind DequeueEmpty = RetEmpty

-- the event of an operation's call
abbrev pub operation_call : Operation → Event
operation_call o = record { ticket = o.call; thread = o.thread; what = call_of_kind o.kind }

-- the event of an operation's return
abbrev pub operation_return : Operation → Event
operation_return o = record { ticket = o.ret; thread = o.thread; what = return_of_kind o.kind }

-- the return step of the first operation comes before the ask of the second
abbrev pub ReturnsBeforeAsk : Setting → List Attempt → Operation → Operation → Type 0
ReturnsBeforeAsk setting schedule x y = StandsBefore setting schedule (operation_return x) (operation_call y)

-- the lists that a schedule collects, of threads 0, 1, 2 and so on
abbrev pub collected_lists : Setting → List Attempt → List (List Event)
collected_lists setting schedule = map (λ t. collected_in setting schedule t) (range_with_len 0 setting.threads)
