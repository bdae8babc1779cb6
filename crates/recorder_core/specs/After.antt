-- The state of a machine after a schedule.
use Rattle.std.specs.Prelude.{◌≡◌, ℕ, ◌<◌, Bool, true, false, nat_lt, if◌then◌else◌, List, length, take, drop, Option}
use Rattle.std.specs.Prelude.{None, Some, Result, Ok}
use Rattle.std.specs.Prelude.{Err, slice_get}
use Rattle.std.specs.Option.{option_map}
use Rattle.recorder_core.specs.declared.step.Step.{Step}
use Rattle.recorder_core.specs.declared.pending.Pending.{Pending}
use Rattle.recorder_core.specs.declared.step.StepRefused.{StepRefused}
use Rattle.recorder_core.specs.declared.step.StepRefused.TheVariants.{Memory}
use Rattle.recorder_core.specs.Setting.{Setting}
use Rattle.recorder_core.specs.Schedule.{Attempt, accepted, asks, all_asks, answers, returns, pushes, drained, tickets}
use Rattle.recorder_core.specs.Schedule.{events, request}
use Rattle.recorder_core.specs.Schedule.{answered, is_closed, queue}
use Rattle.recorder_core.specs.View.{ThreadView, MachineView}

-- the operation of t without a return yet, with its answer if it has one
abbrev pub pending : Setting → ℕ → List Step → Option Pending
pending setting t steps =
    if nat_lt (returns t steps) (asks t steps)
    then option_map (λ asked. record {
      request = asked;
      answer =
          if nat_lt (returns t steps) (answers t steps) then answered setting t steps else None;
    }) (request t steps)
    else None

-- the state of thread t after these accepted steps: the first of its events are collected, the next ones are in its
-- ring, and the one after those is held
abbrev pub thread_after : Setting → ℕ → List Step → ThreadView
thread_after setting t steps = record {
  closed = is_closed t steps;
  asked = asks t steps;
  pending = pending setting t steps;
  held = slice_get (events setting t steps) (pushes t steps);
  ring = drop (drained t steps) (take (pushes t steps) (events setting t steps));
  collected = take (drained t steps) (events setting t steps);
}

-- the machine is in the state after these accepted steps
pub record IsLeftBy (setting : Setting) (machine : MachineView) (steps : List Step) : Type 0 where
  pub threads : length machine.threads ≡ setting.threads
  pub capacity : machine.capacity ≡ setting.ring
  pub each : (t : ℕ) → t < setting.threads → slice_get machine.threads t ≡ Some (thread_after setting t steps)
  pub asked : machine.asked ≡ all_asks steps
  pub next_ticket : machine.next_ticket ≡ tickets steps
  pub queue_is : machine.queue ≡ queue setting steps

-- the machine is in the state after this schedule
abbrev pub IsAfter : Setting → MachineView → List Attempt → Type 0
IsAfter setting machine schedule = IsLeftBy setting machine (accepted setting schedule)

-- the machine is in the state after some schedule
abbrev pub IsReachable : MachineView → Type 0
IsReachable machine = (setting : Setting) × (schedule : List Attempt) × IsAfter setting machine schedule

-- whether this refusal is out of memory
abbrev pub is_memory : StepRefused → Bool
is_memory Memory = true
is_memory _ = false

-- whether memory ran out
abbrev pub is_out_of_memory : {A : Type 0} → Result A StepRefused → Bool
is_out_of_memory (Ok x) = false
is_out_of_memory (Err refused) = is_memory refused

-- the attempt at a step with this result; memory ran out if the result says so
abbrev pub attempt_at : {A : Type 0} → Step → Result A StepRefused → Attempt
attempt_at step result = record { step = step; starved = is_out_of_memory result }
