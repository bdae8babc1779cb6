-- Recorded lists, schedules that collect them, and the histories to which they merge.
use Rattle.std.specs.Prelude.{◌≡◌, ℕ, ◌+◌, ◌*◌, ◌≤◌, Bool, true, false, not, IsTrue, List, [], ◌∷◌, ◌++◌, length, map}
use Rattle.std.specs.Prelude.{All, filter_map, flat_map}
use Rattle.std.specs.Prelude.{slice_get, Option, Some, None, IsPermutation}
use Rattle.std.specs.List.{range_with_len, list_all}
use Rattle.std.specs.Option.{option_map}
use Rattle.event_records.specs.declared.event.Event.{Event}
use Rattle.event_records.specs.declared.event.What.TheVariants.{CallEnq}
use Rattle.event_records.specs.declared.limits.TheConstants.{MAX_THREAD_OPERATIONS, MAX_OPERATIONS}
use Rattle.event_records.specs.Question.{value_name}
use Rattle.event_records.specs.Turns.{Alternates}
use Rattle.history_merge.specs.Operations.{operation_of}
use Rattle.history_merge.specs.declared.operation.Operation.{Operation}
use Rattle.history_merge.specs.declared.operation.OpKind.{OpKind}
use Rattle.history_merge.specs.declared.operation.OpKind.TheVariants.{Enqueue, Dequeue, DequeueEmpty, EnqueueFailed}
use Rattle.event_records.specs.declared.limits.TheConstants.{MAX_THREADS}
use Rattle.recorder_core.specs.declared.step.Step.{Step}
use Rattle.recorder_core.specs.declared.step.Step.TheVariants.{Effect, Say}
use Rattle.event_records.specs.declared.kind.Answer.{Answer}
use Rattle.event_records.specs.declared.kind.Answer.TheVariants.{Taken, Got}
use Rattle.recorder_core.specs.declared.pending.Request.{Request}
use Rattle.recorder_core.specs.declared.pending.Request.TheVariants as ask_for
use Rattle.recorder_core.specs.Setting.{Setting}
use Rattle.recorder_core.specs.Schedule.{Attempt, accepted, request, effect_answer, with_last, answers, events}
use Rattle.recorder_core.specs.Laws.{collected_lists, IsDone}

-- ---- honest schedules

-- whether a step is an effect
abbrev pub is_effect : Step → Bool
is_effect (Effect t) = true
is_effect _ = false

-- whether a step gives an answer from outside
abbrev pub is_say : Step → Bool
is_say (Say t answer) = true
is_say _ = false

-- no accepted step gives an answer from outside: each answer is that of the machine's queue
abbrev pub IsHonest : Setting → List Attempt → Type 0
IsHonest setting schedule = IsTrue (list_all (λ step. not (is_say step)) (accepted setting schedule))

-- ---- recorded lists

-- the list of thread t: its events alone, in turn, of no more operations than a thread may ask; if its n-th
-- operation, from 0, is an enqueue, its value has the name of t and n
pub record IsListOf (t : ℕ) (events : List Event) : Type 0 where
  pub own : All (λ event. event.thread ≡ t) events
  pub alternates : Alternates events
  pub names : (n value : ℕ) (call : Event) → slice_get events (2 * n) ≡ Some call → call.what ≡ CallEnq value
      → value ≡ value_name t n
  pub not_too_long : length events ≤ 2 * MAX_THREAD_OPERATIONS

-- one list for each of 1 to 64 threads, of no more operations together than a machine may be asked, whose tickets
-- together are the numbers below their total, each once
pub record AreRecorded (lists : List (List Event)) : Type 0 where
  pub some : 1 ≤ length lists
  pub not_too_many : length lists ≤ MAX_THREADS
  pub each : (t : ℕ) (events : List Event) → slice_get lists t ≡ Some events → IsListOf t events
  pub tickets : let all = flat_map (λ list. list) lists in
      IsPermutation (map (λ event. event.ticket) all) (range_with_len 0 (length all))
  pub not_too_long : length (flat_map (λ list. list) lists) ≤ 2 * MAX_OPERATIONS

-- one thread for each list, rings of this capacity, and a queue that holds these values first
abbrev pub setting_for : ℕ → List ℕ → List (List Event) → Setting
setting_for ring initial lists = record { threads = length lists; ring = ring; initial = initial }

-- in this setting there is a schedule without effects that is done and collects these lists, and each of whose steps
-- is accepted
pub record Replays (ring : ℕ) (initial : List ℕ) (lists : List (List Event)) : Type 0 where
  pub schedule : List Attempt
  pub without_effects : IsTrue (list_all (λ attempt. not (is_effect attempt.step)) schedule)
  pub all_accepted : accepted (setting_for ring initial lists) schedule ≡ map (λ attempt. attempt.step) schedule
  pub is_done : IsDone (setting_for ring initial lists) schedule
  pub collects : collected_lists (setting_for ring initial lists) schedule ≡ lists

-- ---- effects

-- the thread and the operation's number of each effect, in the order of the effects
abbrev pub effected : List Step → List (ℕ × ℕ)
effected [] = []
effected (Effect t ∷ before) = effected before ++ (t, answers t before) ∷ []
effected (_ ∷ before) = effected before

-- the operation with number n in the list of one thread, of the events at places 2n and 2n + 1
abbrev pub operation_in : List Event → ℕ → Option Operation
operation_in events n = elim (slice_get events (2 * n)) [
  | None ↦ None
  | Some call ↦ operation_of call (slice_get events (2 * n + 1))
]

-- the operation with this thread and number
abbrev pub operation_at : Setting → List Step → ℕ × ℕ → Option Operation
operation_at setting steps (t, n) = operation_in (events setting t steps) n

-- the operations in the order of their effects
abbrev pub effects_order : Setting → List Step → List Operation
effects_order setting steps = filter_map (operation_at setting steps) (effected steps)

-- the kind of an operation with this request and this answer
abbrev pub kind_told : Request → Answer → OpKind
kind_told (ask_for.Enqueue value) Taken = Enqueue value
kind_told (ask_for.Enqueue value) _ = EnqueueFailed value
kind_told ask_for.Dequeue (Got value) = Dequeue value
kind_told ask_for.Dequeue _ = DequeueEmpty

-- the kinds of the effects, in their order
abbrev pub effect_kinds : Setting → List Step → List OpKind
effect_kinds setting [] = []
effect_kinds setting (Effect t ∷ before) =
    with_last (effect_kinds setting before)
    (option_map (λ asked. kind_told asked (effect_answer setting t before)) (request t before))
effect_kinds setting (_ ∷ before) = effect_kinds setting before
