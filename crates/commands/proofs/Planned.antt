-- A proved queue runs only plans that it can run, so its run has no fault of roles.
use Rattle.std.proofs.Common.{◌≡◌, ◌≢◌, ◌⊎◌, ◌∙◌, inl, inr, ℕ, zero, suc, ◌<◌, ◌-◌, List, [], ◌∷◌, ◌++◌, length}
use Rattle.std.proofs.Common.{length-append, ap, ap₂, sym, subst, arith, refl}
use Rattle.std.specs.Prelude.{Contains, min, replicate}
use Rattle.std.proofs.lemmas.List.{get_or-replicate, length-replicate}
use Rattle.event_records.specs.declared.kind.Kind.{Kind}
use Rattle.event_records.specs.declared.kind.Kind.TheVariants.{Enq, Deq}
use Rattle.stress_run.specs.Roles.{CanRun, HasOneOfEach}
use Rattle.stress_run.specs.declared.proving.ProvedQueue.{ProvedQueue}
use Rattle.stress_run.specs.declared.proving.ProvedQueue.TheVariants.{OneLock, TwoLocks, LockFree, Ring}
use Rattle.command_words.specs.Options.{Settings}
use Rattle.commands.specs.Answers.{Reply, ShowsNoViolation}
use Rattle.commands.specs.Stressing.{AsksForOneOfEach, IsPlanned, IsProvedName, proved_name, StressesUnshelved, SuitsRoles}

-- a row of one kind has none of another
only_kind : (n : ℕ) (have seek : Kind) → have ≢ seek → ¬ Contains (replicate n have) seek
only_kind n have seek differs (k, inside, is) =
    let size = length-replicate n have in
    differs (sym (get_or-replicate n k have seek (omega (arith, size, inside))) ∙ is)

-- a plan of one row has one of each
one_row : (rows : List (List Kind)) → length rows ≡ 1 → HasOneOfEach rows
one_row rows one kind i j d before inside = absurd (omega (arith, one, before, inside))

-- a row of enqueues and one of dequeues
two_rows : (n : ℕ) → HasOneOfEach (replicate n Enq ∷ replicate n Deq ∷ [])
two_rows n Enq zero zero d before inside = absurd (omega (arith, before))
two_rows n Enq zero (suc zero) d before inside = λ enqueues. only_kind n Deq Enq (λ same. cc)
two_rows n Enq zero (suc (suc j)) d before inside = absurd (omega (arith, inside))
two_rows n Enq (suc i) j d before inside = absurd (omega (arith, before, inside))
two_rows n Deq zero zero d before inside = absurd (omega (arith, before))
two_rows n Deq zero (suc zero) d before inside = λ dequeues. absurd (only_kind n Enq Deq (λ same. cc) dequeues)
two_rows n Deq zero (suc (suc j)) d before inside = absurd (omega (arith, inside))
two_rows n Deq (suc i) j d before inside = absurd (omega (arith, before, inside))

-- a plan has a row for each worker
rows_are_workers : (settings : Settings) (plan : List (List Kind)) → IsPlanned settings plan → length plan ≡ settings.threads
rows_are_workers settings plan (inl (none, seeded)) = seeded.all_workers
rows_are_workers settings plan (inr (some, roles)) =
    let first = replicate (min settings.producers settings.threads) (replicate settings.operations Enq) in
    let rest = replicate (settings.threads - min settings.producers settings.threads) (replicate settings.operations Deq) in
    let whole = ap length roles in
    let sum = length-append first rest in
    let producers = length-replicate (min settings.producers settings.threads) (replicate settings.operations Enq) in
    let consumers = length-replicate (settings.threads - min settings.producers settings.threads) (replicate settings.operations Deq) in
    omega (arith, whole, sum, producers, consumers)

-- so has the plan of one worker, and that of two of which one is a producer
pub planned_has_one : (settings : Settings) (plan : List (List Kind)) → AsksForOneOfEach settings → IsPlanned settings plan → HasOneOfEach plan
planned_has_one settings plan (inl alone) planned = one_row plan (rows_are_workers settings plan planned ∙ alone)
planned_has_one settings plan (inr both) (inl (none, seeded)) = absurd (omega (arith, both.1, none))
planned_has_one settings plan (inr both) (inr (some, roles)) =
    let parts = ap₂ (λ (workers producers : ℕ). replicate (min producers workers) (replicate settings.operations Enq)
    ++ replicate (workers - min producers workers) (replicate settings.operations Deq)) both.0 both.1 in
    subst HasOneOfEach (sym (roles ∙ parts)) (two_rows settings.operations)

-- the queue can run the plan
pub can_run : (queue : ProvedQueue) (settings : Settings) (plan : List (List Kind)) → SuitsRoles queue settings → IsPlanned settings plan → CanRun queue plan
can_run Ring settings plan suits planned = planned_has_one settings plan (suits refl) planned
can_run OneLock settings plan suits planned = tt
can_run TwoLocks settings plan suits planned = tt
can_run LockFree settings plan suits planned = tt

-- what is one of two and not the first is the second
pub the_other : (A B : Type 0) → ¬ A → A ⊎ B → B
the_other A B none (inl a) = absurd (none a)
the_other A B none (inr b) = b

-- what is answered of the name of a proved queue shows no violation
pub no_violation : (settings : Settings) (answer : Reply) → IsProvedName settings.queue → StressesUnshelved settings answer → ShowsNoViolation answer
no_violation settings answer named (inl (queue, is, inl (suits, run))) = run.1
no_violation settings answer named (inl (queue, is, inr (unsuited, refused))) = subst ShowsNoViolation (sym refused) tt
no_violation settings answer named (inr (none, refused)) = absurd (none named)
