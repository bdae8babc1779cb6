-- A run whose notes are a log that a queue accepts is a run of a proved queue.
use Rattle.std.proofs.Common.{◌≡◌, ◌≢◌, ℕ, ◌≤◌, List, map, All, refl, sym, subst, IsPermutation, arith}
use Rattle.std.proofs.lemmas.List.Elements.{All-weaker}
use Rattle.std.specs.Prelude.{IsSome}
use Rattle.event_records.specs.declared.event.Event.{Event}
use Rattle.event_records.specs.declared.kind.Kind.{Kind}
use Rattle.event_records.specs.declared.limits.TheConstants.{LEAST_INITIAL_NAME}
use Rattle.history_merge.specs.Legal.{IsLegalOrder}
use Rattle.history_merge.specs.Merge.{IsMerged}
use Rattle.history_merge.specs.Operations.{operations_of}
use Rattle.history_merge.specs.Queue.{IsAccepted}
use Rattle.history_merge.specs.declared.operation.Operation.{Operation}
use Rattle.history_merge.specs.declared.operation.OpKind.{OpKind}
use Rattle.queue_interface.specs.Answers.{AnswersInKind}
use Rattle.recorder_core.specs.Initial.{AreInitialNames}
use Rattle.recorder_core.specs.Replay.{AreRecorded}
use Rattle.recorder_core.proofs.Fitting.{merged_is_complete_from, recorded_is_fit}
use Rattle.recorder_core.proofs.Replayed.{lists_replay}
use Rattle.stress_run.specs.Bounded.{accept_all_within}
use Rattle.stress_run.specs.Faults.{IsWithinLimits}
use Rattle.stress_run.specs.Inner.Proved.{IsProvedRun, IsRunWithin}
use Rattle.stress_run.specs.Noted.{AreNotesOfAll, kinds_noted}
use Rattle.stress_run.specs.Operations.{IsRun}
use Rattle.stress_run.proofs.Accepting.{noted_accepted, noted_within}
use Rattle.stress_run.proofs.Told.{linearized}
use Rattle.tickets.specs.declared.TheConstants.{NO_VALUE}
use Rattle.tickets.specs.declared.note.Note.{Note}
use Rattle.tickets.specs.Log.{LooksRise}
use Rattle.tickets.specs.Queue.{bounded_after, queue_after}

module _ (initial : List ℕ) (lists : List (List Event)) (total : ℕ) (noted log : List Note) (names : AreInitialNames initial) (recorded : AreRecorded lists)
    (told : AreNotesOfAll lists noted) (logged : IsPermutation noted log) (rise : LooksRise 0 log total) (accepted : IsAccepted initial (kinds_noted log)) where
  ordered : (merged : List Event) → IsMerged lists merged
      → (order : List Operation) × IsLegalOrder initial (operations_of merged) order × (map (λ o. o.kind) order ≡ kinds_noted log)
  ordered merged is = linearized _ _ _ merged (recorded_is_fit lists recorded) told logged is initial total rise accepted

  pub proved_run : (plan : List (List Kind)) (ring tries : ℕ) → IsWithinLimits ring tries → IsRun AnswersInKind plan lists total
      → IsProvedRun plan ring initial (record { initial = initial; lists = lists; total = total })
  proved_run plan ring tries within run =
      let fit = recorded_is_fit lists recorded in
      record {
        recorded = run;
        from_initial = refl;
        lists = recorded;
        replays = lists_replay _ fit _ _ (omega (arith, within.0));
        fits = λ merged is. merged_is_complete_from _ merged fit is _ names;
        linearizable = λ merged is. (let o = ordered merged is in (o.0, o.1));
      }

  -- if a bounded queue accepts the log, the run is one of it
  pub proved_within : (room : ℕ) → IsSome (accept_all_within room initial (kinds_noted log))
      → IsRunWithin room initial (record { initial = initial; lists = lists; total = total })
  proved_within room bounded merged is =
      let o = ordered merged is in
      (o.0, o.1, subst (λ (kinds : List OpKind). IsSome (accept_all_within room initial kinds)) (sym o.2) bounded)

-- the notes are those of a log that a bounded queue accepts which held these values first
abbrev pub AreBounded : (room : ℕ) (held : List ℕ) (noted : List Note) (total : ℕ) → Type 0
AreBounded room held noted total = (log : List Note) × IsPermutation noted log × LooksRise 0 log total × IsSome (queue_after held log)
    × IsSome (bounded_after room held log)

module _ (room total : ℕ) (held initial : List ℕ) (noted : List Note) (lists : List (List Event)) (bounded : AreBounded room held noted total)
    (same : held ≡ initial) (names : AreInitialNames initial) (recorded : AreRecorded lists) (told : AreNotesOfAll lists noted) where
  accepted : IsAccepted initial (kinds_noted bounded.0)
  accepted = subst (λ (values : List ℕ). IsAccepted values (kinds_noted bounded.0)) same (noted_accepted _ bounded.0 bounded.3)

  pub proved_ring : (plan : List (List Kind)) (ring tries : ℕ) → IsWithinLimits ring tries → IsRun AnswersInKind plan lists total
      → IsProvedRun plan ring initial (record { initial = initial; lists = lists; total = total })
  proved_ring = proved_run initial lists total noted bounded.0 names recorded told bounded.1 bounded.2 accepted

  pub within_ring : (size : ℕ) → room ≡ size → IsRunWithin size initial (record { initial = initial; lists = lists; total = total })
  within_ring size is = proved_within initial lists total noted bounded.0 names recorded told bounded.1 bounded.2 accepted size
      (noted_within _ _ _ _ bounded.0 is same bounded.4)

-- no initial value is the mark of an empty node
pub no_mark : (values : List ℕ) → AreInitialNames values → All (λ v. v ≢ NO_VALUE) values
no_mark values names = All-weaker (λ (v : ℕ). LEAST_INITIAL_NAME ≤ v) (λ (v : ℕ). v ≢ NO_VALUE) (λ v low e. absurd (omega (arith, low, e))) values names.above_names
