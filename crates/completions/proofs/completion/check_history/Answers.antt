use Rattle.std.proofs.Common.{Result, subst, sym}
use Rattle.std.specs.Prelude.{OnOk}
use Rattle.completions.specs.declared.fault.CompletionFault.{CompletionFault}
use Rattle.completions.specs.Faults.{MayBePending}
use Rattle.completions.proofs.Sound.{if_may_be_pending, on_ok, taken_may_be_pending}
use Rattle.completions.proofs.completion.check_history.Goals.{in-Ok, in-Err}
use Rattle.completions.proofs.completion.check_history.Goals as goal

pub returns-clause-found : goal.returns-clause-found
returns-clause-found c = λ initial events gathered.
    elim c.match-finish.branch [
      | in-Ok w ↦
          subst (λ (r : Result (Unit {0}) CompletionFault). OnOk r (MayBePending initial events)) (sym w.result-is)
          (taken_may_be_pending initial events w.in-Ok.field-0 (w.in-Ok.ensures.outcome initial events gathered) w.in-Ok.ensures.complete)
      | in-Err w ↦
          subst (λ (r : Result (Unit {0}) CompletionFault). OnOk r (MayBePending initial events)) (sym w.result-is)
          (on_ok w.allow_pending.result _ _ (if_may_be_pending initial events w.in-Err.fault (w.in-Err.ensures.outcome initial events gathered))
          w.allow_pending.ensures.pending)
    ]
