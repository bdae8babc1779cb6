use Rattle.commands.proofs.Common.{arith, carries, inl, IsLinearizable, List, operations_of, settings_of, subst, ℕ}
use Rattle.commands.proofs.Common.{◌∙◌}
use Rattle.commands.proofs.OneAnswer.{failed_run, recorded_run}
use Rattle.commands.proofs.Planned.{can_run, the_other}
use Rattle.commands.proofs.stress.stress_proved.Goals as goal

pub returns-clause-found : goal.returns-clause-found
returns-clause-found g c = inl (
  omega arith,
  recorded_run _ _ (settings_of c.args.options.now) c.in_ok-plan.plan
      c.in_ok-plan.ensures.planned c.in_ok-recorded.recorded c.in_ok-recorded.ensures.recorded c.in_ok-recorded.ensures.lists
      c.deref.result.now (c.deref.ensures.value ∙ c.in_ok-plan.ensures.first) c.in_ok-recorded.ensures.replays (λ place below. tt) _
      c.judge_run.ensures.found,
)

pub returns-in_err-recorded-clause-found : goal.returns-in_err-recorded-clause-found
returns-in_err-recorded-clause-found g c =
    let suits = can_run c.args.queue (settings_of c.args.options.now) c.in_ok-plan.plan c.requires.roles c.in_ok-plan.ensures.planned in
    let fault = the_other _ _ (λ is. c.in_err-recorded.ensures.roles (cc) suits) c.in_err-recorded.ensures.fault in
    rw (carries c.from_residual-in_err-recorded.result _ c.from_residual-in_err-recorded.ensures.1) (inl (
      omega arith,
      failed_run _ _ (settings_of c.args.options.now) c.in_ok-plan.plan _ c.requires.ranges
          c.in_ok-plan.ensures.planned c.deref.result.now (c.deref.ensures.value ∙ c.in_ok-plan.ensures.first) fault
          (λ place is. absurd (c.in_err-recorded.ensures.preloads place (cc))),
    ))

pub returns-clause-linearizable : goal.returns-clause-linearizable
returns-clause-linearizable g c = c.judge_run.ensures.linearizable (λ events merged.
    subst (λ (values : List ℕ). IsLinearizable values (operations_of events)) (c.deref.ensures.value ∙ c.in_ok-plan.ensures.first)
    (c.in_ok-recorded.ensures.linearizable events merged))
