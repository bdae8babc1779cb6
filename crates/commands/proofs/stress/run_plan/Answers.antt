use Rattle.commands.proofs.Common.{◌∙◌, carries, settings_of}
use Rattle.commands.proofs.OneAnswer.{failed_run, recorded_run}
use Rattle.commands.proofs.stress.run_plan.Goals as goal

pub returns-clause-found : goal.returns-clause-found
returns-clause-found g c = recorded_run _ _ (settings_of c.args.options.now) c.in_ok-plan.plan
    c.in_ok-plan.ensures.planned c.in_ok-recorded.recorded c.in_ok-recorded.ensures.recorded c.in_ok-recorded.ensures.lists
    c.deref.result.now (c.deref.ensures.value ∙ c.in_ok-plan.ensures.first) c.in_ok-recorded.ensures.replays c.in_ok-recorded.ensures.preloaded _
    c.judge_run.ensures.found

pub returns-in_err-recorded-clause-found : goal.returns-in_err-recorded-clause-found
returns-in_err-recorded-clause-found g c = rw (carries c.from_residual-in_err-recorded.result _ c.from_residual-in_err-recorded.ensures.1)
    (failed_run _ _ (settings_of c.args.options.now) c.in_ok-plan.plan _ c.requires.ranges
    c.in_ok-plan.ensures.planned c.deref.result.now (c.deref.ensures.value ∙ c.in_ok-plan.ensures.first) c.in_err-recorded.ensures.fault
    (λ place is. c.in_err-recorded.ensures.refused place (cc)))
