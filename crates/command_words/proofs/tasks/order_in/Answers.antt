use Rattle.std.proofs.Common.{◌≡◌, ◌∙◌, ap, sym, subst, map, [], refl}
use Rattle.clap.specs.Faults.{fault_of, is_simple_and_free}
use Rattle.clap.specs.Kinds.{HasKind}
use Rattle.clap.specs.Simple.{App}
use Rattle.command_words.specs.Commands.{is_quiet_subcommand, request_of_subcommand}
use Rattle.command_words.specs.Inner.Commands.{IsAnswerable}
use Rattle.command_words.proofs.Answerable.{answerable}
use Rattle.command_words.proofs.Parses.{met_in, of_program}
use Rattle.command_words.proofs.tasks.order_in.Goals as goal

pub returns-in-Ok-clause-ok : goal.returns-in-Ok-clause-ok
returns-in-Ok-clause-ok g c =
    of_program (λ (a : App). fault_of a (map g.T.AsStr.text c.args.args.now) ≡ []) is_simple_and_free _ c.in_ok-command.ensures refl c.in-Ok.ensures.kinds

pub returns-in-Ok-clause-task : goal.returns-in-Ok-clause-task
returns-in-Ok-clause-task g c =
    let met = met_in c.in-Ok.matches (map g.T.AsStr.text c.args.args.now) _ c.in_ok-command.ensures c.in-Ok.ensures.matches in
    ap request_of_subcommand (sym met) ∙ c.task_of-task.ensures.task

pub returns-in-Ok-clause-quiet : goal.returns-in-Ok-clause-quiet
returns-in-Ok-clause-quiet g c =
    let met = met_in c.in-Ok.matches (map g.T.AsStr.text c.args.args.now) _ c.in_ok-command.ensures c.in-Ok.ensures.matches in
    c.is_quiet_of-is_quiet.ensures ∙ ap is_quiet_subcommand met

pub returns-in-Err-clause-err : goal.returns-in-Err-clause-err
returns-in-Err-clause-err g c =
    of_program (λ (a : App). HasKind (fault_of a (map g.T.AsStr.text c.args.args.now)) c.in-Err.error) is_simple_and_free _ c.in_ok-command.ensures
    refl c.in-Err.ensures.kinds

pub task_of-task-requires : goal.task_of-task-requires
task_of-task-requires g c =
    let args = map g.T.AsStr.text c.args.args.now in
    let none = of_program (λ (a : App). fault_of a args ≡ []) is_simple_and_free _ c.in_ok-command.ensures refl c.in-Ok.ensures.kinds in
    let met = met_in c.in-Ok.matches args _ c.in_ok-command.ensures c.in-Ok.ensures.matches in
    subst IsAnswerable (sym met) (answerable args none)
