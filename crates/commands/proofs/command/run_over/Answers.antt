use Rattle.commands.proofs.Common.{AnswersOf, AnswersOrNoMemory, PrintsOneOf}
use Rattle.commands.proofs.OneAnswer.{behind, behind_one}
use Rattle.commands.specs.Running.{ExplainsUse}
use Rattle.command_words.specs.Commands.{faults_in, is_quiet_in}
use Rattle.std.proofs.Common.{map, refl}
use Rattle.commands.proofs.command.run_over.Goals as goal

pub returns-clause-reads : goal.returns-clause-reads
returns-clause-reads g c = λ request none asked.
    let read = c.run_command-status.ensures.reads request none asked in record {
      input = read.input;
      may = rw c.new-2.ensures at read.may;
      is_so = rw (c.into_inner-3.ensures, c.into_inner-2.ensures, c.into_inner.ensures)
          (behind (λ old new r. PrintsOneOf (is_quiet_in (map g.T.AsStr.text c.args.args.now)) (AnswersOrNoMemory (AnswersOf request) read.input)
          old new r c.run_command-status.result) (g.O.Write.contents c.args.output) _ c.run_command-status.new.writer.kept _ _
          c.run_command-status.ensures.passed_on (rw (c.new-output.ensures, c.new.ensures) at read.is_so));
    }

pub returns-clause-usage : goal.returns-clause-usage
returns-clause-usage g c = λ some.
    let told = c.run_command-status.ensures.usage some in
    rw (c.into_inner-3.ensures, c.into_inner-2.ensures, c.into_inner.ensures)
    (behind (λ old new r. ExplainsUse (faults_in (map g.T.AsStr.text c.args.args.now)) old new r c.run_command-status.result)
    (g.O.Write.contents c.args.output) _ c.run_command-status.new.writer.kept _ _ c.run_command-status.ensures.passed_on
    (rw (c.new-output.ensures, c.new.ensures) at told))

pub returns-clause-stresses : goal.returns-clause-stresses
returns-clause-stresses g c = λ settings none asked.
    let ran = c.run_command-status.ensures.stresses settings none asked in
    rw (c.into_inner-3.ensures, c.into_inner-2.ensures, c.into_inner.ensures)
    (behind_one (is_quiet_in (map g.T.AsStr.text c.args.args.now)) _ c.run_command-status.result (g.O.Write.contents c.args.output) _
    c.run_command-status.new.writer.kept _ _ c.run_command-status.ensures.passed_on (rw (c.new-output.ensures, c.new.ensures) at ran))

pub returns-clause-said : goal.returns-clause-said
returns-clause-said g c = λ none input output many.
    let told = c.run_command-status.ensures.said none input output (rw c.new-errors.ensures refl) many in
    rw (c.into_inner-5.ensures, c.into_inner-4.ensures) (c.run_command-status.new.errors.has_refused, rw c.new-errors.ensures at told)
