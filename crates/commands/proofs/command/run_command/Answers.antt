use Rattle.commands.proofs.Common.{◌≡◌, answer_of, inl, Some, stress, sym, ◌∙◌}
use Rattle.command_words.specs.Commands.{request_of}
use Rattle.commands.proofs.OneAnswer.{memory_printed, memory_ran_out, reads_out_of_memory}
use Rattle.commands.proofs.command.run_command.Goals as goal

pub returns-in-Err-clause-reads : goal.returns-in-Err-clause-reads
returns-in-Err-clause-reads g c = λ request none asked. reads_out_of_memory _ _ _ _ _ request _
    (memory_ran_out _ _ _ _ c.in-Err.error _ none c.in-Err.ensures.err c.explain-status.ensures.printed)

pub returns-in-Err-clause-stresses : goal.returns-in-Err-clause-stresses
returns-in-Err-clause-stresses g c = λ settings none asked. memory_printed _ _ _ _ _ _
    (memory_ran_out _ _ _ _ c.in-Err.error _ none c.in-Err.ensures.err c.explain-status.ensures.printed)

pub returns-clause-stresses : goal.returns-clause-stresses
returns-clause-stresses g c = λ settings none asked.
    let named : Some (request_of c.in-Ok.order.task) ≡ Some (stress settings) = sym c.in-Ok.ensures.task ∙ asked in
    let same : request_of c.in-Ok.order.task ≡ stress settings = cc in
    rw (← c.in-Ok.ensures.quiet) (record {
      answer = answer_of c.outcome_of-outcome.result;
      right = inl (c.outcome_of-outcome.ensures.stresses settings same);
      printed = c.print_outcome-status.ensures.printed;
    })
