use Rattle.fifobench_c.proofs.Common.{inl, subst, AnswersOf, check, input_of}
use Rattle.commands.specs.Outcomes.{answer_of}
use Rattle.fifobench_c.specs.Conditions.{condition_of}
use Rattle.fifobench_c.proofs.Telling.{told_one}
use Rattle.fifobench_c.proofs.fifobench_check_under.Goals as goal

pub returns : goal.returns
returns c =
    let found = subst (λ k. AnswersOf (check k) (input_of c.args.text.now) (answer_of c.check_text.result)) c.condition_of.ensures c.check_text.ensures.found in
    told_one (AnswersOf (check (condition_of c.args.condition))) (input_of c.args.text.now) _ _ _ _ _ (inl found) c.tell.ensures
