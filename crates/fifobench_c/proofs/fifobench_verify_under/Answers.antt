use Rattle.fifobench_c.proofs.Common.{inl, subst, AnswersOf, input_of, verify}
use Rattle.commands.specs.Outcomes.{answer_of}
use Rattle.fifobench_c.specs.Conditions.{condition_of}
use Rattle.fifobench_c.proofs.Telling.{told_one}
use Rattle.fifobench_c.proofs.fifobench_verify_under.Goals as goal

pub returns : goal.returns
returns c =
    let found = subst (λ k. AnswersOf (verify k) (input_of c.args.claimed.now) (answer_of c.verify_text.result)) c.condition_of.ensures c.verify_text.ensures.found in
    told_one (AnswersOf (verify (condition_of c.args.condition))) (input_of c.args.claimed.now) _ _ _ _ _ (inl found) c.tell.ensures
