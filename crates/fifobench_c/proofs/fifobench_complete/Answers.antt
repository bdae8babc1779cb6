use Rattle.fifobench_c.proofs.Common.{inl, AnswersOf, complete, false, input_of}
use Rattle.fifobench_c.proofs.Telling.{told_one}
use Rattle.fifobench_c.proofs.fifobench_complete.Goals as goal

pub returns : goal.returns
returns c = told_one (AnswersOf (complete false)) (input_of c.args.text.now) _ _ _ _ _ (inl c.complete_text.ensures.found) c.tell.ensures
