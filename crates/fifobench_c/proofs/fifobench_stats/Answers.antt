use Rattle.fifobench_c.proofs.Common.{inl, AnswersOf, false, input_of, stats}
use Rattle.fifobench_c.proofs.Telling.{told_one}
use Rattle.fifobench_c.proofs.fifobench_stats.Goals as goal

pub returns : goal.returns
returns c = told_one (AnswersOf (stats false)) (input_of c.args.text.now) _ _ _ _ _ (inl c.stats_text.ensures.found) c.tell.ensures
