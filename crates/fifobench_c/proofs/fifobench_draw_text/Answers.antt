use Rattle.fifobench_c.proofs.Common.{inl, AnswersOf, draw, drawing_as, input_of}
use Rattle.command_words.specs.declared.options.PictureForm.TheVariants.{Terminal}
use Rattle.fifobench_c.proofs.Telling.{told_one}
use Rattle.fifobench_c.proofs.fifobench_draw_text.Goals as goal

pub returns : goal.returns
returns c = told_one (AnswersOf (draw (drawing_as Terminal))) (input_of c.args.text.now) _ _ _ _ _ (inl (rw c.new-options.ensures at c.draw_text.ensures.found)) c.tell.ensures
