use Rattle.std.proofs.Common.{◌∙◌, ap, codes}
use Rattle.std.proofs.lemmas.Result.{IfOk-weaker}
use Rattle.clap.specs.Simple.{with_subcommand}
use Rattle.command_words.specs.Options.{the_deciding, the_draw, the_verify}
use Rattle.command_words.proofs.commands.with_first_four.Goals as goal

pub returns : goal.returns
returns c =
    let check = c.in_ok-with_check.ensures (the_deciding (codes "check")) c.deciding_command-check.ensures.shape in
    let shrink = c.in_ok-with_shrink.ensures (the_deciding (codes "shrink")) c.deciding_command-shrink.ensures.shape
    ∙ ap (λ a. with_subcommand a (the_deciding (codes "shrink"))) check in
    let verify = c.in_ok-with_verify.ensures the_verify c.verify_command.ensures.shape ∙ ap (λ a. with_subcommand a the_verify) shrink in
    IfOk-weaker c.with-4.result _ _ (λ r h. h ∙ ap (λ a. with_subcommand a the_draw) verify) (c.with-4.ensures the_draw c.draw_command.ensures.shape)
