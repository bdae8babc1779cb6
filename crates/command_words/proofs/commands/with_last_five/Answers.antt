use Rattle.std.proofs.Common.{◌∙◌, ap, codes}
use Rattle.std.proofs.lemmas.Result.{IfOk-weaker}
use Rattle.clap.specs.Simple.{App, new_shape, with_subcommand}
use Rattle.command_words.specs.Options.{the_complete, the_judging, the_stats, the_stress}
use Rattle.command_words.proofs.commands.with_last_five.Goals as goal

pub returns : goal.returns
returns c =
    let top = λ (a : App). a.top in
    let convert = c.in_ok-with_convert.ensures (new_shape (codes "convert")) (ap top c.plain_command-convert.ensures.app) in
    let complete = c.in_ok-with_complete.ensures the_complete c.complete_command.ensures.shape ∙ ap (λ a. with_subcommand a the_complete) convert in
    let stats = c.in_ok-with_stats.ensures the_stats c.stats_command.ensures.shape ∙ ap (λ a. with_subcommand a the_stats) complete in
    let sim = c.in_ok-with_sim.ensures (the_judging (codes "sim")) c.judging_command-sim.ensures.shape
    ∙ ap (λ a. with_subcommand a (the_judging (codes "sim"))) stats in
    IfOk-weaker c.with-5.result _ _ (λ r h. h ∙ ap (λ a. with_subcommand a the_stress) sim)
    (c.with-5.ensures the_stress c.stress_command.ensures.shape)
