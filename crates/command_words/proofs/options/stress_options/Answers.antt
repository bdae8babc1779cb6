use Rattle.std.proofs.Common.{ap, sym, Option, unwrap_or, [], codes}
use Rattle.clap.specs.Matches.{found_of}
use Rattle.clap.specs.Walk.{Text}
use Rattle.command_words.proofs.Texts.{no_text, that_text}
use Rattle.command_words.proofs.options.stress_options.Goals as goal

pub unreachable-requires : goal.unreachable-requires
unreachable-requires c = no_text (found_of c.args.matches.now) (codes "queue") c.get_str.result c.get_str.ensures c.requires.queue c.in_default.is

pub returns-clause-settings : goal.returns-clause-settings
returns-clause-settings c =
    let queue = ap (λ (o : Option Text). unwrap_or o []) (sym (that_text (found_of c.args.matches.now)
    (codes "queue") c.get_str.result c.get_str.ensures c.in-Some.queue c.in-Some.is)) in
    λ i. record {
      queue = queue i;
      threads = c.number.ensures i;
      operations = c.number-2.ensures i;
      seed = c.number-3.ensures i;
      percent = c.number-4.ensures i;
      producers = c.number-5.ensures i;
      ring = c.number-6.ensures i;
      initial = c.number-7.ensures i;
      condition = c.judged_condition.ensures i;
    }
