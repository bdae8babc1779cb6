use Rattle.std.proofs.Common.{◌∙◌, ap, sym}
use Rattle.clap.specs.Matches.{found_of}
use Rattle.command_words.specs.Options.{is_given}
use Rattle.command_words.proofs.Texts.{absent, that_text}
use Rattle.command_words.proofs.options.has_flag.Goals as goal

pub returns-in-None : goal.returns-in-None
returns-in-None c = ap is_given (absent (found_of c.args.matches.now) c.args.name.now c.get_str.result c.get_str.ensures c.in-None.is)

pub returns-in-Some : goal.returns-in-Some
returns-in-Some c =
    c.is_given.ensures
    ∙ sym (ap is_given (that_text (found_of c.args.matches.now) c.args.name.now c.get_str.result c.get_str.ensures c.in-Some.text c.in-Some.is))
