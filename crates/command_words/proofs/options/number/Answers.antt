use Rattle.std.proofs.Common.{◌∙◌, ap, sym, Option, unwrap_or, []}
use Rattle.std.specs.Str.Parse.{digits_value, without_leading_plus}
use Rattle.clap.specs.Matches.{found_of}
use Rattle.clap.specs.Values.{IsUnsignedIn}
use Rattle.clap.specs.Walk.{Text}
use Rattle.command_words.proofs.Texts.{parses, some_text, that_text}
use Rattle.command_words.proofs.options.number.Goals as goal

pub unreachable-requires : goal.unreachable-requires
unreachable-requires c = some_text (found_of c.args.matches.now) c.args.id.now c.get_str.result c.get_str.ensures
    (IsUnsignedIn c.requires.0 c.requires.1) c.requires.2 c.in_default.is

pub unreachable-requires-in_default-parse : goal.unreachable-requires-in_default-parse
unreachable-requires-in_default-parse c =
    parses (found_of c.args.matches.now) c.args.id.now c.get_str.result c.get_str.ensures c.in-Some.text c.in-Some.is c.requires.0 c.requires.1
    c.requires.2 c.parse.result c.parse.ensures.value.0 _ c.in_default-parse.is

pub returns : goal.returns
returns c =
    let parsed = rw c.in-Ok.is at c.parse.ensures.value.0 in
    parsed.1 ∙ ap (λ (o : Option Text). digits_value 10 (without_leading_plus (unwrap_or o [])))
    (sym (that_text (found_of c.args.matches.now) c.args.id.now c.get_str.result c.get_str.ensures c.in-Some.text c.in-Some.is))
