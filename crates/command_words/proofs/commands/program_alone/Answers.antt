use Rattle.std.proofs.Common.{◌≡◌, ◌∙◌, ap, true}
use Rattle.clap.specs.Simple.{App, app_of, app_of_fields}
use Rattle.command_words.proofs.commands.program_alone.Goals as goal

abbrev versioned : App → App
versioned a = record a { top = record a.top { has_version = true } }

abbrev wanting : App → App
wanting a = record a { top = record a.top { subcommand_required = true } }

pub returns : goal.returns
returns c =
    let about : app_of c.about.result ≡ app_of c.new.result = ap app_of_fields c.about.ensures in
    let short : app_of c.after_help.result ≡ app_of c.about.result = ap app_of_fields c.after_help.ensures in
    let long : app_of c.after_long_help.result ≡ app_of c.after_help.result = ap app_of_fields c.after_long_help.ensures in
    let version : app_of c.version.result ≡ versioned (app_of c.after_long_help.result) = ap app_of_fields c.version.ensures in
    let required : app_of c.subcommand_required.result ≡ wanting (app_of c.version.result) = ap app_of_fields c.subcommand_required.ensures in
    required ∙ ap wanting (version ∙ ap versioned (long ∙ (short ∙ (about ∙ c.new.ensures.app))))
