-- The rows after a subcommand's arguments without a fault.
use Rattle.std.proofs.Common.{◌≡◌, Bool, true, false, List, []}
use Rattle.std.specs.Prelude.{IsSomeAnd}
use Rattle.clap.specs.Faults.{check_fault, level_fault, settle_fault, walk_fault}
use Rattle.clap.specs.Simple.{Shape}
use Rattle.clap.specs.Takes.{is_given}
use Rattle.clap.specs.Walk.{Text, Walk, first_of, nothing_held, rows_after, settled, walk, walk_from}
use Rattle.command_words.proofs.NoKinds.{first_none, then_none}
use Rattle.command_words.proofs.Rows.{DefaultsPass, HasDefault, RowsPass, defaults_pass, first_of_passes, given_has_row, has_default}
use Rattle.command_words.proofs.Walks.{FindsWell, walk_passes}

module _ (test : Text → Text → Bool) (s : Shape) (rest : List Text) (well : FindsWell test s.rules) (defaults : DefaultsPass test s.rules)
    (none : level_fault s [] nothing_held rest false [] ≡ []) where
  abbrev end : Walk
  end = walk s.rules [] nothing_held rest

  walks : walk_fault s [] (walk_from nothing_held) rest ≡ []
  walks = first_none _ _ none

  settles : settle_fault s.rules s.args_override_self end.held ≡ []
  settles = first_none _ _ (then_none [] _ (then_none (walk_fault s [] (walk_from nothing_held) rest) _ none))

  -- the last checks of the level
  pub last_checks : check_fault s (rows_after s.rules [] rest) false ≡ []
  last_checks = then_none _ _ (then_none _ _ (then_none [] _ (then_none (walk_fault s [] (walk_from nothing_held) rest) _ none)))

  rows_pass : RowsPass test (rows_after s.rules [] rest)
  rows_pass = defaults_pass test s.rules (settled s.rules end.held).rows defaults (walk_passes test s [] well rest (walk_from nothing_held) walks tt settles)

  -- an option with a default has a first value, which passes
  pub first_by_default : (id : Text) → HasDefault id s.rules → IsSomeAnd (first_of id (rows_after s.rules [] rest)) (λ v. test id v ≡ true)
  first_by_default id default = first_of_passes test id (rows_after s.rules [] rest) (has_default id s.rules (settled s.rules end.held).rows default) rows_pass

  -- an option that was given has a first value, which passes
  pub first_given : (id : Text) → is_given id (rows_after s.rules [] rest) ≡ true → IsSomeAnd (first_of id (rows_after s.rules [] rest)) (λ v. test id v ≡ true)
  first_given id given = first_of_passes test id (rows_after s.rules [] rest) (given_has_row id (rows_after s.rules [] rest) given) rows_pass
