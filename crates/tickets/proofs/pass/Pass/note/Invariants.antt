use Rattle.std.proofs.Common.{◌≡◌}
use Rattle.tickets.specs.Inner.Account.{NotesAt}
use Rattle.tickets.proofs.pass.Pass.note.Given as goal

abbrev pub ghosts-note_by : goal.ghosts-note_by
ghosts-note_by a = record { then = λ _ before look after. NotesAt a.call a.effect before.0 look after.0 × (after.1 ≡ before.1) }
