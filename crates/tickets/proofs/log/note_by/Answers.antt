use Rattle.std.proofs.Common.{rules}
use mathlib.Core.Option.{none}
use Rattle.atomic_table.specs.Table.{step}
use Rattle.tickets.specs.Inner.Account.{NotesAt}
use Rattle.tickets.proofs.Steps.{allows_play, notes}
use Rattle.tickets.proofs.log.note_by.Goals as goal

pub load-requires : goal.load-requires
load-requires g c =
    let key = c.tickets.inside.table.shared.key in
    let me = c.args.seat.now.me in
    let the_step = step c.tickets.inside.table.shared.table_id.slots 0 0 0 none in (
      search rules,
      search rules,
      allows_play _ _ _ me _ (λ n. n) (NotesAt c.args.call c.args.effect me.0) (g.M.Play.then the_step me)
          (notes key _ _ me c.args.call c.args.effect c.requires.knows c.requires.drew) (c.requires.tells the_step),
    )
