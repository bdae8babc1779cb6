use Rattle.std.proofs.Common.{rules, refl, ◌+◌}
use Rattle.std.specs.Prelude.{None}
use mathlib.Core.Option.{none}
use Rattle.atomic_table.specs.Table.{step}
use Rattle.tickets.specs.Inner.Ring.{Glances, position}
use Rattle.tickets.proofs.Steps.{allows_play}
use Rattle.tickets.proofs.Ends.{glances}
use Rattle.tickets.proofs.ring.glance_by.Goals as goal

pub load-requires : goal.load-requires
load-requires g c =
    let me = c.args.seat.now.me in
    let place = c.args.place in
    let the_step = step c.tickets.inside.table.shared.table_id.slots 2 0 0 none in (
      search rules,
      search rules,
      allows_play _ _ _ me _ (λ n. n) (Glances c.args.call c.args.value (position place.room (place.at + 1)) place.room me.0) (g.M.Play.then the_step me)
          (glances c.tickets.inside.table.shared.key _ _ me c.args.call place.at place.seen place.room None c.requires.asks c.args.value refl
          c.requires.drew) (c.requires.tells the_step),
    )
