use Rattle.std.proofs.Common.{rules, refl}
use mathlib.Core.Option.{none}
use Rattle.atomic_table.specs.Table.{step}
use Rattle.tickets.specs.declared.account.Next.TheVariants.{Unknown}
use Rattle.tickets.specs.Inner.Ring.{FindsOne}
use Rattle.tickets.proofs.Steps.{allows_play}
use Rattle.tickets.proofs.Ends.{finds}
use Rattle.tickets.proofs.ring.find_by.Goals as goal

pub load-requires : goal.load-requires
load-requires g c =
    let me = c.args.seat.now.me in
    let place = c.args.place in
    let the_step = step c.tickets.inside.table.shared.table_id.slots 1 0 0 none in (
      search rules,
      search rules,
      allows_play _ _ _ me _ (λ n. n) (FindsOne c.args.call place.at me.0) (g.M.Play.then the_step me)
          (finds c.tickets.inside.table.shared.key _ _ me c.args.call place.at place.room Unknown c.requires.asks refl c.requires.drew)
          (c.requires.tells the_step),
    )
