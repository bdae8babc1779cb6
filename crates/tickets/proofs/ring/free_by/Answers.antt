use Rattle.std.proofs.Common.{rules, refl}
use mathlib.Core.Option.{none}
use Rattle.atomic_table.specs.Table.{step}
use Rattle.tickets.specs.declared.account.Next.TheVariants.{Holds}
use Rattle.tickets.specs.Inner.Ring.{Frees}
use Rattle.tickets.proofs.Steps.{allows_play}
use Rattle.tickets.proofs.Ends.{frees}
use Rattle.tickets.proofs.ring.free_by.Goals as goal

pub store-requires : goal.store-requires
store-requires g c =
    let n = c.next_position-next.result in
    let me = c.args.seat.now.me in
    let place = c.args.place in
    let the_step = step c.tickets.inside.table.shared.table_id.slots 2 n 0 none in (
      search rules,
      search rules,
      allows_play _ _ _ me _ (λ _. n) (λ _. Frees c.args.call c.args.value me.0) (λ _. g.M.Play.then the_step me n)
          (frees c.tickets.inside.table.shared.key _ _ me c.args.call place.at place.room (Holds c.args.value) c.requires.read
          c.args.value n refl c.next_position-next.ensures.next c.requires.drew) (λ _. c.requires.tells the_step n),
    )
