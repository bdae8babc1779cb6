use Rattle.std.proofs.Common.{rules, ap, ◌∙◌, ◌≡◌, arith, true, ◌<◌}
use mathlib.Core.Option.{none}
use Rattle.atomic_table.specs.Table.{step}
use Rattle.tickets.specs.Views.{TicketsView}
use Rattle.tickets.specs.Inner.Shared.{BeginsToPut}
use Rattle.tickets.proofs.Steps.{allows_play}
use Rattle.tickets.proofs.Walks.{begins_to_put}
use Rattle.tickets.proofs.shared.begin_put_by.Goals as goal

pub load-requires : goal.load-requires
load-requires g c =
    let me = c.args.seat.now.me in
    let shared : c.tickets.inside.table.shared.key.is_shared ≡ true = ap (λ (t : TicketsView). t.shared) c.tickets.view_is ∙ c.requires.key.1 in
    let sizes = c.tickets.invariant.2 shared in
    let in_row : 1 < c.tickets.inside.table.shared.table_id.words = omega (arith, sizes.0) in
    let the_step = step c.tickets.inside.table.shared.table_id.slots 1 0 0 none in (
      search rules,
      in_row,
      allows_play _ _ _ me _ (λ n. n) (BeginsToPut c.args.call c.args.value c.args.tickets.now.room me.0) (g.M.Play.then the_step me)
          (begins_to_put c.tickets.inside.table.shared.key shared _ _ me c.args.call c.args.value c.args.tickets.now.room
          (omega (arith, sizes.1, ap (λ (t : TicketsView). t.room) c.tickets.view_is))) (c.requires.tells the_step),
    )
