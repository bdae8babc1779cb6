use Rattle.std.proofs.Common.{rules, ap, refl, false}
use Rattle.atomic_table.specs.Table.{Me}
use Rattle.tickets.specs.declared.account.Holding.{Holding}
use Rattle.tickets.proofs.Steps.{lends, first_knows}
use Rattle.tickets.proofs.Ends.{opens}
use Rattle.tickets.proofs.source.Tickets.with_log.Goals as goal

pub of_words-requires : goal.of_words-requires
of_words-requires c = opens (record { budget = c.args.budget; has_ring = false; is_shared = false; filled = 0; words = c.of.result }) refl refl c.requires

pub split_seat-log-requires : goal.split_seat-log-requires
split_seat-log-requires c = (
  search rules,
  search rules,
  lends c.in_ok-table.table.shared.key _ c.in_ok-table.seat.me.0
      (first_knows c.in_ok-table.seat.me.0 (record { budget = c.args.budget; has_ring = false; is_shared = false; filled = 0; words = c.of.result })
      refl refl (ap {A = Me (Unit {0}) Holding} (λ m. m.0) c.in_ok-table.ensures.4)),
)
