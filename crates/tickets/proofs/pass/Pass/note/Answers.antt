use Rattle.std.proofs.Common.{rules, sym, ap, subst, []}
use Rattle.atomic_table.specs.Table.{Joins}
use Rattle.tickets.specs.Inner.Account.{known_log, with_log, holding, KeepsAccount}
use Rattle.tickets.specs.declared.account.Holding.{Holding}
use Rattle.tickets.proofs.Steps.{lends, takes, noted_knows}
use Rattle.tickets.proofs.pass.Pass.note.Goals as goal

pub split_seat-known-requires : goal.split_seat-known-requires
split_seat-known-requires c = (search rules, search rules, lends c.tickets.inside.table.shared.key _ _ (ap (λ m. m.0.log) c.log.invariant))

pub join_seat-requires : goal.join_seat-requires
join_seat-requires c =
    let v = c.self.inside.seat.me.0 in
    let known = c.split_seat-known.result in
    let k = c.tickets.inside.table.shared.key in (
      search rules,
      search rules,
      search rules,
      search rules,
      subst (λ (w : Holding). Joins (KeepsAccount k) c.self.inside.seat.id v known.id w (with_log v w) (holding 0 [] []))
          (sym (ap (λ m. m.0) c.split_seat-known.ensures.4))
          (takes k c.self.inside.seat.id v known.id (known_log c.log.inside.seat.me.0.log) c.self.invariant.3),
    )

pub split_seat-requires : goal.split_seat-requires
split_seat-requires c = (
  search rules,
  search rules,
  lends c.tickets.inside.table.shared.key _ c.note_by-look.new.seat.me.0
      (noted_knows c.join_seat.new.seat.me.0 _ _ _ _ c.note_by-look.ensures.told.1.0.0),
)
