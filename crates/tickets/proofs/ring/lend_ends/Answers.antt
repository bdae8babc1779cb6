use Rattle.std.proofs.Common.{rules, sym, ap, subst, []}
use Rattle.atomic_table.specs.Table.{Joins}
use Rattle.tickets.specs.declared.account.Holding.{Holding}
use Rattle.tickets.specs.Inner.Account.{holding, KeepsAccount}
use Rattle.tickets.specs.Inner.Ring.{with_ends}
use Rattle.tickets.proofs.Ends.{parts, takes_ends}
use Rattle.tickets.proofs.ring.lend_ends.Goals as goal

pub split_seat-right-requires : goal.split_seat-right-requires
split_seat-right-requires c = (search rules, search rules, parts c.tickets.inside.table.shared.key _ _)

pub join_seat-requires : goal.join_seat-requires
join_seat-requires c =
    let v = c.args.to.now.me.0 in
    let right = c.split_seat-right.result in
    let key = c.tickets.inside.table.shared.key in (
      search rules,
      search rules,
      search rules,
      search rules,
      subst (λ (w : Holding). Joins (KeepsAccount key) c.args.to.now.id v right.id w (with_ends v w) (holding 0 [] []))
          (sym (ap (λ m. m.0) c.split_seat-right.ensures.4))
          (takes_ends key c.args.to.now.id v right.id c.args.from.now.me.0.tail c.args.from.now.me.0.head c.requires.apart),
    )
