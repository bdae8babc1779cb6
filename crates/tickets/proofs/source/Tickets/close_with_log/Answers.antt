use Rattle.std.proofs.Common.{rules, sym, ap, ◌∙◌, ◌≡◌, subst, arith, refl, [], IsPermutation}
use Rattle.atomic_table.specs.Table.{Joins}
use Rattle.tickets.specs.Inner.Account.{logging, known_log, knows_log, holding, with_log, KeepsAccount}
use Rattle.tickets.specs.declared.account.Holding.{Holding}
use Rattle.tickets.specs.Account.{whole_of}
use Rattle.tickets.specs.Log.{LooksRise}
use Rattle.tickets.specs.Views.{TicketsView}
use Rattle.tickets.proofs.Steps.{takes, closes, settles}
use Rattle.tickets.proofs.source.Tickets.close_with_log.Goals as goal
use Rattle.tickets.proofs.source.Tickets.close_with_log.Goals.{After-free}

pub join_seat-requires : goal.join_seat-requires
join_seat-requires c =
    let v = c.into_parts-seat.result.0.me.0 in (
      search rules,
      search rules,
      search rules,
      search rules,
      subst (λ (w : Holding). Joins (KeepsAccount c.self.inside.table.shared.key) c.into_parts-seat.result.0.id v c.into_seat.result.id w (with_log v w) (holding 0 [] []))
          (sym (ap (λ m. m.0) c.into_seat.ensures.seat))
          (takes c.self.inside.table.shared.key c.into_parts-seat.result.0.id v c.into_seat.result.id c.args.log.notes (ap (λ m. m.0.log) c.into_parts-seat.ensures.seat)),
    )

-- the view of the seat that closes the table
joined : (c : After-free) → c.join_seat.new.seat.me.0 ≡ with_log (holding c.args.pass.left c.args.pass.drawn c.args.pass.noted) (logging c.args.log.notes)
joined c = ap (λ m. m.0) c.join_seat.ensures.2
    ∙ (λ i. with_log (c.into_parts-seat.ensures.seat i).0 (c.into_seat.ensures.seat i).0)

whole : (c : After-free) → whole_of c.join_seat.new.seat.me.0 ≡ c.self.inside.table.shared.key.budget
whole c =
    let shown = ap whole_of (joined c) in
    let budget = ap (λ (t : TicketsView). t.budget) c.self.view_is in
    let asked = c.requires.whole in
    omega arith

knows : (c : After-free) → knows_log c.join_seat.new.seat.me.0
knows c = subst knows_log (sym (joined c)) refl

pub returns-clause-drawn : goal.returns-clause-drawn
returns-clause-drawn c = sym (ap (λ (h : Holding). h.drawn) (joined c))
    ∙ closes c.self.inside.table.shared.key _ c.join_seat.new.seat.me.0 _ _ c.word-total.result (whole c) c.close_with-closed.ensures.values.2 c.word-total.ensures

settled : (c : After-free) → IsPermutation c.join_seat.new.seat.me.0.noted (known_log c.join_seat.new.seat.me.0.log)
    × LooksRise 0 (known_log c.join_seat.new.seat.me.0.log) c.word-total.result
settled c = settles c.self.inside.table.shared.key _ c.join_seat.new.seat.me.0 _ _ c.word-total.result (whole c) (knows c)
    c.close_with-closed.ensures.values.2 c.word-total.ensures

pub returns-clause-noted : goal.returns-clause-noted
returns-clause-noted c = subst (λ (h : Holding). IsPermutation h.noted (known_log h.log)) (joined c) (settled c).0

pub returns-clause-rise : goal.returns-clause-rise
returns-clause-rise c = subst (λ (h : Holding). LooksRise 0 (known_log h.log) c.word-total.result) (joined c) (settled c).1
