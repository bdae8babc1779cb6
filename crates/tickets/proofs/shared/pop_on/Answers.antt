use Rattle.std.proofs.Common.{rules, sym, ap, ◌∙◌, ◌≡◌, subst, arith, true}
use Rattle.std.specs.Prelude.{Contains}
use Rattle.tickets.specs.declared.account.Aim.TheVariants.{Find}
use Rattle.tickets.specs.Inner.Shared.{walk_at}
use Rattle.tickets.specs.Views.{TicketsView}
use Rattle.tickets.proofs.Walks.{peeks_at, claims_at, peeked_some}
use Rattle.tickets.proofs.shared.pop_on.Goals as goal

pub loop-table-init : goal.loop-table-init
loop-table-init c =
    let told = c.begin_take_by-at.ensures.told.1 in (search rules, told.0.0, λ i. (told.0.1 i, told.1 i))

pub load-value-requires : goal.load-value-requires
load-value-requires c =
    let key = c.tickets.inside.table.shared.key in
    let shared : key.is_shared ≡ true = ap (λ (t : TicketsView). t.shared) c.tickets.view_is ∙ c.requires.key.1 in
    let room = ap (λ (t : TicketsView). t.room) c.tickets.view_is in
    let words = (c.tickets.invariant.2 shared).0 in
    let is = c.loop-table.invariant.2 in
    let low = c.loop-table.invariant.1 in (
      search rules,
      omega arith,
      peeks_at key shared _ _ c.loop-table.seat.me c.args.call c.args.tickets.now.room c.loop-table.at (ap (λ m. m.0.walk) is)
          (subst (λ drawn. Contains drawn c.args.call) (sym (ap (λ m. m.0.drawn) is)) c.requires.drew),
    )

pub compare_exchange-found-requires : goal.compare_exchange-found-requires
compare_exchange-found-requires c =
    let key = c.tickets.inside.table.shared.key in
    let shared : key.is_shared ≡ true = ap (λ (t : TicketsView). t.shared) c.tickets.view_is ∙ c.requires.key.1 in
    let words = (c.tickets.invariant.2 shared).0 in
    let is = c.loop-table.invariant.2 in
    let walk = walk_at c.args.call c.args.tickets.now.room c.loop-table.at Find in
    let some_value = peeked_some walk c.loop-table.seat.me.0 c.load-value.result c.load-value.new.seat.me.0
    (c.load-value.ensures.2.0 walk (ap (λ m. m.0.walk) is)) c.if-value-eq-NO_VALUE.false in (
      search rules,
      omega arith,
      claims_at key shared _ _ c.load-value.new.seat.me c.args.call c.args.tickets.now.room c.loop-table.at c.load-value.result (ap (λ h. h.walk) some_value)
          (subst (λ drawn. Contains drawn c.args.call) (sym (ap (λ h. h.drawn) some_value ∙ ap (λ m. m.0.drawn) is)) c.requires.drew),
    )
