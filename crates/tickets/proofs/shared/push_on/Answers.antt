use Rattle.std.proofs.Common.{rules, sym, ap, ◌∙◌, ◌≡◌, subst, arith, true}
use Rattle.std.specs.Prelude.{Contains, None}
use Rattle.tickets.specs.declared.account.Aim.TheVariants.{Put}
use Rattle.tickets.specs.Inner.Shared.{walk_at}
use Rattle.tickets.specs.Views.{TicketsView}
use Rattle.tickets.proofs.Walks.{links_at, helps_at, declines_at, linked_hit, linked_miss}
use Rattle.tickets.proofs.shared.push_on.Goals as goal

pub loop-at-init : goal.loop-at-init
loop-at-init c =
    let told = c.begin_put_by-at.ensures.told.1 in (search rules, told.0.0, λ i. (told.0.1 i, told.1 i))

pub compare_exchange-found-requires : goal.compare_exchange-found-requires
compare_exchange-found-requires c =
    let key = c.tickets.inside.table.shared.key in
    let shared : key.is_shared ≡ true = ap (λ (t : TicketsView). t.shared) c.tickets.view_is ∙ c.requires.key.1 in
    let room = ap (λ (t : TicketsView). t.room) c.tickets.view_is in
    let words = (c.tickets.invariant.2 shared).0 in
    let is = c.loop-at.invariant.2 in
    let inside = c.loop-at-test.true in (
      search rules,
      omega arith,
      links_at key shared _ _ c.loop-at.seat.me c.args.call c.args.tickets.now.room c.loop-at.at c.args.value (ap (λ m. m.0.walk) is)
          (omega arith) (search rules) (subst (λ drawn. Contains drawn c.args.call) (sym (ap (λ m. m.0.drawn) is)) c.requires.drew),
    )

pub compare_exchange-requires : goal.compare_exchange-requires
compare_exchange-requires c =
    let key = c.tickets.inside.table.shared.key in
    let shared : key.is_shared ≡ true = ap (λ (t : TicketsView). t.shared) c.tickets.view_is ∙ c.requires.key.1 in
    let words = (c.tickets.invariant.2 shared).0 in
    let walk = walk_at c.args.call c.args.tickets.now.room c.loop-at.at (Put c.args.value) in
    let hit = linked_hit walk c.args.value c.loop-at.seat.me.0 c.compare_exchange-found.result c.compare_exchange-found.new.seat.me.0
    (c.compare_exchange-found.ensures.2.0 walk (ap (λ m. m.0.walk) c.loop-at.invariant.2)) c.if-found-eq-NO_VALUE.true in (
      search rules,
      omega arith,
      helps_at key shared _ _ c.compare_exchange-found.new.seat.me c.args.call c.args.tickets.now.room c.loop-at.at c.args.value None
          (ap (λ h. h.walk) hit.1) (λ _ _. tt),
    )

pub compare_exchange-requires-in-loop-at : goal.compare_exchange-requires-in-loop-at
compare_exchange-requires-in-loop-at c =
    let key = c.tickets.inside.table.shared.key in
    let shared : key.is_shared ≡ true = ap (λ (t : TicketsView). t.shared) c.tickets.view_is ∙ c.requires.key.1 in
    let words = (c.tickets.invariant.2 shared).0 in
    let walk = walk_at c.args.call c.args.tickets.now.room c.loop-at.at (Put c.args.value) in
    let miss = linked_miss walk c.args.value c.loop-at.seat.me.0 c.compare_exchange-found.result c.compare_exchange-found.new.seat.me.0
    (c.compare_exchange-found.ensures.2.0 walk (ap (λ m. m.0.walk) c.loop-at.invariant.2)) c.if-found-eq-NO_VALUE.false in (
      search rules,
      omega arith,
      helps_at key shared _ _ c.compare_exchange-found.new.seat.me c.args.call c.args.tickets.now.room c.loop-at.at c.args.value
          c.compare_exchange-found.new.seat.me.0.walk (ap (λ h. h.walk) miss) (λ _ fits. fits),
    )

pub load-requires : goal.load-requires
load-requires c =
    let key = c.tickets.inside.table.shared.key in
    let shared : key.is_shared ≡ true = ap (λ (t : TicketsView). t.shared) c.tickets.view_is ∙ c.requires.key.1 in
    let is = c.loop-at.invariant.2 in (
      search rules,
      search rules,
      declines_at key shared _ _ c.loop-at.seat.me (walk_at c.args.call c.args.tickets.now.room c.loop-at.at (Put c.args.value)) (ap (λ m. m.0.walk) is)
          (subst (λ drawn. Contains drawn c.args.call) (sym (ap (λ m. m.0.drawn) is)) c.requires.drew),
    )
