use Rattle.std.proofs.Common.{rules, refl, sym, ap, subst, ◌≡◌}
use Rattle.tickets.specs.declared.account.Holding.{Holding}
use Rattle.tickets.specs.declared.account.Next.TheVariants.{Unknown, There}
use Rattle.tickets.specs.Inner.Ring.{IsHeadAt, known_head}
use Rattle.tickets.proofs.Ends.{found_some, known_at, reads_cell, takes_one}
use Rattle.tickets.proofs.ring.take_on.Goals as goal

pub load-value-requires : goal.load-value-requires
load-value-requires c =
    let place = c.args.place in
    let old = c.args.seat.now.me.0 in
    let new = c.find_by-tail.new.seat.me.0 in
    let found = found_some c.args.call place.at old c.find_by-tail.result new c.find_by-tail.ensures.told.1.0 c.if-tail-place.false in (
      search rules,
      search rules,
      reads_cell c.tickets.inside.table.shared.key _ _ c.find_by-tail.new.seat.me c.args.call place.at place.room There
          (subst (IsHeadAt place.at place.room There) (sym (ap (λ (h : Holding). h.head) found))
          (known_at place.at place.room Unknown There old.head c.requires.asks)) refl,
    )

pub returns-clause-took : goal.returns-clause-took
returns-clause-took c =
    let place = c.args.place in
    let told = c.find_by-tail.ensures.told.1 in
    let freed = c.free_by.ensures.told.2 in
    let found = found_some c.args.call place.at c.args.seat.now.me.0 c.find_by-tail.result c.find_by-tail.new.seat.me.0 told.0 c.if-tail-place.false in
    takes_one c.args.call c.load-value.result place.at place.room c.args.seat.now.me c.find_by-tail.new.seat.me c.load-value.new.seat.me c.free_by.new.seat.me
    c.requires.asks found told.1 c.load-value.ensures.2 freed.0 freed.1
    c.next_position-at.result c.next_position-at.ensures.next
