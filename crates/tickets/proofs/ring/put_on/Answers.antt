use Rattle.std.proofs.Common.{rules, refl}
use Rattle.std.specs.Prelude.{None}
use Rattle.tickets.proofs.Ends.{writes, puts_one}
use Rattle.tickets.proofs.ring.put_on.Goals as goal

pub store-requires : goal.store-requires
store-requires c =
    let free = c.in-Some.free in
    let has = c.in-Some.ensures.free in (
      search rules,
      search rules,
      writes c.tickets.inside.table.shared.key _ _ c.with_room.new.seat.me c.args.call free.at free.seen free.room None has.tail c.args.value has.free,
    )

pub returns-clause-put : goal.returns-clause-put
returns-clause-put c =
    let told = c.publish_by.ensures.told in
    puts_one c.args.call c.args.value c.in-Some.free.at c.in-Some.free.seen c.in-Some.free.room c.args.seat.now.me c.with_room.new.seat.me
    c.store.new.seat.me c.publish_by.new.seat.me c.in-Some.ensures.free c.store.ensures.2 told.2.0 told.2.1
    c.next_position.result c.next_position.ensures.next
