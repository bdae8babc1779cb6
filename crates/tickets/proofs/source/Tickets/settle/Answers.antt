use Rattle.std.proofs.Common.{sym, ap, ◌∙◌, ◌≡◌, subst, arith, true, List, ℕ, IsPermutation}
use Rattle.std.specs.Prelude.{IsSome}
use Rattle.tickets.specs.declared.note.Note.{Note}
use Rattle.tickets.specs.Account.{whole_of}
use Rattle.tickets.specs.Log.{LooksRise}
use Rattle.tickets.specs.Inner.Account.{initial_of, room_of}
use Rattle.tickets.specs.Queue.{bounded_after, queue_after}
use Rattle.tickets.specs.Views.{TicketsView}
use Rattle.tickets.proofs.Steps.{closes}
use Rattle.tickets.proofs.Ends.{settles_ring}
use Rattle.tickets.proofs.Walks.{settles_shared}
use Rattle.tickets.proofs.source.Tickets.settle.Goals as goal
use Rattle.tickets.proofs.source.Tickets.settle.Goals.{After-free}

whole : (c : After-free) → whole_of c.into_parts-seat.result.0.me.0 ≡ c.self.inside.table.shared.key.budget
whole c =
    let shown = ap (λ m. whole_of m.0) c.into_parts-seat.ensures.seat in
    let budget = ap (λ (t : TicketsView). t.budget) c.self.view_is in
    let asked = c.requires.whole in
    omega arith

pub returns-clause-drawn : goal.returns-clause-drawn
returns-clause-drawn c = sym (ap (λ m. m.0.drawn) c.into_parts-seat.ensures.seat)
    ∙ closes c.self.inside.table.shared.key _ c.into_parts-seat.result.0.me.0 _ _ c.word-next.result (whole c) c.close_with-closed.ensures.values.2 c.word-next.ensures

pub returns-clause-ring : goal.returns-clause-ring
returns-clause-ring c ended =
    let key = c.self.inside.table.shared.key in
    let ring : key.has_ring ≡ true = ap (λ (t : TicketsView). t.ended) c.self.view_is ∙ ended in
    let initial = ap (λ (t : TicketsView). t.initial) c.self.view_is in
    let known = c.self.invariant.3 ring in
    let shown = ap (λ (t : TicketsView). t.room) c.self.view_is in
    let room : room_of key ≡ c.args.self.room = (let long = known.1 in omega arith) in
    subst (λ (k : ℕ). (log : List Note) × IsPermutation c.args.pass.noted log × LooksRise 0 log c.word-next.result
    × IsSome (queue_after c.args.self.initial log) × IsSome (bounded_after k c.args.self.initial log)) room
    (subst (λ (values : List ℕ). (log : List Note) × IsPermutation c.args.pass.noted log × LooksRise 0 log c.word-next.result
    × IsSome (queue_after values log) × IsSome (bounded_after (room_of key) values log)) initial
    (subst (λ (ns : List Note). (log : List Note) × IsPermutation ns log × LooksRise 0 log c.word-next.result
    × IsSome (queue_after (initial_of key) log) × IsSome (bounded_after (room_of key) (initial_of key) log))
    (ap (λ m. m.0.noted) c.into_parts-seat.ensures.seat)
    (settles_ring key _ c.into_parts-seat.result.0.me.0 _ _ c.word-next.result ring known.0 (whole c)
    c.close_with-closed.ensures.values.2 c.word-next.ensures)))

pub returns-clause-nodes : goal.returns-clause-nodes
returns-clause-nodes c is_shared =
    let shared : c.self.inside.table.shared.key.is_shared ≡ true = ap (λ (t : TicketsView). t.shared) c.self.view_is ∙ is_shared in
    let initial = ap (λ (t : TicketsView). t.initial) c.self.view_is in
    subst (λ (values : List ℕ). (log : List Note) × IsPermutation c.args.pass.noted log × LooksRise 0 log c.word-next.result × IsSome (queue_after values log))
    initial
    (subst (λ (ns : List Note). (log : List Note) × IsPermutation ns log × LooksRise 0 log c.word-next.result
    × IsSome (queue_after (initial_of c.self.inside.table.shared.key) log))
    (ap (λ m. m.0.noted) c.into_parts-seat.ensures.seat)
    (settles_shared c.self.inside.table.shared.key shared _ c.into_parts-seat.result.0.me.0 _ _ c.word-next.result (whole c)
    c.close_with-closed.ensures.values.2 c.word-next.ensures))
