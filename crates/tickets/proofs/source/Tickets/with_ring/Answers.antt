use Rattle.std.proofs.Common.{rules, refl, true, false, length, ap, sym, ◌∙◌, ◌≡◌, subst, List, ℕ, arith}
use Rattle.std.specs.Prelude.{take, drop, ◌-◌, Some, None}
use Rattle.std.proofs.Math.Nat.{mod-eq_of_lt}
use Rattle.tickets.specs.declared.account.Setup.{Setup}
use Rattle.tickets.specs.Inner.Account.{room_of}
use Rattle.tickets.specs.Inner.Ring.{IsTailAt, tail_at}
use Rattle.tickets.specs.Inner.Shared.{row_words}
use Rattle.tickets.proofs.Ends.{opens_ring, parts, parts_head}
use Rattle.tickets.proofs.Walks.{row_words_long, row_words_held}
use Rattle.tickets.proofs.source.Tickets.with_ring.Goals as goal

pub of_words-requires : goal.of_words-requires
of_words-requires c =
    let initial = c.args.initial.now in
    let room = c.args.room in
    let is = c.as_slice.ensures.value in
    let words = ap (λ v. v.items) c.of.ensures ∙ c.in_ok-words.ensures in
    let long = row_words_long initial room c.requires.fits in
    opens_ring (record { budget = c.args.budget; has_ring = true; is_shared = false; filled = length initial; words = c.of.result })
    c.as_slice.result.now initial room refl refl refl
    (ap (λ (l : List ℕ). take (length initial) (drop 3 l)) words ∙ row_words_held initial room)
    (ap (λ (l : List ℕ). length l - 4) words ∙ omega arith) (is ∙ c.in_ok-words.ensures) c.requires.fits c.requires.budget

pub split_seat-ends-requires : goal.split_seat-ends-requires
split_seat-ends-requires c = (search rules, search rules, parts c.in_ok-table.table.shared.key _ _)

pub split_seat-head-requires : goal.split_seat-head-requires
split_seat-head-requires c = (search rules, search rules, parts_head c.in_ok-table.table.shared.key _ _)

pub of_seat-requires-2-clause-place : goal.of_seat-requires-2-clause-place
of_seat-requires-2-clause-place c =
    let initial = c.args.initial.now in
    let room = c.args.room in
    let setup : Setup = record { budget = c.args.budget; has_ring = true; is_shared = false; filled = length initial; words = c.of.result } in
    let words = ap (λ v. v.items) c.of.ensures ∙ c.in_ok-words.ensures in
    let long = row_words_long initial room c.requires.fits in
    let has_room : room_of setup ≡ room = ap (λ (l : List ℕ). length l - 4) words ∙ omega arith in
    let is : c.split_seat-head.new.seat.me.0.tail ≡ Some (tail_at (length initial) 0 (room_of setup) None) = search rules in
    let fits = c.requires.fits in
    subst (IsTailAt (length initial) 0 room None) (sym is)
    (sym (mod-eq_of_lt (omega arith)), sym (mod-eq_of_lt (omega arith)), has_room, refl)
