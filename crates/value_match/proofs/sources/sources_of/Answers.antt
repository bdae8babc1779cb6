use Rattle.value_match.proofs.Common.{arith, length, take-nil, with_items_is, ◌-◌, ◌≡◌}
use Rattle.value_match.proofs.CallPlaces.{none_wanted}
use Rattle.value_match.proofs.RepeatedDequeues.{no_takers}
use Rattle.value_match.proofs.sources.sources_of.Goals.{else-not-is_empty, then-not-is_empty+in_ok-others}
use Rattle.value_match.proofs.sources.sources_of.Goals as goal

pub match_prefix-prefix-requires-clause-none : goal.match_prefix-prefix-requires-clause-none
match_prefix-prefix-requires-clause-none c =
    let all : length c.args.operations.now - 0 ≡ length c.args.operations.now = omega arith in
    rw (
      c.as_mut_slice.ensures.value,
      c.in_ok-resize.ensures.items,
      c.in_ok-takers.ensures.items,
      c.in_ok-takers.ensures.len,
      take-nil (length c.args.operations.now),
      all,
      c.none.ensures,
    ) (no_takers c.args.operations.now)

pub returns : goal.returns
returns c =
    let near = c.in_ok-near.ensures in
    let written = with_items_is c.resize.new.self c.match_prefix-prefix.new.takers
    (omega (arith, c.match_prefix-prefix.ensures.len, c.as_mut_slice.ensures.len, c.resize.new.self.ok.0)) in
    record {
      prefix = rw written c.match_prefix-prefix.ensures.prefix;
      holds = elim c.if-not-is_empty.branch [
        | then-not-is_empty+in_ok-others w ↦
            let found = w.find_others.ensures in
            let long : length w.find_others.new.sources ≡ length c.in_ok-near.near.sources.items = omega (arith, found.one_each, near.one_each) in
            rw (w.places-is, with_items_is c.in_ok-near.near.sources w.find_others.new.sources (omega (arith, long, c.in_ok-near.near.sources.ok.0))) found
        | else-not-is_empty w ↦ rw w.places-is (none_wanted _ _ _ _ (c.is_empty.ensures.0 w.if-not-is_empty.false) near)
      ];
    }
