use Rattle.std.proofs.Common.{refl, true, false, length, ap, sym, ◌∙◌}
use Rattle.tickets.proofs.Walks.{opens_shared}
use Rattle.tickets.proofs.source.Tickets.with_shared_nodes.Goals as goal

pub of_words-requires : goal.of_words-requires
of_words-requires c =
    let is = c.as_slice.ensures.value in
    opens_shared (record { budget = c.args.budget; has_ring = false; is_shared = true; filled = length c.args.initial.now; words = c.of.result })
    c.as_slice.result.now c.args.initial.now c.args.room refl refl refl (ap (λ v. v.items) c.of.ensures ∙ sym is)
    (is ∙ c.in_ok-words.ensures) c.requires.fits c.requires.values c.requires.budget
