use Rattle.std.proofs.Common.{sym, ◌∙◌}
use Rattle.std.proofs.lemmas.Bool.{false≢true}
use Rattle.event_records.specs.declared.kind.Kind.TheVariants.{Enq, Deq}
use Rattle.stress_run.proofs.Alone.{one_of_each}
use Rattle.stress_run.proofs.roles.has_one_of_each.Goals as goal

pub returns-then-at_most_one_has : goal.returns-then-at_most_one_has
returns-then-at_most_one_has c = (
  λ yes. one_of_each c.args.rows.now (c.at_most_one_has.ensures.0 c.if-at_most_one_has.true) (c.at_most_one_has-then-at_most_one_has.ensures.0 yes),
  λ one. c.at_most_one_has-then-at_most_one_has.ensures.1 (one Deq),
)

pub returns-else-at_most_one_has : goal.returns-else-at_most_one_has
returns-else-at_most_one_has c = (
  λ yes. absurd (false≢true (sym c.if-at_most_one_has.false ∙ yes)),
  λ one. c.at_most_one_has.ensures.1 (one Enq),
)
