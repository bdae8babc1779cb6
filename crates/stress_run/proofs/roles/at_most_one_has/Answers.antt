use Rattle.std.proofs.Common.{◌+◌, ◌∙◌, refl, sym, subst, arith, Bool}
use Rattle.std.proofs.lemmas.Bool.{false≢true}
use Rattle.stress_run.proofs.Alone.{IsAlone, alone_two, alone_first, alone_not, alone_all}
use Rattle.stress_run.proofs.roles.at_most_one_has.Goals as goal
use Rattle.stress_run.proofs.roles.at_most_one_has.Goals.{then-has_kind+else-found, else-has_kind}

pub returns-then-found : goal.returns-then-found
returns-then-found c = (
  λ e. absurd (false≢true e),
  λ one. absurd (alone_two c.args.kind c.args.rows.now c.loop-row.row-index c.loop-row-test.true c.row-item.result c.row-item.is c.loop-row.found
      c.loop-row.invariant c.if-found.true (c.has_kind.ensures.0 c.if-has_kind.true) one),
)

pub loop-row-preserved : goal.loop-row-preserved
loop-row-preserved c =
    let Row : Bool → Type 0 = IsAlone c.args.kind c.args.rows.now (c.loop-row.row-index + 1) in
    elim c.if-has_kind.branch [
      | then-has_kind+else-found w ↦ subst Row (sym w.found-is) (alone_first c.args.kind c.args.rows.now c.loop-row.row-index c.loop-row-test.true
          c.row-item.result c.row-item.is c.loop-row.found c.loop-row.invariant w.if-found.false (c.has_kind.ensures.0 w.if-has_kind.true))
      | else-has_kind w ↦ subst Row (sym w.found-is) (alone_not c.args.kind c.args.rows.now c.loop-row.row-index c.loop-row-test.true
          c.row-item.result c.row-item.is c.loop-row.found c.loop-row.invariant (λ among. false≢true (sym w.if-has_kind.false ∙ c.has_kind.ensures.1 among)))
    ]

pub returns : goal.returns
returns c = (
  λ _. alone_all c.args.kind c.args.rows.now c.loop-row.row-index c.loop-row.found (omega (arith, c.loop-row-test.false)) c.loop-row.invariant,
  λ _. refl,
)
