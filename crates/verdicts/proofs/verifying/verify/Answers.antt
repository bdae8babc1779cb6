use Rattle.verdicts.proofs.verifying.verify.Goals as goal

pub returns-in-Yes-clause-exact : goal.returns-in-Yes-clause-exact
returns-in-Yes-clause-exact c = rw c.in-Yes.is (rw c.as_slice.ensures at c.is_legal_order.ensures)

pub returns-in-No-clause-exact : goal.returns-in-No-clause-exact
returns-in-No-clause-exact c = rw c.in-No.is (rw c.as_slice-in-No.ensures at c.shows_violation.ensures)
