use Rattle.value_match.proofs.Common.{arith, EntersBefore, get_or, get_or_default, IsLongestOf, IsTableOf, length}
use Rattle.value_match.proofs.Common.{subst, sym, ◌<◌}
use Rattle.value_match.proofs.Fronts.{fronts_rise, longest_found, longest_within, none_before, nowhere}
use Rattle.value_match.proofs.table.LongestTable.longest_before.Goals.{After-as_slice-fronts}
use Rattle.value_match.proofs.table.LongestTable.longest_before.Goals as goal

-- the fronts are the table's
table : (c : After-as_slice-fronts) → IsTableOf c.self.inside.values c.as_slice-fronts.result.now
table c = subst (IsTableOf c.self.inside.values) (sym c.as_slice-fronts.ensures.value) c.self.invariant

pub count_before-requires : goal.count_before-requires
count_before-requires c = fronts_rise _ _ (table (goal.at.count_before-requires c).After-as_slice-fronts)

pub get-requires : goal.get-requires
get-requires c =
    let fronts = c.as_slice-fronts.result.now in
    let inside : c.in_ok-last.last < length fronts = omega (arith, c.in_ok-last.ensures, c.count_before.ensures.within) in
    longest_within _ fronts _ (get_or fronts c.in_ok-last.last nowhere) (table (goal.at.get-requires c).After-as_slice-fronts) inside
    (get_or_default fronts _ nowhere _ inside)

pub returns-in_err-last : goal.returns-in_err-last
returns-in_err-last c =
    let none = none_before _ _ _ _ (table (goal.at.returns-in_err-last c).After-as_slice-fronts) c.count_before.ensures.cut c.count_before.ensures.within
    (omega (arith, c.in_err-last.ensures)) in
    rw c.from_residual.ensures (rw c.self.view_is at none)

pub returns : goal.returns
returns c =
    let fronts = c.as_slice-fronts.result.now in
    let inside : c.in_ok-last.last < length fronts = omega (arith, c.in_ok-last.ensures, c.count_before.ensures.within) in
    let one = longest_found _ fronts _ _ (table (goal.at.returns c).After-as_slice-fronts) c.count_before.ensures.cut c.count_before.ensures.within _
    (get_or fronts c.in_ok-last.last nowhere) c.get.result (omega (arith, c.in_ok-last.ensures)) (get_or_default fronts _ nowhere _ inside) in
    subst (λ vs. IsLongestOf (EntersBefore c.args.limit) vs c.get.result) c.self.view_is (rw c.get.ensures one)
