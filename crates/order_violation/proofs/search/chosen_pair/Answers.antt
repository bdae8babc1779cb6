use Rattle.order_violation.proofs.Common.{All-contains, FindsLongest, IsFirstFound, IsOrderAnswer, Overtakes}
use Rattle.order_violation.proofs.Common.{subst, sym}
use Rattle.order_violation.proofs.Chosen.{a_value, is_answer}
use Rattle.order_violation.proofs.search.chosen_pair.Goals as goal

pub returns-in_err-b : goal.returns-in_err-b
returns-in_err-b c = subst (IsOrderAnswer c.args.matching.now.initial c.args.matching.now.operations) (sym c.from_residual.ensures)
    (subst (IsFirstFound _) c.in_err-b.was c.requires)

pub returns-in_err-a : goal.returns-in_err-a
returns-in_err-a c =
    let is = subst (IsFirstFound c.args.matching.now) c.in_ok-b.was c.requires in
    let (values, clear, holds, found) = c.longest_among.ensures in
    let none = subst (FindsLongest (Overtakes c.in_ok-b.b.life) values) c.in_err-a.was found in
    let (a, among, same) = a_value c.args.matching.now clear values holds is.overtaken is.overtaken_is_life in
    absurd (All-contains (λ a. ¬ (Overtakes c.in_ok-b.b.life a.life)) values a none among (subst (Overtakes c.in_ok-b.b.life) (sym same) is.overtakes))

pub returns : goal.returns
returns c =
    let is = subst (IsFirstFound c.args.matching.now) c.in_ok-b.was c.requires in
    let (values, clear, holds, found) = c.longest_among.ensures in
    let longest = subst (FindsLongest (Overtakes c.in_ok-b.b.life) values) c.in_ok-a.was found in
    rw c.pair_of.ensures (is_answer c.args.matching.now clear values holds c.in_ok-a.a c.in_ok-b.b is longest)

pub longest_among-requires : goal.longest_among-requires
longest_among-requires c = (subst (IsFirstFound c.args.matching.now) c.in_ok-b.was c.requires).named.1
