use Rattle.value_match.proofs.Common.{arith, get_or, get_or_default, length, ◌<◌}
use Rattle.value_match.proofs.Fronts.{all_fronts, none_so_far, nowhere, one_more_front}
use Rattle.value_match.proofs.table.name_longest.Goals as goal

pub loop-front-init : goal.loop-front-init
loop-front-init c = none_so_far c.args.values.now c.args.fronts.now

pub loop-front-preserved : goal.loop-front-preserved
loop-front-preserved c =
    let fronts = c.loop-front.fronts in
    let inside : c.loop-front.front-index < length fronts = omega arith in
    one_more_front _ _ _ _ (get_or fronts c.loop-front.front-index nowhere) _ _ inside (get_or_default fronts _ nowhere _ inside) c.loop-front.invariant
    c.longer_place-longest.ensures.within c.longer_place-longest.ensures.longer

pub returns : goal.returns
returns c = all_fronts _ _ _ _ _ (omega arith) c.loop-front.invariant
