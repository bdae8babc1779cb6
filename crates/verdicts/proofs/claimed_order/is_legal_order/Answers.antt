use Rattle.verdicts.proofs.Common.{calls_rise, CallsRise, subst, sym}
use Rattle.verdicts.proofs.claimed_order.is_legal_order.Goals as goal

pub holds_each_once-requires : goal.holds_each_once-requires
holds_each_once-requires c =
    subst CallsRise (sym c.operations.ensures.operations) (calls_rise c.args.history.now.events c.operations.ensures.complete.tickets_rise)
