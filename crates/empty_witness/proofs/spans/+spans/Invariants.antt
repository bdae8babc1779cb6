use Rattle.empty_witness.proofs.Common.{length}
use Rattle.empty_witness.proofs.spans.+spans.Given as goal

abbrev pub decreases-add_span : goal.decreases-add_span
decreases-add_span l = length l.spans.now.items
