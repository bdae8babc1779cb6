use Rattle.verdicts.proofs.OneVerdict.{gap_is_one, matched_is_one, pair_is_one, witness_is_one}
use Rattle.verdicts.proofs.laws.one_finding.Goals as goal

pub returns : goal.returns
returns c = record { matched = matched_is_one; pair = pair_is_one; gap = gap_is_one; witness = witness_is_one }
