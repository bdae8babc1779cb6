use Rattle.value_match.proofs.Common.{IsMatchedPrefix}
use Rattle.value_match.proofs.sources.match_prefix.Given as goal

abbrev pub invariant-loop-place : goal.invariant-loop-place
invariant-loop-place l = IsMatchedPrefix l.operations l.place l.takers
