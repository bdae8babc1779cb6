use Rattle.std.proofs.Common.{arith}
use Rattle.workloads.proofs.KindsOfWords.{gives_more}
use Rattle.workloads.proofs.seeds.next_row.Goals as goal

pub loop-preserved : goal.loop-preserved
loop-preserved c = record {
  made = omega (arith, c.in_ok-push.ensures.len);
  given = gives_more _ _ _ _ _ _ _ _ c.loop.invariant.given c.next_word.ensures c.kind_of.ensures c.in_ok-push.ensures.items;
}
