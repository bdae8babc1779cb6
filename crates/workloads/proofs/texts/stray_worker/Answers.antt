use Rattle.std.proofs.Common.{arith}
use Rattle.workloads.proofs.LinesOfTexts.{lines_none, lines_at_letter, lines_at_end, stray_at}
use Rattle.workloads.proofs.texts.stray_worker.Goals as goal
use Rattle.workloads.proofs.texts.stray_worker.Goals.{in-Some, in-None}

pub loop-byte-init : goal.loop-byte-init
loop-byte-init c = record { few = omega arith; lines = lines_none }

pub returns-in-None-2 : goal.returns-in-None-2
returns-in-None-2 c = stray_at _ _ _ c.loop-byte-test.true c.loop-byte.invariant.lines c.in-None-2.ensures c.if-byte-eq-LINE_FEED.false

pub loop-byte-preserved : goal.loop-byte-preserved
loop-byte-preserved c =
    let before = c.loop-byte.invariant in
    elim c.match-kind_of_letter.branch [
      | in-Some w ↦ record {
        few = omega arith;
        lines = rw w.worker-is (lines_at_letter _ _ _ _ c.loop-byte-test.true w.in-Some.ensures before.lines);
      }
      | in-None w ↦ record {
        few = omega arith;
        lines = rw w.worker-is (lines_at_end _ _ _ c.loop-byte-test.true w.if-byte-eq-LINE_FEED.true before.lines);
      }
    ]
