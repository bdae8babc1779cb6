use Rattle.history_text.proofs.Common.{append-nil, arith, BrokenLineFault, Cut, Read, refl, rules, sym}
use Rattle.history_text.proofs.Common.{over}
use Rattle.history_text.proofs.Common.{◌∙◌}
use Rattle.history_text.proofs.FirstFaults.{at_failure, at_cut, at_long}
use Rattle.history_text.proofs.reader.TextReader.next_line.Goals as goal
use Rattle.history_text.proofs.Common.{common_steps, ◌≡◌}
use Rattle.history_text.proofs.Consuming.{nothing_more, Takes-append}

pub returns-in-Err-clause-fault : goal.returns-in-Err-clause-fault
returns-in-Err-clause-fault g c =
    let known = c.loop-line.invariant in
    let failed = c.in-Err.ensures.failed in
    at_failure (λ end front. BrokenLineFault c.args.too_long end Read front) _ _ c.loop-line.line
    (rw append-nil at (Takes-append _ _ _ _ _ known.taken failed.0)) known.part failed.1 refl (refl, refl)

pub returns-in-Ok-None-2-clause-fault : goal.returns-in-Ok-None-2-clause-fault
returns-in-Ok-None-2-clause-fault g c =
    let known = c.loop-line.invariant in
    let over = rw c.in-Ok-None.field-0-is at c.in-Ok-None.ensures.byte in
    at_cut (λ end front. BrokenLineFault c.args.too_long end Cut front) _ _ c.loop-line.line
    (rw append-nil at (Takes-append _ _ _ _ _ known.taken over)) known.part (rw c.in-Ok-None.field-0-is at c.in-Ok-None.ensures.end)
    (omega (arith, c.if-len-eq0.false, c.len.ensures.value)) refl

pub returns-then-len-eq-LONGEST_LINE-clause-fault : goal.returns-then-len-eq-LONGEST_LINE-clause-fault
returns-then-len-eq-LONGEST_LINE-clause-fault g c =
    let known = c.loop-line.invariant in
    at_long (λ end front. BrokenLineFault c.args.too_long end c.args.too_long front) _ _ c.loop-line.line c.in-Ok-Some.byte
    (Takes-append _ _ _ _ _ known.taken (rw c.in-Ok-Some.field-0-is at c.in-Ok-Some.ensures.byte)) known.part
    (sym c.len-in-Ok-Some.ensures.value ∙ c.if-len-eq-LONGEST_LINE.true) (search rules) (λ end. refl)

pub returns-in-Ok-None-clause-ok : goal.returns-in-Ok-None-clause-ok
returns-in-Ok-None-clause-ok g c =
    let over = rw c.in-Ok-None.field-0-is at c.in-Ok-None.ensures.byte in (
      nothing_more _ _ _ c.loop-line.line (omega (arith, c.len.ensures.value, c.if-len-eq0.true)) c.loop-line.invariant.taken over,
      rw c.in-Ok-None.field-0-is at c.in-Ok-None.ensures.end,
    )

pub returns-in-Ok-Some-eq10-clause-ok : goal.returns-in-Ok-Some-eq10-clause-ok
returns-in-Ok-Some-eq10-clause-ok g c =
    let byte = rw c.in-Ok-Some-eq10.field-0-is at c.in-Ok-Some-eq10.ensures.byte in
    let feed : c.in-Ok-Some-eq10.field-0-0 ≡ 10 = omega (arith, c.in-Ok-Some-eq10.field-0-0-test) in
    (Takes-append _ _ _ _ _ c.loop-line.invariant.taken (rw feed at byte), c.loop-line.invariant.part)

pub loop-line-preserved : goal.loop-line-preserved
loop-line-preserved g c =
    let known = c.loop-line.invariant in
    let byte = rw c.in-Ok-Some.field-0-is at c.in-Ok-Some.ensures.byte in record {
      taken = rw c.push_byte.ensures (Takes-append _ _ _ _ _ known.taken byte);
      part = search (rules, common_steps);
      lines = c.in-Ok-Some.ensures.lines ∙ known.lines;
    }
