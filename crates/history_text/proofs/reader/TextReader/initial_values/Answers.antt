use Rattle.history_text.proofs.Common.{◌+◌, arith}
use Rattle.history_text.proofs.PendingFaults.{values_fault, values_read}
use Rattle.history_text.proofs.reader.TextReader.initial_values.Goals as goal

pub returns-in-Two-clause-values : goal.returns-in-Two-clause-values
returns-in-Two-clause-values g c = rw c.in-Two.is (values_read (λ v. v.items) c.in_ok-count-in-Two.count _ _ _ c.required_items.result
    c.in_ok-count-in-Two.ensures.ok.0 c.required_items.ensures.items c.required_items.ensures.count)

pub returns-in-Two-clause-fault : goal.returns-in-Two-clause-fault
returns-in-Two-clause-fault g c = rw c.in-Two.is (values_fault c.in_ok-count-in-Two.count (c.args.self.now.lines + 1) _ _ _ c.required_items.result
    c.in_ok-count-in-Two.ensures.ok.1 (omega (arith, c.in_ok-count-in-Two.ensures.lines)) c.in_ok-count-in-Two.ensures.ok.0
    c.required_items.ensures.fault)
