use Rattle.history_text.proofs.Common.{[], append-nil, sym, ◌∙◌}
use Rattle.history_text.proofs.OnePending.{cut_or_fault, one_cut, one_pending_fault, one_whole, whole_or_cut}
use Rattle.history_text.proofs.OnePending.{whole_or_fault}
use Rattle.history_text.proofs.laws.one_pending_text.Goals as goal

pub returns-clause-whole : goal.returns-clause-whole
returns-clause-whole c = λ first second more has_first has_second same.
    one_whole first second more [] has_first has_second (same ∙ sym (append-nil _))

pub returns-clause-cut : goal.returns-clause-cut
returns-clause-cut c = one_cut

pub returns-clause-whole_or_cut : goal.returns-clause-whole_or_cut
returns-clause-whole_or_cut c = whole_or_cut

pub returns-clause-whole_or_fault : goal.returns-clause-whole_or_fault
returns-clause-whole_or_fault c = whole_or_fault

pub returns-clause-cut_or_fault : goal.returns-clause-cut_or_fault
returns-clause-cut_or_fault c = cut_or_fault

pub returns-clause-fault : goal.returns-clause-fault
returns-clause-fault c = one_pending_fault
