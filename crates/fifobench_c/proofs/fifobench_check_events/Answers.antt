use Rattle.fifobench_c.proofs.Common.{subst, AnswersOrNoMemory, from_none, JudgesHistory, linearizability}
use Rattle.commands.specs.Outcomes.{answer_of}
use Rattle.fifobench_c.proofs.Structs.{none_unknown, one_first, one_list}
use Rattle.fifobench_c.proofs.Telling.{told_one}
use Rattle.fifobench_c.proofs.fifobench_check_events.Goals as goal

pub returns-in-Ok-clause-judged : goal.returns-in-Ok-clause-judged
returns-in-Ok-clause-judged c = λ list are few.
    let read = c.in-Ok.ensures.events in
    let same = one_list c.args.events.now read.0 list read.1 are in
    let answered = subst (λ condition. AnswersOrNoMemory (JudgesHistory condition) (from_none read.0) (answer_of c.judge_gathered.result))
    c.linearizable.ensures (c.judge_gathered.ensures.found (from_none read.0) read.2) in
    let found = subst (λ events. AnswersOrNoMemory (JudgesHistory linearizability) (from_none events) (answer_of c.judge_gathered.result)) same answered in
    told_one (JudgesHistory linearizability) (from_none list) _ _ _ _ _ found c.tell-in-Ok.ensures

pub returns-in-Ok-clause-unknown : goal.returns-in-Ok-clause-unknown
returns-in-Ok-clause-unknown c = λ place few first.
    let read = c.in-Ok.ensures.events in
    absurd (none_unknown c.args.events.now read.0 read.1 place first)

pub returns-in-Err-clause-judged : goal.returns-in-Err-clause-judged
returns-in-Err-clause-judged c = λ list are few. absurd (none_unknown c.args.events.now list are c.in-Err.place c.in-Err.ensures.unknown)

pub returns-in-Err-clause-unknown : goal.returns-in-Err-clause-unknown
returns-in-Err-clause-unknown c = λ place few first.
    let same = one_first c.args.events.now place c.in-Err.place first c.in-Err.ensures.unknown in
    rw same c.tell_bad_what.ensures
