use Rattle.history_merge.proofs.Common.{arith, None, sym}
use Rattle.history_merge.proofs.TheirEvents.{call_so_far}
use Rattle.history_merge.proofs.Formed.{pending_at}
use Rattle.history_merge.proofs.Turns.{pending_call-above}
use Rattle.history_merge.proofs.forming.Forming.call_of.Goals as goal

pub returns-then-thread-gt-MAX_THREAD : goal.returns-then-thread-gt-MAX_THREAD
returns-then-thread-gt-MAX_THREAD c = λ events known. sym (pending_call-above events c.args.thread c.if-thread-gt-MAX_THREAD.true known.threads_in_range)

pub returns-in_err-operation : goal.returns-in_err-operation
returns-in_err-operation c = λ events known. grind (arith, pending_at events c.args.thread c.args.self.now c.in_ok-place.place)

pub returns : goal.returns
returns c = λ events known.
    let at = pending_at events c.args.thread c.args.self.now c.in_ok-place.place c.if-thread-gt-MAX_THREAD.false known (rw c.from.ensures at c.in_ok-place.was) in
    grind (arith, call_so_far at.call None at.calls)
