use Rattle.commands.proofs.Common.{ap, Event, IfSome, inl, inr, length, List, refl, subst, sym, ◌≡◌, ◌∙◌, ℕ}
use Rattle.commands.proofs.Completions.{completion_refused}
use Rattle.completions.specs.Faults.{IsBeyondLimits, IsCompletionFault, MayBePending}
use Rattle.completions.specs.Completed.{pending_calls}
use Rattle.commands.proofs.complete.completed.Goals as goal

pub returns-in-Err-clause-fault : goal.returns-in-Err-clause-fault
returns-in-Err-clause-fault c =
    let text = c.args.text in
    let refused : IsCompletionFault text.initial text.events c.in-Err.fault = rw (c.as_slice.ensures, c.into_vec.ensures) at c.in-Err.ensures.fault in
    rw c.refusal_of.ensures (completion_refused text c.in-Err.fault refused)

pub returns-then-not-counts-clause-fault : goal.returns-then-not-counts-clause-fault
returns-then-not-counts-clause-fault c =
    let text = c.args.text in
    let found : MayBePending text.initial text.events = rw (c.as_slice.ensures, c.into_vec.ensures) at c.in-Ok.ensures.found in
    let within : ¬ (IsBeyondLimits text.initial text.events) = rw (c.as_slice.ensures, c.into_vec.ensures) at c.in-Ok.ensures.within in
    let pending = c.in-Ok.ensures.pending ∙ ap (λ (es : List Event). length (pending_calls es)) c.into_vec.ensures in
    inl (inr (
      found,
      inr (
        within,
        (
          (λ counts.
              let yes = c.counts.ensures.1 (subst (λ (n : ℕ). IfSome text.open_calls (λ calls. calls ≡ n)) (sym pending) counts) in
              let no = c.if-not-counts.true in cc),
          refl,
        ),
      ),
    ))

pub returns-clause-completed : goal.returns-clause-completed
returns-clause-completed c = rw (c.as_slice.ensures, c.into_vec.ensures) at c.in-Ok.ensures.completed

pub returns-clause-completable : goal.returns-clause-completable
returns-clause-completable c =
    let text = c.args.text in
    let found : MayBePending text.initial text.events = rw (c.as_slice.ensures, c.into_vec.ensures) at c.in-Ok.ensures.found in
    let within : ¬ (IsBeyondLimits text.initial text.events) = rw (c.as_slice.ensures, c.into_vec.ensures) at c.in-Ok.ensures.within in
    let pending = c.in-Ok.ensures.pending ∙ ap (λ (es : List Event). length (pending_calls es)) c.into_vec.ensures in
    record {
      found = found;
      within = within;
      counted = subst (λ (n : ℕ). IfSome text.open_calls (λ calls. calls ≡ n)) pending (c.counts.ensures.0 c.if-not-counts.false);
    }
