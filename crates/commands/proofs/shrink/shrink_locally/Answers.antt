use Rattle.commands.proofs.Common.{⊎_map, inl, inr, refl, said_in, subst, sym, ◌≡◌}
use Rattle.conditions.specs.Decided.{IsFirstRefuted, IsLocallyDecided}
use Rattle.conditions.specs.Conditions.{selection_of}
use Rattle.conditions.specs.declared.local.LocalVerdict.TheVariants as local
use Rattle.commands.proofs.Conditions.{within_locally}
use Rattle.commands.proofs.Shrinking.{local_part}
use Rattle.claims.specs.Claiming.{IsWithin}
use Rattle.verdicts.specs.Selection.{contents_of}
use Rattle.commands.proofs.shrink.shrink_locally.Goals as goal

pub returns-in_ok-verdict-in-Yes-clause-found : goal.returns-in_ok-verdict-in-Yes-clause-found
returns-in_ok-verdict-in-Yes-clause-found c = λ is_weak same.
    let whole = contents_of c.args.history in
    let decided = rw c.in-Yes.is at c.in_ok-orders.ensures in
    let under = subst (λ e. IsLocallyDecided e whole (local.Yes c.in-Yes.orders)) same decided in
    inl (inr (
      c.requires.complete,
      inl (
        under.linearizable,
        record { verdict = c.in_ok-verdict-in-Yes.verdict; decided = (local.Yes c.in-Yes.orders, under, c.in_ok-verdict-in-Yes.ensures); is = refl },
      ),
    ))

pub returns-in_ok-verdict-in-Yes-clause-places : goal.returns-in_ok-verdict-in-Yes-clause-places
returns-in_ok-verdict-in-Yes-clause-places c =
    let whole = contents_of c.args.history in
    let decided = rw c.in-Yes.is at c.in_ok-orders.ensures in
    subst (IsWithin whole.initial whole.operations) (sym c.in_ok-verdict-in-Yes.ensures)
    (within_locally c.args.emptiness whole (local.Yes c.in-Yes.orders) decided)

pub returns-in_ok-part-in-No-clause-found : goal.returns-in_ok-part-in-No-clause-found
returns-in_ok-part-in-No-clause-found c = λ is_weak same.
    let whole = contents_of c.args.history in
    let decided = rw c.in-No.is at c.in_ok-orders.ensures in
    let under = subst (λ e. IsFirstRefuted e whole c.in-No.producer c.in-No._violation) same decided in
    let part = c.in_ok-part-in-No.ensures in
    let selected = subst (λ e. contents_of c.in_ok-part-in-No.part ≡ selection_of e c.in-No.producer whole) same part.selected in
    ⊎_map (λ shrunk. inr (
      c.requires.complete,
      inr (
        (λ all. under.decided.exact (all c.in-No.producer)),
        local_part (said_in c.args.version c.args.history) c.in_ok-part-in-No.part _ c.requires.few part.complete part.events shrunk is_weak c.in-No.producer c.in-No._violation
            under selected,
      ),
    ))
    (λ memory. memory) c.shrink_part.ensures.found
