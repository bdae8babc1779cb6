use Rattle.commands.proofs.Common.{⊎_map, claim_on, inl, inr, said_in, subst}
use Rattle.commands.proofs.Drawings.{drawn_part, drawn_yes}
use Rattle.commands.specs.Drawing.{DrawsSound}
use Rattle.commands.specs.Operations.{IsHistoryOfOperations}
use Rattle.claims.specs.declared.claimed.Claimed.TheVariants.{Yes}
use Rattle.history_merge.specs.Initial.{HistoryView}
use Rattle.history_text.specs.declared.version.Version.TheVariants.{Two}
use Rattle.std.proofs.Common.{None, arith, refl, rules, length, ◌≤◌}
use Rattle.drawing.specs.declared.columns.TheConstants.{MOST_DRAWN}
use Rattle.commands.proofs.draw.draw_yes.Goals as goal

pub returns-in-None-clause-found : goal.returns-in-None-clause-found
returns-in-None-clause-found c =
    let few : length c.args.lines ≤ MOST_DRAWN = search (rules, arith, c.len.ensures, c.if-len-gt-MOST_DRAWN.false) in
    let none : (history : HistoryView) → ¬ IsHistoryOfOperations c.args.lines history =
    rw c.as_slice.ensures at (rw c.in-None.is at c.in_ok-whole.ensures) in
    inl (drawn_yes c.args.options c.args.lines _ c.if-options.false few (inr (none, refl)))

pub returns-clause-found : goal.returns-clause-found
returns-clause-found c =
    let few : length c.args.lines ≤ MOST_DRAWN = search (rules, arith, c.len.ensures, c.if-len-gt-MOST_DRAWN.false) in
    let is_history : IsHistoryOfOperations c.args.lines c.in-Some.whole = search (rules, c.as_slice.ensures, c.in_ok-whole.ensures) in
    let part = c.in_ok-history.ensures in
    let options = c.args.options in
    ⊎_map (λ sound. drawn_yes options c.args.lines _ c.if-options.false few (inl (
      c.in-Some.whole,
      is_history,
      drawn_part options.condition.is_weakly_empty (said_in Two c.in-Some.whole) c.in_ok-history.history
          (λ t a. DrawsSound options None (claim_on t (Yes c.args.lines)) a) _ part.whole part.selected part.events part.complete sound,
    )))
    (λ memory. memory) (c.draw_claim.ensures.found Two)
