-- What is shown of the part of a history in which a `NO` under a weaker condition is found.
use Rattle.commands.proofs.Common.{◌≡◌, ◌≤◌, ap, Bool, Contents, false, filter, HistoryText, HistoryView, IsSound, length, List, MAX_INITIAL}
use Rattle.commands.proofs.Common.{refl, Reply, said_by, said_in, subst, sym, true, ℕ}
use Rattle.command_words.specs.declared.options.Condition.{Condition}
use Rattle.commands.proofs.OneAnswer.{few_of_part}
use Rattle.commands.specs.Conditions.{emptiness_if}
use Rattle.commands.specs.Judging.{IsShrunk, IsShrunkPart}
use Rattle.conditions.specs.Conditions.{counts_for, judges_empties, selection_of, without_empties}
use Rattle.conditions.specs.Decided.{IsFirstRefuted}
use Rattle.conditions.specs.declared.producer.Producer.{Producer}
use Rattle.conditions.proofs.Minimal.{stays_locally_minimal, stays_weakly_minimal}
use Rattle.value_match.specs.declared.violation.Violation.{Violation}
use Rattle.verdicts.specs.Selection.{ArePartOf, contents_of, IsValueClosed}

module _ (text : HistoryText) (part : HistoryView) (answer : Reply) (few : length text.initial ≤ MAX_INITIAL) (complete : IsSound part)
    (events : ArePartOf text.events part.events) (shrunk : IsShrunk (said_in text.version part) answer) where
  abbrev whole : Contents
  whole = contents_of (said_by text)

  few_left : ArePartOf text.initial part.initial → length shrunk.small.initial ≤ MAX_INITIAL
  few_left initial = few_of_part part.initial shrunk.small.initial shrunk.initial (few_of_part text.initial part.initial initial few)

  -- the part without the empty dequeues
  pub weak_part : contents_of part ≡ without_empties whole → IsShrunkPart (record { is_local = false; is_weakly_empty = true }) text answer
  weak_part is =
      let initial : ArePartOf text.initial part.initial = ((λ v. true), ap (λ (c : Contents). c.initial) is) in
      let closed : IsValueClosed (without_empties whole) (contents_of shrunk.small) =
      subst (λ c. IsValueClosed c (contents_of shrunk.small)) is shrunk.kept.0 in record {
        part = part;
        found = is;
        complete = complete;
        initial = initial;
        events = events;
        shrunk = shrunk;
        minimal = stays_weakly_minimal whole shrunk.small shrunk.small_is_complete (few_left initial) closed shrunk.minimal;
      }

  -- the selection of a producer
  pub local_part : (is_weak : Bool) (p : Producer) (violation : Violation) → IsFirstRefuted (emptiness_if is_weak) whole p violation
      → contents_of part ≡ selection_of (emptiness_if is_weak) p whole
      → IsShrunkPart (record { is_local = true; is_weakly_empty = is_weak }) text answer
  local_part is_weak p violation refuted is =
      let initial : ArePartOf text.initial part.initial = (counts_for whole p, ap (λ (c : Contents). c.initial) is) in
      let closed : IsValueClosed (selection_of (emptiness_if is_weak) p whole) (contents_of shrunk.small) =
      subst (λ c. IsValueClosed c (contents_of shrunk.small)) is shrunk.kept.0 in record {
        part = part;
        found = (p, violation, refuted, is);
        complete = complete;
        initial = initial;
        events = events;
        shrunk = shrunk;
        minimal = stays_locally_minimal (emptiness_if is_weak) p whole shrunk.small shrunk.small_is_complete (few_left initial) closed shrunk.minimal;
      }
