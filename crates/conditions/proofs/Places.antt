-- A verdict on a selection, by the places of the whole history.
use Rattle.std.proofs.Common.{◌≡◌, ℕ, zero, ◌<◌, ◌++◌, Bool, List, [], ◌∷◌, length, get_or, map, Option, Some}
use Rattle.std.proofs.Common.{None, refl, ap, ap₂, sym, subst, ◌∙◌, arith}
use Rattle.std.specs.Prelude.{All, Contains, filter, flat_map, option_map, slice_get}
use Rattle.std.specs.List.{cons_option}
use Rattle.std.proofs.lemmas.List.{map-append}
use Rattle.std.proofs.lemmas.List.Elements.{All-contains, Contains-get_or}
use Rattle.std.proofs.lemmas.Option.{slice_get_within}
use Rattle.history_merge.specs.declared.operation.Operation.{Operation}
use Rattle.history_merge.specs.Initial.{Contents, HistoryView}
use Rattle.history_merge.specs.Legal.{ArePlacesOf}
use Rattle.history_merge.specs.Operations.{operations_of}
use Rattle.history_merge.proofs.PlaceLists.{placed_at}
use Rattle.history_merge.proofs.Timelines.{map_map}
use Rattle.value_match.specs.declared.life.Source.{Source}
use Rattle.value_match.specs.declared.life.Source.TheVariants as source
use Rattle.value_match.specs.declared.violation.CoverStep.{CoverStep}
use Rattle.value_match.specs.declared.violation.Violation.{Violation}
use Rattle.value_match.specs.declared.violation.Violation.TheVariants.{Fresh, Order, Repeat, Witness}
use Rattle.value_match.proofs.Lists.{mapped_from, one_deeper}
use Rattle.claims.specs.Claiming.{IsPlaceWithin, IsWithin, line_at, lines_at, operations_at, verdict_places}
use Rattle.claims.specs.Claiming.{violation_kind}
use Rattle.verdicts.specs.Decided.{IsDecided}
use Rattle.verdicts.specs.Selection.{contents_of, select}
use Rattle.claims.specs.Shown.{maybe_place, place_of_source, places_of_step, violation_places}
use Rattle.claims.specs.declared.shown.LinePlace.{LinePlace}
use Rattle.claims.specs.declared.shown.LinePlace.TheVariants.{Initial, Op}
use Rattle.claims.specs.declared.verdict.Verdict.{Verdict}
use Rattle.claims.specs.declared.verdict.Verdict.TheVariants.{No, Yes}
use Rattle.claims.specs.declared.claimed.ClaimLine.{ClaimLine}
use Rattle.claims.specs.declared.claimed.ClaimLine.TheVariants as line
use Rattle.claims.specs.declared.claimed.Claimed.TheVariants as claimed
use Rattle.verdicts.proofs.TrueClaims.{operations_there}
use Rattle.conditions.specs.Decided.{IsDecidedOf}
use Rattle.conditions.specs.Inner.Parts.{IsPart}
use Rattle.conditions.specs.declared.part.Part.{Part}
use Rattle.conditions.specs.Inner.Moved.{moved_place, moved_source, moved_step, moved_verdict, moved_violation}
use Rattle.conditions.specs.Laws.{ShowsIn}
use Rattle.conditions.proofs.Showing.{violations_are_of_the_whole}
use Rattle.history_merge.proofs.Lists.{at_place}

module _ (whole selected : Contents) (places : List ℕ) (at : ArePlacesOf whole.operations places selected.operations)
    (same_initial : (p : ℕ) → p < length selected.initial → slice_get whole.initial p ≡ slice_get selected.initial p) where
  abbrev moved : LinePlace → LinePlace
  moved (Op p) = Op (moved_place places p)
  moved (Initial p) = Initial p

  same_line : (place : LinePlace) → IsPlaceWithin selected.initial selected.operations place
      → line_at whole.initial whole.operations (moved place) ≡ line_at selected.initial selected.operations place
  same_line (Op p) within = ap (option_map line.Op) (placed_at whole.operations places selected.operations p p at within)
  same_line (Initial p) within = ap (option_map line.Initial) (same_initial p within)

  within_moved : (place : LinePlace) → IsPlaceWithin selected.initial selected.operations place
      → IsPlaceWithin whole.initial whole.operations (moved place)
  within_moved (Op p) within =
      let there = at_place selected.operations p within in
      slice_get_within whole.operations (moved_place places p) there.0 (placed_at whole.operations places selected.operations p p at within ∙ there.1)
  within_moved (Initial p) within =
      let there = at_place selected.initial p within in
      slice_get_within whole.initial p there.0 (same_initial p within ∙ there.1)

  -- the places name the same lines
  same_lines : (listed : List LinePlace)
      → ((place : LinePlace) → Contains listed place → IsPlaceWithin selected.initial selected.operations place)
      → lines_at whole.initial whole.operations (map moved listed)
      ≡ lines_at selected.initial selected.operations listed
  same_lines [] each = refl
  same_lines (place ∷ listed) each =
      ap₂ (λ (l : Option ClaimLine) (ls : List ClaimLine). cons_option l ls) (same_line place (each place (zero, omega arith, refl)))
      (same_lines listed (λ p among. each p (one_deeper place listed p among)))

  all_within : (listed : List LinePlace) → All (IsPlaceWithin selected.initial selected.operations) listed
      → All (IsPlaceWithin whole.initial whole.operations) (map moved listed)
  all_within listed each k d below =
      let from = mapped_from moved listed (get_or (map moved listed) k d) (Contains-get_or (map moved listed) k d below) in
      subst (IsPlaceWithin whole.initial whole.operations) from.2
      (within_moved from.0 (All-contains (IsPlaceWithin selected.initial selected.operations) listed from.0 each from.1))

  -- ---- the lines of a moved verdict

  maybe_moved : (p : Option ℕ) → maybe_place (option_map (moved_place places) p) ≡ map moved (maybe_place p)
  maybe_moved None = refl
  maybe_moved (Some p) = refl

  source_moved : (s : Source) → place_of_source (moved_source places s) ≡ moved (place_of_source s)
  source_moved (source.Enq p) = refl
  source_moved (source.Initial p) = refl

  step_moved : (step : CoverStep) → places_of_step (moved_step places step) ≡ map moved (places_of_step step)
  step_moved step = ap₂ (λ (p : LinePlace) (ps : List LinePlace). p ∷ ps) (source_moved step.source) (maybe_moved step.dequeue)

  cover_moved : (cover : List CoverStep)
      → flat_map places_of_step (map (moved_step places) cover) ≡ map moved (flat_map places_of_step cover)
  cover_moved [] = refl
  cover_moved (step ∷ cover) =
      ap₂ (λ (ps qs : List LinePlace). ps ++ qs) (step_moved step) (cover_moved cover)
      ∙ sym (map-append moved (places_of_step step) (flat_map places_of_step cover))

  violation_moved : (violation : Violation)
      → violation_places (moved_violation places violation) ≡ map moved (violation_places violation)
  violation_moved (Fresh deq enq) = ap (λ (ps : List LinePlace). Op (moved_place places deq) ∷ ps) (maybe_moved enq)
  violation_moved (Repeat enq first second) =
      ap (λ (p : LinePlace). p ∷ Op (moved_place places first) ∷ Op (moved_place places second) ∷ []) (source_moved enq)
  violation_moved (Order enq_a enq_b deq_b deq_a) =
      ap₂ (λ (p q : LinePlace). p ∷ q ∷ Op (moved_place places deq_b) ∷ maybe_place (option_map (moved_place places) deq_a)) (source_moved enq_a) (source_moved enq_b)
      ∙ ap (λ (ps : List LinePlace). moved (place_of_source enq_a) ∷ moved (place_of_source enq_b) ∷ Op (moved_place places deq_b) ∷ ps) (maybe_moved deq_a)
  violation_moved (Witness empty cover) = ap (λ (ps : List LinePlace). Op (moved_place places empty) ∷ ps) (cover_moved cover)

  kind_moved : (violation : Violation) → violation_kind (moved_violation places violation) ≡ violation_kind violation
  kind_moved (Fresh deq enq) = refl
  kind_moved (Repeat enq first second) = refl
  kind_moved (Order enq_a enq_b deq_b deq_a) = refl
  kind_moved (Witness empty cover) = refl

  verdict_moved : (verdict : Verdict)
      → verdict_places (moved_verdict places verdict) ≡ map moved (verdict_places verdict)
  verdict_moved (Yes order) = map_map (moved_place places) Op order ∙ sym (map_map Op moved order)
  verdict_moved (No violation) = violation_moved violation

  verdict_within : (verdict : Verdict) → IsWithin selected.initial selected.operations verdict
      → IsWithin whole.initial whole.operations (moved_verdict places verdict)
  verdict_within verdict within =
      subst (All (IsPlaceWithin whole.initial whole.operations)) (sym (verdict_moved verdict)) (all_within (verdict_places verdict) within)

  -- ---- a linearization by places

  order_moved : (order : List ℕ) (listed : List Operation) → ArePlacesOf selected.operations order listed
      → ArePlacesOf whole.operations (map (moved_place places) order) listed
  order_moved [] [] is = refl
  order_moved (p ∷ order) (o ∷ listed) is =
      let first : slice_get selected.operations p ≡ Some o = cc in
      let later : map (slice_get selected.operations) order ≡ map (λ x. Some x) listed = cc in
      ap₂ (λ (x : Option Operation) (xs : List (Option Operation)). x ∷ xs)
      (placed_at whole.operations places selected.operations p p at (slice_get_within selected.operations p o first) ∙ first)
      (order_moved order listed later)
  order_moved _ _ is = cc

  same_operations : (order : List ℕ) (listed : List Operation) → ArePlacesOf selected.operations order listed
      → operations_at whole.operations (map (moved_place places) order) ≡ operations_at selected.operations order
  same_operations order listed is =
      operations_there whole.operations (map (moved_place places) order) listed (order_moved order listed is)
      ∙ sym (operations_there selected.operations order listed is)

module _ (whole : Contents) (values empties : ℕ → Bool) (places : List ℕ)
    (at : ArePlacesOf whole.operations places (select values empties whole).operations)
    (same_initial : (p : ℕ) → p < length (select values empties whole).initial → slice_get whole.initial p ≡ slice_get (select values empties whole).initial p)
  where
    abbrev selected : Contents
    selected = select values empties whole

    lines_of_violation : (violation : Violation) → IsWithin selected.initial selected.operations (No violation)
        → lines_at whole.initial whole.operations (violation_places (moved_violation places violation))
        ≡ lines_at selected.initial selected.operations (violation_places violation)
    lines_of_violation violation within =
        ap (lines_at whole.initial whole.operations) (violation_moved whole selected places at same_initial violation)
        ∙ same_lines whole selected places at same_initial (violation_places violation)
        (λ place among. All-contains (IsPlaceWithin selected.initial selected.operations) (violation_places violation) place within among)

    -- a verdict on the selection, by the places of the whole
    pub decided_by_places : (verdict : Verdict) → IsDecided selected.initial selected.operations verdict
        → IsDecidedOf whole selected (moved_verdict places verdict)
    decided_by_places (Yes order) decided =
        let listed = decided.evidence.0 in record {
          exact = decided.exact;
          evidence = (listed, order_moved whole selected places at same_initial order listed decided.evidence.1, decided.evidence.2);
          chosen = (Yes order, decided, ap claimed.Yes (same_operations whole selected places at same_initial order listed decided.evidence.1));
          places = verdict_within whole selected places at same_initial (Yes order) decided.places;
        }
    decided_by_places (No violation) decided =
        let kinds = kind_moved whole selected places at same_initial violation in
        let lines = lines_of_violation violation decided.places in
        let there = violation_places (moved_violation places violation) in
        let shown : ShowsIn selected (violation_kind (moved_violation places violation)) (lines_at whole.initial whole.operations there) =
        subst (λ kind. ShowsIn selected kind (lines_at whole.initial whole.operations there)) (sym kinds)
        (subst (ShowsIn selected (violation_kind violation)) (sym lines) decided.evidence.1) in
        let within = verdict_within whole selected places at same_initial (No violation) decided.places in record {
          exact = decided.exact;
          evidence = ((within, violations_are_of_the_whole values empties whole _ _ shown), shown);
          chosen = (No violation, decided, ap₂ claimed.No kinds lines);
          places = within;
        }

-- a verdict on a part of a history, by the places of the whole
pub decided_at : (whole : HistoryView) (values empties : ℕ → Bool) (part : Part) (verdict : Verdict) (places : List ℕ)
    (moved : Verdict)
    → IsPart whole (select values empties (contents_of whole)) part
    → ArePlacesOf (operations_of whole.events) places (select values empties (contents_of whole)).operations
    → ((p : ℕ) → p < length (filter values whole.initial) → slice_get whole.initial p ≡ slice_get (filter values whole.initial) p)
    → IsDecided part.history.initial (operations_of part.history.events) verdict → moved ≡ moved_verdict places verdict
    → IsDecidedOf (contents_of whole) (select values empties (contents_of whole)) moved
decided_at whole values empties part verdict places moved is_part at same_initial decided is =
    let chosen = select values empties (contents_of whole) in
    let decided' : IsDecided chosen.initial chosen.operations verdict =
    subst (λ (c : Contents). IsDecided c.initial c.operations verdict) is_part.contents decided in
    subst (IsDecidedOf (contents_of whole) chosen) (sym is)
    (decided_by_places (contents_of whole) values empties places at same_initial verdict decided')

pub decided_of_part : (whole : HistoryView) (values empties : ℕ → Bool) (part : Part) (verdict : Verdict)
    (places : List ℕ) (moved : Verdict)
    → IsPart whole (select values empties (contents_of whole)) part → places ≡ part.places.items
    → ((p : ℕ) → p < length (filter values whole.initial) → slice_get whole.initial p ≡ slice_get (filter values whole.initial) p)
    → IsDecided part.history.initial (operations_of part.history.events) verdict → moved ≡ moved_verdict places verdict
    → IsDecidedOf (contents_of whole) (select values empties (contents_of whole)) moved
decided_of_part whole values empties part verdict places moved is_part is_places same_initial decided is =
    let at = subst (λ ps. ArePlacesOf (operations_of whole.events) ps (select values empties (contents_of whole)).operations) (sym is_places) is_part.places in
    decided_at whole values empties part verdict places moved is_part at same_initial decided is
