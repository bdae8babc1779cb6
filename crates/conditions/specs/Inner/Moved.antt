-- A verdict by other places: those of the operations in a longer list.
use Rattle.std.specs.Prelude.{ℕ, List, map, option_map, slice_index_or}
use Rattle.value_match.specs.declared.life.Source.{Source}
use Rattle.value_match.specs.declared.life.Source.TheVariants.{Enq, Initial}
use Rattle.value_match.specs.declared.violation.CoverStep.{CoverStep}
use Rattle.value_match.specs.declared.violation.Violation.{Violation}
use Rattle.value_match.specs.declared.violation.Violation.TheVariants.{Fresh, Repeat, Order, Witness}
use Rattle.claims.specs.declared.verdict.Verdict.{Verdict}
use Rattle.claims.specs.declared.verdict.Verdict.TheVariants.{Yes, No}

-- the entry of the places at this place; past the end, the place itself
abbrev pub moved_place : List ℕ → ℕ → ℕ
moved_place places p = slice_index_or places p p

-- a source by other places; those of initial values stay
abbrev pub moved_source : List ℕ → Source → Source
moved_source places (Enq p) = Enq (moved_place places p)
moved_source places (Initial p) = Initial p

-- a value of a cover by other places
abbrev pub moved_step : List ℕ → CoverStep → CoverStep
moved_step places step =
    record { source = moved_source places step.source; dequeue = option_map (moved_place places) step.dequeue }

-- a violation by other places
abbrev pub moved_violation : List ℕ → Violation → Violation
moved_violation places (Fresh deq enq) = Fresh (moved_place places deq) (option_map (moved_place places) enq)
moved_violation places (Repeat enq first second) =
    Repeat (moved_source places enq) (moved_place places first) (moved_place places second)
moved_violation places (Order enq_a enq_b deq_b deq_a) =
    Order (moved_source places enq_a) (moved_source places enq_b) (moved_place places deq_b)
    (option_map (moved_place places) deq_a)
moved_violation places (Witness empty cover) = Witness (moved_place places empty) (map (moved_step places) cover)

-- a verdict by other places
abbrev pub moved_verdict : List ℕ → Verdict → Verdict
moved_verdict places (Yes order) = Yes (map (moved_place places) order)
moved_verdict places (No violation) = No (moved_violation places violation)
