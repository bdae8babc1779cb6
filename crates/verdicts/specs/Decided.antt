-- The verdict on a history.
use Rattle.std.specs.Prelude.{ℕ, List}
use Rattle.history_merge.specs.declared.operation.Operation.{Operation}
use Rattle.claims.specs.declared.verdict.Verdict.{Verdict}
use Rattle.claims.specs.Claiming.{IsWithin}
use Rattle.verdicts.specs.Verdicts.{IsEvidence, IsExact, IsVerdict}

-- the chosen verdict, which is evidence and exact, by places of initial values and operations
pub record IsDecided (initial : List ℕ) (operations : List Operation) (verdict : Verdict) : Type 0 where
  pub chosen : IsVerdict initial operations verdict
  pub evidence : IsEvidence initial operations verdict
  pub exact : IsExact initial operations verdict
  pub places : IsWithin initial operations verdict
