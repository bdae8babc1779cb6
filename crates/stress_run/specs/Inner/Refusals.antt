-- The faults that come before a run.
use Rattle.std.specs.Prelude.{◌≡◌, ◌⊎◌, ℕ, List}
use Rattle.recorder_core.specs.Initial.{AreInitialNames}
use Rattle.stress_run.specs.Faults.{IsWithinLimits}
use Rattle.stress_run.specs.declared.faults.RunFault.{RunFault}
use Rattle.stress_run.specs.declared.faults.RunFault.TheVariants.{Limit, Memory}

-- no run may have these sizes and values, or the sizes are in range and memory ran out
abbrev pub IsRefusal : List ℕ → ℕ → ℕ → RunFault → Type 0
IsRefusal initial ring tries fault = ((fault ≡ Limit) × ¬ (IsWithinLimits ring tries × AreInitialNames initial))
    ⊎ ((fault ≡ Memory) × IsWithinLimits ring tries)
