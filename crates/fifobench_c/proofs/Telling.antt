-- From an outcome, or out of memory for its text, to one of the right answers.
use Rattle.fifobench_c.proofs.Common.{◌⊎◌, inl, inr, List, refl, ℕ, AnswersOrNoMemory}
use Rattle.commands.specs.Answers.{Reply, memory_fault}
use Rattle.fifobench_c.specs.Filling.{TellsAnswer, TellsOneOf}

module _ {A : Type 0} (OfValue : A → Reply → Type 0) (value : A) (old new : List ℕ) (needed result : ℕ) where
  -- out of memory is already one of the answers
  pub told_one : (answer : Reply) → AnswersOrNoMemory OfValue value answer
      → TellsAnswer answer old new needed result ⊎ TellsAnswer memory_fault old new needed result
      → TellsOneOf (AnswersOrNoMemory OfValue value) old new needed result
  told_one answer right (inl told) = record { answer = answer; right = right; told = told }
  told_one answer right (inr none) = record { answer = memory_fault; right = inr refl; told = none }
