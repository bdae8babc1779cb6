-- Tokens at their threads' places are sealed, unless memory runs out.
use Rattle.std.proofs.Common.{◌≡◌, ℕ, ◌<◌, List, ◌∷◌, ◌++◌, length, get_or, refl, ap, sym, ◌∙◌, arith, length-append}
use Rattle.std.proofs.Math.Seq.{get_or-append_seam}
use Rattle.std.proofs.lemmas.List.FromFn.{get_or-range_with_len, length-range_with_len}
use Rattle.tickets.specs.Views.{numbers_below}
use Rattle.event_rings.specs.Ring.{TokenView}
use Rattle.collector.specs.Ends.{IsFirstForeign, threads_of_tokens}
use Rattle.collector.specs.declared.rounds.CollectError.{CollectError}
use Rattle.collector.specs.declared.rounds.CollectError.TheVariants.{Memory as OfMemory, Uncertified as OfToken}
use Rattle.stress_run.specs.Faults.{IsFaultOf}
use Rattle.stress_run.specs.declared.faults.RunFault.{RunFault}
use Rattle.stress_run.specs.declared.faults.RunFault.TheVariants.{Memory}

module _ (tokens : List TokenView) (own : threads_of_tokens tokens ≡ numbers_below (length tokens)) where
  none_foreign : (place : ℕ) → IsFirstForeign tokens place → ⊥
  none_foreign place f =
      let same = sym own ∙ f.threads in
      let front = length-range_with_len 0 place in
      let long = ap (λ l. length l) same ∙ length-append (numbers_below place) (f.other ∷ f.rest) in
      let all = length-range_with_len 0 (length tokens) in
      let inside : place < length tokens = omega (arith, front, long, all) in
      let left = get_or-range_with_len 0 (length tokens) place 0 inside in
      let right = ap (λ (i : ℕ). get_or (numbers_below place ++ f.other ∷ f.rest) i 0) (sym front)
      ∙ get_or-append_seam (numbers_below place) f.other f.rest 0 in
      let here = ap (λ l. get_or l place 0) same in
      f.foreign (omega (arith, left, right, here))

  -- if the tokens are in their places, the only fault of a seal is out of memory
  pub memory_alone : (error : CollectError) (fault : RunFault) → ((thread : ℕ) → error ≡ OfToken thread → IsFirstForeign tokens thread)
      → IsFaultOf error fault → fault ≡ Memory
  memory_alone OfMemory fault foreign is = is
  memory_alone (OfToken t) fault foreign is = absurd (none_foreign t (foreign t refl))
