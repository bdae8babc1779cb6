-- The least of several faults.
use Rattle.std.proofs.Common.{◌≡◌, ◌⊎◌, inl, inr, ℕ, ◌+◌, ◌<◌, List, [], ◌∷◌, ◌++◌, length, get_or, take}
use Rattle.std.proofs.Common.{All, Contains, ap, sym, subst, ◌∙◌, arith, add-one}
use Rattle.std.proofs.Math.Seq.{take-suc}
use Rattle.std.proofs.lemmas.List.Elements.{All-push}
use Rattle.stress_run.specs.Faults.{IsNotAfter}
use Rattle.stress_run.specs.declared.faults.RunFault.{RunFault}

-- the order of faults is transitive
pub not_after : (f g h : RunFault) → IsNotAfter f g → IsNotAfter g h → IsNotAfter f h
not_after f g h (inl a) (inl b) = inl (omega (arith, a, b))
not_after f g h (inl a) (inr b) = inl (omega (arith, a, b.0))
not_after f g h (inr a) (inl b) = inl (omega (arith, a.0, b))
not_after f g h (inr a) (inr b) = inr (a.0 ∙ b.0, omega (arith, a.1, b.1))

module _ (faults : List RunFault) (place : ℕ) (inside : place < length faults) (old fault new : RunFault) (is : fault ≡ get_or faults place fault)
    (either : (new ≡ old) ⊎ (new ≡ fault)) where
  -- a fault that stood among the faults is still one of them
  pub still_stands : Contains faults old → Contains faults new
  still_stands stands = elim either [ inl e ↦ subst (Contains faults) (sym e) stands | inr e ↦ subst (Contains faults) (sym e) (place, inside, sym is) ]

  -- the fault that counts of the least one so far and the next one is the least of one more
  pub still_least : All (IsNotAfter old) (take place faults) → IsNotAfter new old → IsNotAfter new fault → All (IsNotAfter new) (take (place + 1) faults)
  still_least all before at =
      let more = ap (λ (n : ℕ). take n faults) (add-one place) ∙ take-suc faults place fault inside
      ∙ ap (λ (r : RunFault). take place faults ++ r ∷ []) (sym is) in
      subst (All (IsNotAfter new)) (sym more) (All-push (IsNotAfter new) (take place faults) fault
      (λ k d h. not_after new old (get_or (take place faults) k d) before (all k d h)) at)
