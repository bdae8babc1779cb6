-- Calls on a sink, one after another.
use Rattle.text_lines.proofs.Common.{◌≡◌, ℕ, zero, suc, ◌&&◌, not, Bool, List, length, refl, sym, subst, inl, inr}
use Rattle.text_lines.proofs.Common.{◌==◌, if◌then◌else◌, eqb_tells, Asked, IsWritten, IsRefused}
use Rattle.text_lines.specs.Writing.{Took, Refused, TakesTimes}

module _ {S : Type 0} (transition : S → Asked → S → Type 0) where
  takes_then : (m n : ℕ) (a b c : S) → TakesTimes transition m a b → TakesTimes transition n b c
      → (k : ℕ) × TakesTimes transition k a c
  takes_then zero n a b c same after = (n, subst (λ (s : S). TakesTimes transition n s c) (sym same) after)
  takes_then (suc m) n a b c before after =
      let rest = takes_then m n before.0 b c before.2 after in
      (suc rest.0, (before.0, before.1, rest.1))

  -- a write that took some bytes took
  pub took : (n : ℕ) (piece : List ℕ) (a b : S) → (n ≡ 0 → ⊥)
      → transition a (if (n == 0) && not (length piece == 0) then Refused else Took) b → transition a Took b
  took n piece a b some asked =
      elim (eqb_tells n 0) [
        | inl h ↦ absurd (some h.1)
        | inr h ↦ subst (λ (t : Bool). transition a (if t && not (length piece == 0) then Refused else Took) b) h.0 asked
      ]

  -- two bodies that only write, in turn
  pub written_then : (a b c : S) → IsWritten transition a b → IsWritten transition b c → IsWritten transition a c
  written_then a b c before after =
      let both = takes_then before.calls after.calls a b c before.taken after.taken in
      record { calls = both.0; taken = both.1 }

  -- the sink took bytes once more
  pub written_more : (a b c : S) → IsWritten transition a b → transition b Took c → IsWritten transition a c
  written_more a b c before last = written_then a b c before (record { calls = 1; taken = (c, last, refl) })

  -- a call is refused after the sink took bytes
  pub refused_last : (a b c : S) → IsWritten transition a b → transition b Refused c → IsRefused transition a c
  refused_last a b c before last = record { before = b; written = before; refused = last }

  -- a body that only writes, and then one whose call is refused
  pub refused_then : (a b c : S) → IsWritten transition a b → IsRefused transition b c → IsRefused transition a c
  refused_then a b c before after = record { before = after.before; written = written_then a b after.before before after.written; refused = after.refused }
