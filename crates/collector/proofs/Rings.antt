-- The rings of a round and of a seal.
use Rattle.std.proofs.Common.{◌≡◌, ℕ, List, [], ◌∷◌, refl, ap}
use Rattle.std.specs.List.{AllZip}
use Rattle.event_rings.specs.Ring.{DrainView, TokenView}
use Rattle.collector.specs.Ends.{Fits, Drains, rings_of}
use Rattle.collector.specs.Inner.Ends.{rings_of_tokens}

head_same : {X : Type 0} (x y : X) (xs ys : List X) → x ∷ xs ≡ y ∷ ys → x ≡ y
head_same x y xs ys e = cc

tail_same : {X : Type 0} (x y : X) (xs ys : List X) → x ∷ xs ≡ y ∷ ys → xs ≡ ys
tail_same x y xs ys e = cc

-- tokens of the same rings and threads fit the ends
pub fits_each : (ends : List DrainView) (tokens : List TokenView) → rings_of_tokens tokens ≡ rings_of ends
    → AllZip Fits ends tokens
fits_each [] [] e = tt
fits_each [] (t ∷ ts) e = cc
fits_each (d ∷ ds) [] e = cc
fits_each (d ∷ ds) (t ∷ ts) e =
    let one = head_same (t.ring, t.thread) (d.ring, d.thread) _ _ e in
    ((λ _. ap (λ p. p.0) one), fits_each ds ts (tail_same (t.ring, t.thread) (d.ring, d.thread) _ _ e))

-- a round keeps the rings of the ends
pub rings_kept : (max : ℕ) (before after : List DrainView) → AllZip (Drains max) before after
    → rings_of after ≡ rings_of before
rings_kept max [] [] z = refl
rings_kept max [] (a ∷ rest) z = absurd z
rings_kept max (b ∷ bs) [] z = absurd z
rings_kept max (b ∷ bs) (a ∷ rest) z = same_pair a.ring b.ring a.thread b.thread _ _ z.0.ring z.0.thread (rings_kept max bs rest z.1)
  where
    same_pair : {X Y : Type 0} (x x' : X) (y y' : Y) (xs xs' : List (X × Y)) → x ≡ x' → y ≡ y' → xs ≡ xs'
        → (x, y) ∷ xs ≡ (x', y') ∷ xs'
    same_pair x x' y y' xs xs' p q r = cc
