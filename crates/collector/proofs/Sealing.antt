-- The progress of the seal.
use Rattle.std.proofs.Common.{◌≡◌, ℕ, suc, ◌+◌, List, [], ◌∷◌, ◌++◌, length, map, refl, ap, sym, subst, ◌∙◌, arith}
use Rattle.std.proofs.Common.{append_assoc, length-append}
use Rattle.std.proofs.Common.{add-one, append-nil}
use Rattle.std.proofs.lemmas.List.{map-append}
use Rattle.std.specs.List.{AllZip, range_with_len}
use Rattle.tickets.specs.Views.{numbers_below}
use Rattle.event_rings.specs.Ring.{DrainView, TokenView}
use Rattle.event_records.specs.declared.event.Event.{Event}
use Rattle.tickets.proofs.Rising.{range-push}
use Rattle.std.proofs.lemmas.Slice.Zip.{AllZip-long}
use Rattle.collector.specs.Ends.{Fits, AreInOrder, IsFirstForeign, AreOwnUpTo, threads_of, threads_of_tokens}

-- the tokens used so far are of their places' threads, and the lists so far are all that they name
pub record IsSealing (tokens : List TokenView) (rings : List DrainView) (left : List TokenView)
    (lists : List (List Event)) : Type 0 where
  pub done : List TokenView
  pub tokens_are : tokens ≡ done ++ left
  pub fits : AllZip Fits rings left
  pub sealed : lists ≡ map (λ token. token.sent) done
  pub own : map (λ token. token.thread) done ≡ numbers_below (length done)
  pub order : map (λ ring. ring.thread) rings ≡ range_with_len (length done) (length rings)

head_same : (x y : ℕ) (xs ys : List ℕ) → x ∷ xs ≡ y ∷ ys → x ≡ y
head_same x y xs ys e = cc

tail_same : (x y : ℕ) (xs ys : List ℕ) → x ∷ xs ≡ y ∷ ys → xs ≡ ys
tail_same x y xs ys e = cc

module _ (tokens : List TokenView) (rings rings' : List DrainView) (left left' : List TokenView) (lists : List (List Event)) (r : DrainView)
    (t : TokenView) (p : IsSealing tokens rings left lists) (next_ring : rings ≡ r ∷ rings') (next_token : left ≡ t ∷ left') where
  ordered : r.thread ∷ map (λ (ring : DrainView). ring.thread) rings' ≡ length p.done
      ∷ range_with_len (length p.done + 1) (length rings')
  ordered = subst (λ (rs : List DrainView). map (λ (ring : DrainView). ring.thread) rs ≡ range_with_len (length p.done) (length rs)) next_ring p.order

  own_place : r.thread ≡ length p.done
  own_place = head_same _ _ _ _ ordered

  -- one more ring is sealed by its token
  pub seals_next : (events : List Event) → events ≡ t.sent → t.thread ≡ r.thread
      → IsSealing tokens rings' left' (lists ++ events ∷ [])
  seals_next events all own = record {
    done = p.done ++ t ∷ [];
    tokens_are = p.tokens_are ∙ ap (λ l. p.done ++ l) next_token ∙ sym (append_assoc p.done (t ∷ []) left');
    fits = (subst (λ (ts : List TokenView). AllZip Fits (r ∷ rings') ts) next_token (subst (λ (rs : List DrainView). AllZip Fits rs left) next_ring p.fits)).1;
    sealed = ap (λ l. l ++ events ∷ []) p.sealed ∙ ap (λ e. map (λ (token : TokenView). token.sent) p.done ++ e ∷ []) all
        ∙ sym (map-append (λ (token : TokenView). token.sent) p.done (t ∷ []));
    own =
        map-append (λ (token : TokenView). token.thread) p.done (t ∷ [])
        ∙ ap (λ l. l ++ t.thread ∷ []) p.own
        ∙ ap (λ (x : ℕ). numbers_below (length p.done) ++ x ∷ []) (own ∙ own_place)
        ∙ sym (range-push 0 (length p.done) ∙ ap (λ (x : ℕ). numbers_below (length p.done) ++ x ∷ []) (omega arith))
        ∙ ap numbers_below longer;
    order = tail_same _ _ _ _ ordered ∙ ap (λ (n : ℕ). range_with_len n (length rings')) (let e = add-one (length p.done) in e ∙ longer);
  }
    where
      longer : suc (length p.done) ≡ length (p.done ++ t ∷ [])
      longer = omega (arith, length-append p.done (t ∷ []))

  -- a token of another thread is the first foreign one
  pub stops : (t.thread ≡ r.thread → ⊥) → IsFirstForeign tokens r.thread
  stops other = record {
    other = t.thread;
    rest = map (λ token. token.thread) left';
    threads =
        ap (map (λ (token : TokenView). token.thread)) (p.tokens_are ∙ ap (λ l. p.done ++ l) next_token)
        ∙ map-append (λ (token : TokenView). token.thread) p.done (t ∷ left')
        ∙ ap (λ l. l ++ t.thread ∷ map (λ token. token.thread) left') (p.own ∙ ap numbers_below (sym own_place));
    foreign = other;
  }

  -- the token is of its place's thread, as those before it
  pub own_so_far : t.thread ≡ r.thread → AreOwnUpTo tokens
  own_so_far own = record {
    place = length p.done;
    rest = map (λ token. token.thread) left';
    threads =
        ap (map (λ (token : TokenView). token.thread)) (p.tokens_are ∙ ap (λ l. p.done ++ l) next_token)
        ∙ map-append (λ (token : TokenView). token.thread) p.done (t ∷ left')
        ∙ ap (λ l. l ++ t.thread ∷ map (λ token. token.thread) left') p.own
        ∙ ap (λ (x : ℕ). numbers_below (length p.done) ++ x ∷ map (λ token. token.thread) left') (own ∙ own_place);
  }

none_left : (left : List TokenView) → AllZip Fits [] left → left ≡ []
none_left [] fits = refl
none_left (t ∷ ts) fits = absurd fits

-- if no token is left, each was of its place's thread
pub all_certified : (tokens : List TokenView) (ends rings : List DrainView) (left : List TokenView)
    (lists : List (List Event))
    → AllZip Fits ends tokens → AreInOrder ends → IsSealing tokens rings left lists → left ≡ [] → threads_of_tokens tokens ≡ threads_of ends
all_certified tokens ends rings left lists fits order p none =
    let all : tokens ≡ p.done = p.tokens_are ∙ ap (λ (l : List TokenView). p.done ++ l) none ∙ append-nil p.done in
    let long : length p.done ≡ length ends = sym (ap length all) ∙ AllZip-long Fits ends tokens fits in
    ap threads_of_tokens all ∙ p.own ∙ ap numbers_below long ∙ sym order

-- if no ring is left, no token is
pub certified_at_end : (tokens : List TokenView) (ends rings : List DrainView) (left : List TokenView)
    (lists : List (List Event))
    → AllZip Fits ends tokens → AreInOrder ends → IsSealing tokens rings left lists → length rings ≡ 0 → threads_of_tokens tokens ≡ threads_of ends
certified_at_end tokens ends rings left lists fits order p none =
    all_certified tokens ends rings left lists fits order p (none_left left (subst (λ (rs : List DrainView). AllZip Fits rs left) (empty rings none) p.fits))
  where
    empty : (xs : List DrainView) → length xs ≡ 0 → xs ≡ []
    empty [] e = refl
    empty (x ∷ xs) e = absurd (omega (arith, e))
