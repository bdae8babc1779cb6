-- Drain ends and close tokens, one for each thread.
use Rattle.std.specs.Prelude.{◌≡◌, ◌≢◌, ℕ, ◌<◌, ◌≤◌, Bool, List, [], ◌∷◌, ◌++◌, length, map, take, drop, All, sum_by}
use Rattle.std.specs.List.{AllZip}
use Rattle.tickets.specs.Views.{numbers_below}
use Rattle.event_rings.specs.Ring.{RingName, DrainView, TokenView}
use Rattle.event_records.specs.declared.event.Event.{Event}

-- the drain ends, each with all that was received from it, and whether a round ran out of memory
pub record CollectorView : Type 0 where
  pub rings : List DrainView
  pub refused : Bool

-- the threads of these ends, in their order
abbrev pub threads_of : List DrainView → List ℕ
threads_of ends = map (λ e. e.thread) ends

-- the threads of these tokens, in their order
abbrev pub threads_of_tokens : List TokenView → List ℕ
threads_of_tokens tokens = map (λ t. t.thread) tokens

-- the rings of these ends, with their threads
abbrev pub rings_of : List DrainView → List (RingName × ℕ)
rings_of ends = map (λ e. (e.ring, e.thread)) ends

-- the ends of threads 0, 1, 2 and so on
abbrev pub AreInOrder : List DrainView → Type 0
AreInOrder ends = threads_of ends ≡ numbers_below (length ends)

-- nothing was drained from these ends
abbrev pub AreFresh : List DrainView → Type 0
AreFresh ends = All (λ e. e.received ≡ []) ends

-- a token of the end's thread is of the end's ring
abbrev pub Fits : DrainView → TokenView → Type 0
Fits end token = token.thread ≡ end.thread → token.ring ≡ end.ring

-- at most `max` more events were received, and none that was received is lost
pub record Drains (max : ℕ) (before after : DrainView) : Type 0 where
  pub ring : after.ring ≡ before.ring
  pub thread : after.thread ≡ before.thread
  pub drained : List Event
  pub few : length drained ≤ max
  pub received : after.received ≡ before.received ++ drained

-- the ends before a place were drained of at most `max` events each, and those from there on are unchanged
pub record StopsAt (max : ℕ) (before after : List DrainView) : Type 0 where
  pub place : ℕ
  pub inside : place < length before
  pub drained : AllZip (Drains max) (take place before) (take place after)
  pub left : drop place after ≡ drop place before

-- the number of events received in all
abbrev pub count_received : List DrainView → ℕ
count_received ends = sum_by (λ e. length e.received) ends

-- the token at this place isn't of the place's thread, and each one before it is
pub record IsFirstForeign (tokens : List TokenView) (place : ℕ) : Type 0 where
  pub other : ℕ
  pub rest : List ℕ
  pub threads : threads_of_tokens tokens ≡ numbers_below place ++ other ∷ rest
  pub foreign : other ≢ place

-- the token at some place is of the place's thread, and so is each one before it
pub record AreOwnUpTo (tokens : List TokenView) : Type 0 where
  pub place : ℕ
  pub rest : List ℕ
  pub threads : threads_of_tokens tokens ≡ numbers_below place ++ place ∷ rest
