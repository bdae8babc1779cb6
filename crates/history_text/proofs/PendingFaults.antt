-- From the fault of one line to the first fault of a text in which calls may be pending.
use Rattle.history_text.proofs.Common.{Ahead, ap, append_assoc, arith, bytes_eq, count_before_events, Ending, Err}
use Rattle.history_text.proofs.Common.{Event}
use Rattle.history_text.proofs.Common.{after, Left, OfLeft}
use Rattle.history_text.proofs.Common.{event_format, false, false_from_ne_true, FaultAtFront, front_of, HasFirstFault}
use Rattle.history_text.proofs.Common.{HasTextFault}
use Rattle.history_text.proofs.Common.{HaveLines, HaveValueLines, header_fault, header_of, Header, IfErr, IfSome, inl}
use Rattle.history_text.proofs.Common.{inr}
use Rattle.history_text.proofs.Common.{IsOfInput, IsPartOfLine, IsTextFault, ItemFault, length, line, lines_of}
use Rattle.history_text.proofs.Common.{lines_of_initial, List}
use Rattle.history_text.proofs.Common.{None, NoRoom, NoRoomForText, Ok, One, Option, refl, Result, Some, subst, sym}
use Rattle.history_text.proofs.Common.{Takes, text_is}
use Rattle.history_text.proofs.Common.{TextFault, true, Two, Version, ℕ, ◌++◌, ◌+◌, ◌≡◌}
use Rattle.history_text.proofs.Common.{append-nil, count_format, end_line, FaultAmong, IfOk, line_of}
use Rattle.history_text.proofs.Common.{lines_before_events, MAX_INITIAL, NoRoomAmong}
use Rattle.history_text.proofs.Common.{NoVersionFault, value_format}
use Rattle.history_text.proofs.FirstFaults.{at_line, first_is, later_fault, line_fault}
use Rattle.history_text.specs.Inner.Taking.{HasFaultAmong}
use Rattle.std.proofs.Common.{◌≤◌}
use Rattle.history_text.specs.Inner.Pending.{HasEventsFault, IsStop, NoRoomForValues, ValuesFault}
use Rattle.history_text.specs.Pending.{event_line_in, FaultAfterEvents, first_line_of, HasPendingText}
use Rattle.history_text.specs.Pending.{HasPendingTextFault}
use Rattle.history_text.specs.Pending.{IsCutText, IsPendingTextFault, last_line_in, lines_after_stop, NoFirstLine}
use Rattle.history_text.specs.Pending.{NoRoomForPending, pending_text, StopsAfter}
use Rattle.history_text.specs.Pending.{stop_line, value_lines, whole_line_at_front}
use Rattle.history_text.specs.declared.pending_text.PendingText.{PendingText}
use Rattle.std.proofs.Common.{Bool, ◌≢◌}
use Rattle.text_lines.specs.Faults.{MemoryOr}
use Rattle.text_lines.specs.declared.fault.TextFault.TheVariants.{Cut, Memory}
use Rattle.history_text.proofs.Consuming.{taken_through, Takes-append}

-- ---- one line

-- a faulty next line has been counted
pub whole_line_faulty : {A : Type 0} (read : ℕ → List ℕ → Result A TextFault) (n m : ℕ) (old new : Left)
    (bytes : List ℕ)
    (r : Result A TextFault) → m ≡ n → Takes old new (line bytes) × IsPartOfLine bytes → r ≡ read m bytes
    → IfErr r (FaultAtFront (λ end fault front. whole_line_at_front (read n) n end front ≡ Err fault) old)
whole_line_faulty read n m old new bytes (Ok said) same taken e = tt
whole_line_faulty read n m old new bytes (Err fault) same taken e =
    at_line (λ end front. whole_line_at_front (read n) n end front ≡ Err fault) old new bytes taken.0 taken.1 (λ end rest. rw (← same, ← e) refl)

-- another line is not the first of a text
pub other_first : (old new : Left) (bytes : List ℕ) → Takes old new (line bytes) → IsPartOfLine bytes
    → ((is_pending : Bool) (version : Version) → bytes ≡ first_line_of is_pending version → ⊥)
    → FaultAtFront NoFirstLine old Header
other_first old new bytes taken part other =
    let differ : (is_pending : Bool) (version : Version) → bytes_eq bytes (first_line_of is_pending version) ≡ false =
    λ is_pending version. false_from_ne_true _ (λ same. other is_pending version (text_is bytes (first_line_of is_pending version) same)) in
    at_line (λ end front. NoFirstLine end Header front) old new bytes taken part (λ end rest is_pending version. rw (differ is_pending version) refl)

-- ---- the lines of events, and those after them

module _ (is_pending : Bool) (n m : ℕ) (events : List Event) (right : HaveLines event_format events) (old mid : Left) (fault : TextFault)
    (of_input : IsOfInput fault) where
  -- the fault of a line after these events
  pub stops_after : m ≡ n + length events → Takes old mid (lines_of event_format events)
      → FaultAtFront (λ end f front. whole_line_at_front (event_line_in is_pending m (length events)) m end front
      ≡ Err f) mid fault
      → HasEventsFault is_pending n old events None fault
  stops_after same taken h =
      line_fault (λ k e r f. whole_line_at_front (event_line_in is_pending k (length events)) k e (front_of r) ≡ Err f)
      (λ e b f. StopsAfter is_pending n e f b events) (NoRoom event_format) (n + length events) m old mid (lines_of event_format events) fault
      same of_input taken (λ e r next. record { rest = r; right = right; front = refl; next = next }) h

  -- the fault of the last line, after these events and the line that counts pending calls
  pub lacks_end : (calls : Option ℕ) → is_pending ≡ true → IsStop is_pending calls → m ≡ n + length events + 1
      → Takes old mid (lines_of event_format events ++ stop_line calls (length events))
      → FaultAtFront (λ end f front. whole_line_at_front (last_line_in m (length events)) m end front
      ≡ Err f) mid fault
      → HasEventsFault is_pending n old events calls fault
  lacks_end None pending stop same taken h = let other = stop.of_kind in absurd (cc)
  lacks_end (Some calls) pending stop same taken h =
      let front = lines_of event_format events ++ stop_line (Some calls) (length events) in
      line_fault (λ k e r f. whole_line_at_front (last_line_in k (length events)) k e (front_of r) ≡ Err f)
      (λ e b f. FaultAfterEvents is_pending n e f b events (Some calls)) (NoRoom event_format) (n + length events + 1) m old mid front fault
      same of_input taken (λ e r next. (
        pending,
        record {
          rest = r;
          right = right;
          few_open = stop.few;
          front = append_assoc (lines_of event_format events) (stop_line (Some calls) (length events)) r;
          next = next;
        },
      )) h

-- the line that counts the events comes after the one that counts pending calls
pub counted_taken : (is_pending : Bool) (calls : Option ℕ) (events : List Event) (old mid stop new : Left)
    → IsStop is_pending calls → is_pending ≡ true
    → Takes old mid (lines_of event_format events) → Takes mid stop (stop_line calls (length events))
    → Takes stop new (end_line (length events))
    → Takes old new (lines_of event_format events
    ++ (stop_line calls (length events) ++ lines_after_stop calls (length events)))
counted_taken is_pending None events old mid stop new is pending lines here last = let other = is.of_kind in absurd (cc)
counted_taken is_pending (Some calls) events old mid stop new is pending lines here last =
    Takes-append old mid new _ _ lines (Takes-append mid stop new _ _ here last)

-- no line comes after the one that counts the events, if no pending calls are counted
pub plain_taken : (is_pending : Bool) (calls : Option ℕ) (events : List Event) (old mid stop : Left)
    → IsStop is_pending calls → is_pending ≡ false
    → Takes old mid (lines_of event_format events) → Takes mid stop (stop_line calls (length events))
    → Takes old stop (lines_of event_format events
    ++ (stop_line calls (length events) ++ lines_after_stop calls (length events)))
plain_taken is_pending (Some calls) events old mid stop is plain lines here = let other = is.of_kind in absurd (cc)
plain_taken is_pending None events old mid stop is plain lines here =
    Takes-append old mid stop _ _ lines (rw append-nil here)

-- ---- the initial values

-- the initial values are read
pub values_read : {V : Type 0} (items_of : V → List ℕ) (count : ℕ) (old mid new : Left) (r : Result V TextFault)
    → Takes old mid (line_of count_format count)
    → IfOk r (λ v. HaveLines value_format (items_of v) × Takes mid new (lines_of value_format (items_of v)))
    → IfOk r (λ v. length (items_of v) ≡ count)
    → IfOk r (λ v. HaveValueLines Two (items_of v) × Takes old new (value_lines Two (items_of v)))
values_read items_of count old mid new (Err fault) first read long = tt
values_read items_of count old mid new (Ok v) first read long =
    (read.0, Takes-append old mid new _ _ (subst (λ k. Takes old mid (line_of count_format k)) (sym long) first) read.1)

-- the fault of the initial values
pub values_fault : {V : Type 0} (count n m : ℕ) (old mid : Left) (r : Result V TextFault) → count ≤ MAX_INITIAL
    → m ≡ n + 1
    → Takes old mid (line_of count_format count) → IfErr r (HasFaultAmong value_format count m mid)
    → IfErr r (HasFirstFault (ValuesFault Two n) (NoRoomForValues Two) old)
values_fault count n m old mid (Ok v) few same first h = tt
values_fault count n m old mid (Err fault) few same first h =
    later_fault (λ k e b f. FaultAmong value_format count k e f b) (ValuesFault Two n) (NoRoomAmong value_format count) (NoRoomForValues Two) (n + 1) m
    old mid (line_of count_format count) fault same first (λ e b f k. inr (count, few, (b, refl, k))) (λ b k. (count, few, (b, refl, k))) h

-- the lines before the events
pub lines_before_taken : (version : Version) (initial : List ℕ) (old mid new : Left)
    → Takes old mid (line (header_of version))
    → Takes mid new (value_lines version initial) → Takes old new (lines_before_events version initial)
lines_before_taken One initial old mid new first none = taken_through old mid new _ first none
lines_before_taken Two initial old mid new first values = Takes-append old mid new _ _ first values

-- the first line is that of no version
pub version_fault : (lines : ℕ) (old : Left) (fault : TextFault) → IsOfInput fault
    → FaultAtFront NoVersionFault old fault → HasTextFault lines old fault
version_fault lines old fault of_input h =
    first_is (IsTextFault lines) NoRoomForText old fault of_input (record { input = h.input; may = h.may; is_so = inl h.is_so })

-- ---- the whole text

-- a fact about each fault holds of it, out of memory aside
known_too : (L : Type 0) (P Q : TextFault → Type 0) (fault : TextFault) → Q fault → MemoryOr L P fault
    → MemoryOr L (λ f. P f × Q f) fault
known_too L P Q Memory known h = h
known_too L P Q fault known h = (h, known)

has_known : (P Q : Ending → List ℕ → TextFault → Type 0) (L : List ℕ → Type 0) (old : Left) (fault : TextFault)
    → ((e : Ending) (b : List ℕ) → Q e b fault) → HasFirstFault P L old fault
    → HasFirstFault (λ e b f. P e b f × Q e b f) L old fault
has_known P Q L old fault known h =
    let e = h.input.ending in
    let b = h.input.bytes in
    record { input = h.input; may = h.may; is_so = known_too (L b) (P e b) (Q e b) fault (known e b) h.is_so }

-- a fault of the lines of initial values of a history
pub history_values_first : (version : Version) (lines m : ℕ) (old mid : Left) (fault : TextFault) → m ≡ lines + 2
    → Takes old mid (line (header_of version))
    → HasFirstFault (ValuesFault version m) (NoRoomForValues version) mid fault → HasTextFault lines old fault
history_values_first version lines m old mid fault same taken h =
    later_fault (λ k e r f. ValuesFault version k e r f) (IsTextFault lines) (NoRoomForValues version) NoRoomForText (lines + 2) m old mid
    (line (header_of version)) fault same taken (step version) (room version) h
  where
    step : (v : Version) (e : Ending) (r : List ℕ) (f : TextFault) → ValuesFault v (lines + 2) e r f
        → IsTextFault lines e (line (header_of v) ++ r) f
    step One e r f k = absurd k
    step Two e r f k = inr (Two, (r, refl, inl k))

    room : (v : Version) (r : List ℕ) → NoRoomForValues v r → NoRoomForText (line (header_of v) ++ r)
    room One r k = absurd k
    room Two r k = (Two, (r, refl, inl k))

module _ (takes_cut is_pending : Bool) (version : Version) (lines m : ℕ) (old mid : Left) (fault : TextFault) where
  -- a fault of the lines of initial values
  pub values_first : m ≡ lines + 2 → Takes old mid (line (first_line_of is_pending version))
      → HasFirstFault (ValuesFault version m) (NoRoomForValues version) mid fault
      → HasPendingTextFault takes_cut lines old fault
  values_first same taken h =
      later_fault (λ k e r f. ValuesFault version k e r f) (IsPendingTextFault takes_cut lines) (NoRoomForValues version) NoRoomForPending
      (lines + 2) m old mid (line (first_line_of is_pending version)) fault same taken (step version) (room version) h
    where
      step : (v : Version) (e : Ending) (r : List ℕ) (f : TextFault) → ValuesFault v (lines + 2) e r f
          → IsPendingTextFault takes_cut lines e (line (first_line_of is_pending v) ++ r) f
      step One e r f k = absurd k
      step Two e r f k = inr (is_pending, Two, (r, refl, inl k))

      room : (v : Version) (r : List ℕ) → NoRoomForValues v r
          → NoRoomForPending (line (first_line_of is_pending v) ++ r)
      room One r k = absurd k
      room Two r k = (is_pending, Two, (r, refl, inl k))

  -- a fault of the lines after those of the initial values
  pub events_first : (initial : List ℕ) (events : List Event) (calls : Option ℕ)
      → m ≡ lines + count_before_events version initial + 1
      → HaveValueLines version initial
      → Takes old mid (line (first_line_of is_pending version) ++ value_lines version initial)
      → (takes_cut ≡ true → fault ≢ Cut) → HasEventsFault is_pending m mid events calls fault
      → HasPendingTextFault takes_cut lines old fault
  events_first initial events calls same right taken not_cut h =
      later_fault (λ k e r f. FaultAfterEvents is_pending k e f r events calls × (takes_cut ≡ true → f ≢ Cut)) (IsPendingTextFault takes_cut lines)
      (NoRoom event_format) NoRoomForPending (lines + count_before_events version initial + 1) m old mid
      (line (first_line_of is_pending version) ++ value_lines version initial) fault same taken (step version right) (room version right)
      (has_known (λ e r f. FaultAfterEvents is_pending m e f r events calls) (λ e r f. takes_cut ≡ true → f ≢ Cut) (NoRoom event_format) mid fault
      (λ e b. not_cut) h)
    where
      whole : (v : Version) (r : List ℕ) → (line (first_line_of is_pending v) ++ value_lines v initial) ++ r
          ≡ line (first_line_of is_pending v) ++ (value_lines v initial ++ r)
      whole v r = append_assoc (line (first_line_of is_pending v)) (value_lines v initial) r

      step : (v : Version) → HaveValueLines v initial → (e : Ending) (r : List ℕ) (f : TextFault)
          → FaultAfterEvents is_pending (lines + count_before_events v initial + 1) e f r events calls
          × (takes_cut ≡ true → f ≢ Cut)
          → IsPendingTextFault takes_cut lines e ((line (first_line_of is_pending v) ++ value_lines v initial) ++ r) f
      step One have e r f k =
          let n : lines + 1 + 1 ≡ lines + 2 = omega arith in
          inr (is_pending, One, (r, whole One r, (events, calls, rw n at k.0, k.1)))
      step Two have e r f k =
          let n : lines + (2 + length initial) + 1 ≡ lines + 2 + 1 + length initial = omega arith in
          inr (is_pending, Two, (lines_of_initial initial ++ r, whole Two r, inr (initial, have, (r, refl, (events, calls, rw n at k.0, k.1)))))

      room : (v : Version) → HaveValueLines v initial → (r : List ℕ) → NoRoom event_format r
          → NoRoomForPending ((line (first_line_of is_pending v) ++ value_lines v initial) ++ r)
      room One have r k = (is_pending, One, (r, whole One r, k))
      room Two have r k = (is_pending, Two, (lines_of_initial initial ++ r, whole Two r, inr (initial, have, (r, refl, k))))

  -- a text that is cut off was read
  pub cut_read : (t : PendingText) → version ≡ t.version → m ≡ lines + count_before_events t.version t.initial + 1
      → HaveValueLines t.version t.initial
      → Takes old mid (line (first_line_of is_pending t.version) ++ value_lines t.version t.initial) → fault ≡ Cut
      → HasEventsFault is_pending m mid t.events t.open_calls fault → OfLeft old (λ a. IsCutText lines a t)
  cut_read t of same right taken cut h =
      let is = rw (same, cut) at h in record {
        input = after (line (first_line_of is_pending t.version) ++ value_lines t.version t.initial) is.input;
        may = taken.before is.input is.may;
        is_so = record { is_pending = is_pending; initial = right; rest = is.input.bytes; front = refl; cut = is.is_so };
      }

-- a whole text was read
pub whole_read : (t : PendingText) (is_pending : Bool) (old a b new : Left)
    → Takes old a (line (first_line_of is_pending t.version))
    → HaveValueLines t.version t.initial → Takes a b (value_lines t.version t.initial)
    → HaveLines event_format t.events → IsStop is_pending t.open_calls
    → Takes b new (lines_of event_format t.events
    ++ (stop_line t.open_calls (length t.events) ++ lines_after_stop t.open_calls (length t.events)))
    → HasPendingText t × Takes old new (pending_text t)
whole_read t is_pending old a b new first right values events stop rest = (
  record { initial = right; events = events; few_open = stop.few },
  rw stop.of_kind (Takes-append old a new _ _ first (Takes-append a b new _ _ values rest)),
)
