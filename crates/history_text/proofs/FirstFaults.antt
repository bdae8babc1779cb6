-- From the fault of one line to the first fault of the whole input, and reading a text that the input begins with.
use Rattle.history_text.proofs.Common.{[], Ahead, All-from_recursion, All-push, AllByRecursion, ap, append-nil}
use Rattle.history_text.proofs.Common.{after, Left, MayBeLeft, OfLeft, over}
use Rattle.history_text.proofs.Common.{append_assoc, arith, BeginsWith, BrokenLineFault, bytes_eq}
use Rattle.history_text.proofs.Common.{count_before_events, end_line, Ending, EndOfInput, Err, event_format, Failure}
use Rattle.history_text.proofs.Common.{false, false_from_ne_true, fault_at, FaultAmong, FaultAtFront, fields_of}
use Rattle.history_text.proofs.Common.{flat_map-append, Format, Front, front_of, front_too_long, front_unfinished}
use Rattle.history_text.proofs.Common.{has_no_line_feed, HasFirstFault, HasItemsFault, HasTextFault, HaveLines}
use Rattle.history_text.proofs.Common.{HaveValueLines, Header, header_fault, header_of, IfErr, IfOk, IfSome}
use Rattle.history_text.proofs.Common.{if◌then◌else◌, inl, inr, is_line_feed, IsErrAnd, IsOfInput, IsOver}
use Rattle.history_text.proofs.Common.{IsPartOfLine, IsSpelled, IsTextFault, item_at_front, item_in, ItemFault}
use Rattle.history_text.proofs.Common.{join_with_byte-slice_split, length, length-append, line, line_at_front, line_of}
use Rattle.history_text.proofs.Common.{lines_before_events, lines_of, lines_of_initial, List, longest_line}
use Rattle.history_text.proofs.Common.{MatchResult, Memory, nat_lt, nat_tests, NoLineFault, None, NoRoom, NoRoomAmong}
use Rattle.history_text.proofs.Common.{NoRoomForText, Nothing, NoVersionFault, Ok, One, Option, recursion_from_All}
use Rattle.history_text.proofs.Common.{refl, Result, Some, spaced, subst, suc, sym, Takes, text_is}
use Rattle.history_text.proofs.Common.{TextFault, TooLong, true, Two, Unfinished, Version, Whole, whole, zero, ℕ, ◌++◌}
use Rattle.history_text.proofs.Common.{◌+◌, ◌<◌, ◌>>=◌, ◌^◌, ◌∙◌, ◌∷◌, ◌≡◌, ◌≤◌, common_steps}
use Rattle.text_lines.proofs.MemoryOrNot.{follows, is_memory, known_fault}
use Rattle.text_lines.specs.Faults.{MemoryOr}
use Rattle.history_text.specs.Inner.Taking.{HasFaultAmong}
use Rattle.history_text.proofs.Common.{LineFault}
use Rattle.history_text.proofs.FormLines.{end_front, IsReadBack, Says}
use Rattle.history_text.proofs.Consuming.{Takes-append, before, before_end, some_left}

-- ---- one step after another

pub then_ok : {A B : Type 0} (r : Result A TextFault) (f : A → Result B TextFault) (x : A) → r ≡ Ok x → (r >>= f) ≡ f x
then_ok r f x is = ap (λ q. q >>= f) is

pub then_err : {A B : Type 0} (r : Result A TextFault) (f : A → Result B TextFault) (fault : TextFault) → r ≡ Err fault
    → (r >>= f) ≡ Err fault
then_err r f fault is = ap (λ q. q >>= f) is

-- ---- the first line

-- the value whose line has these bytes
abbrev pub value_with : {A : Type 0} → List (A × List ℕ) → TextFault → List ℕ → List ℕ → Result (A × List ℕ) TextFault
value_with [] other bytes rest = Err other
value_with (row ∷ rows) other bytes rest =
    if bytes_eq bytes row.1 then Ok (row.0, rest) else value_with rows other bytes rest

-- the first line, which has to be one of these, and the bytes after it
abbrev pub first_at : {A : Type 0} → List (A × List ℕ) → TextFault → Ending → Front → Result (A × List ℕ) TextFault
first_at rows other ending (Whole bytes rest) = value_with rows other bytes rest
first_at rows other ending TooLong = Err other
first_at rows other ending Unfinished = Err (fault_at ending)
first_at rows other ending Nothing = Err (fault_at ending)

-- a line that is one of these is read
pub first_read : {A : Type 0} (rows : List (A × List ℕ)) (other : TextFault) (ending : Ending) (value : A)
    (bytes rest : List ℕ)
    → has_no_line_feed bytes ≡ true → length bytes ≤ 80 → value_with rows other bytes rest ≡ Ok (value, rest)
    → first_at rows other ending (front_of (line bytes ++ rest)) ≡ Ok (value, rest)
first_read rows other ending value bytes rest one short is = grind (arith, whole)

-- a line that is none of these has the fault
pub none_with : {A : Type 0} (rows : List (A × List ℕ)) (other : TextFault) (bytes rest : List ℕ)
    → AllByRecursion (λ row. bytes ≡ row.1 → ⊥) rows → value_with rows other bytes rest ≡ Err other
none_with [] other bytes rest none = refl
none_with (row ∷ rows) other bytes rest none =
    rw (false_from_ne_true (bytes_eq bytes row.1) (λ same. none.0 (text_is bytes row.1 same))) (none_with rows other bytes rest none.1)

-- ---- lines of items

-- items, and the bytes after them
abbrev listed : {A : Type 0} → List A → List ℕ → Result (List A × List ℕ) TextFault
listed xs rest = Ok (xs, rest)

-- an optional item before others
abbrev onward : {A : Type 0} → Option A → List ℕ → Result (List A × List ℕ) TextFault
    → Result (List A × List ℕ) TextFault
onward None rest later = listed [] rest
onward (Some x) rest later = later >>= λ more. listed (x ∷ more.0) more.1

with_first : {A : Type 0} (x : A) (xs : List A) (last : Result (List ℕ) TextFault)
    → ((last >>= listed xs) >>= λ more. listed (x ∷ more.0) more.1) ≡ (last >>= listed (x ∷ xs))
with_first x xs (Ok rest) = refl
with_first x xs (Err f) = refl

-- a step that reads the next item, or the end of the items
module _ {A : Type 0} (step : ℕ → List ℕ → Result (Option A × List ℕ) TextFault) where
  -- the items from the k-th on, and the bytes after them
  unfoldable pub items_from : ℕ → ℕ → List ℕ → Result (List A × List ℕ) TextFault
  items_from zero k bytes = Err Memory
  items_from (suc most) k bytes = step k bytes >>= λ next. onward next.0 next.1 (items_from most (k + 1) next.1)

  -- the end of the items
  abbrev at_end : List ℕ → Result (Option A × List ℕ) TextFault
  at_end rest = Ok (None, rest)

  ends_here : (most k : ℕ) (last : Result (List ℕ) TextFault)
      → ((last >>= at_end) >>= λ next. onward next.0 next.1 (items_from most (k + 1) next.1)) ≡ (last >>= listed [])
  ends_here most k (Ok rest) = refl
  ends_here most k (Err f) = refl

  -- some items are read, up to what ends them, if the line of each is read
  pub items_read : (format : Format A) (limit most k i : ℕ) (xs : List A) (r : List ℕ)
      (last : Result (List ℕ) TextFault)
      → ((j : ℕ) (x : A) (rest : List ℕ) → format.HasLine x → j < limit → step j (line_of format x ++ rest) ≡ Ok (Some x, rest))
      → AllByRecursion format.HasLine xs → i ≡ k + length xs → i ≤ limit → length xs < most
      → step i r ≡ (last >>= at_end) → items_from most k (lines_of format xs ++ r) ≡ (last >>= listed xs)
  unfolding items_from
  items_read format limit zero k i xs r last back all i_is few room at = absurd (omega (arith, room))
  items_read format limit (suc most) k i [] r last back all i_is few room at =
      let here : k ≡ i = omega (arith, i_is) in
      ap (λ (j : ℕ). items_from (suc most) j r) here ∙ ap (λ found. found >>= λ next. onward next.0 next.1 (items_from most (i + 1) next.1)) at
      ∙ ends_here most i last
  items_read format limit (suc most) k i (x ∷ xs) r last back all i_is few room at =
      let rest = lines_of format xs ++ r in
      let more = items_read format limit most (k + 1) i xs r last back all.1 (omega (arith, i_is)) few (omega (arith, room)) at in
      ap (items_from (suc most) k) (append_assoc (line_of format x) (lines_of format xs) r)
      ∙ ap (λ found. found >>= λ next. onward next.0 next.1 (items_from most (k + 1) next.1)) (back k x rest all.0 (omega (arith, i_is, few)))
      ∙ ap (λ later. onward (Some x) rest later) more ∙ with_first x xs last

-- ---- items up to a last line, or to the end of the input

module _ {A : Type 0} (format : Format A) where
  -- the items from line n on
  abbrev pub items_in : ℕ → Ending → List ℕ → Result (List A × List ℕ) TextFault
  items_in n ending bytes = items_from (λ k b. item_at_front format (n + k) k ending (front_of b)) (suc format.most) 0 bytes

  module _ (back : IsReadBack format) (n : ℕ) (ending : Ending) where
    -- all items are read, up to what ends them
    pub all_read : (xs : List A) (r rest : List ℕ) → HaveLines format xs
        → item_at_front format (n + length xs) (length xs) ending (front_of r) ≡ Ok (None, rest)
        → items_in n ending (lines_of format xs ++ r) ≡ Ok (xs, rest)
    all_read xs r rest right end =
        let few = right.few in
        items_read (λ k b. item_at_front format (n + k) k ending (front_of b)) format format.most (suc format.most) 0 (length xs) xs r (Ok rest)
        (λ k x more. back (n + k) k ending x more) right.each (omega arith) few (omega (arith, few)) end

    -- items are read up to their last line
    pub counted_read : (xs : List A) (rest : List ℕ) → HaveLines format xs → format.is_counted ≡ true
        → format.most < 2 ^ 64
        → items_in n ending ((lines_of format xs ++ end_line (length xs)) ++ rest) ≡ Ok (xs, rest)
    counted_read xs rest right counted small =
        let few = right.few in
        rw (append_assoc (lines_of format xs) (end_line (length xs)) rest)
        (all_read xs (end_line (length xs) ++ rest) rest right
        (end_front format (n + length xs) (length xs) ending rest counted (omega (arith, few, small))))

    -- the first fault of the items is found
    pub fault_found : (fault : TextFault) (bytes : List ℕ) → ItemFault format n ending fault bytes
        → items_in n ending bytes ≡ Err fault
    fault_found fault bytes h =
        let few = h.right.few in
        rw h.front (items_read (λ k b. item_at_front format (n + k) k ending (front_of b)) format format.most (suc format.most) 0 (length h.items)
        h.items h.rest (Err fault) (λ k x more. back (n + k) k ending x more) h.right.each (omega arith) few (omega (arith, few)) h.next)

  -- ---- as many items as were counted

  -- the next of these items, or their end
  abbrev next_among : ℕ → ℕ → Ending → ℕ → List ℕ → Result (Option A × List ℕ) TextFault
  next_among many n ending k bytes =
      if nat_lt k many then (line_at_front format.read (n + k) ending (front_of bytes) >>= λ said. Ok (Some said.0, said.1)) else Ok (None, bytes)

  -- the items, as many as were counted, from line n on
  abbrev pub among_in : ℕ → ℕ → Ending → List ℕ → Result (List A × List ℕ) TextFault
  among_in many n ending bytes = items_from (next_among many n ending) (suc many) 0 bytes

  module _ (says : (item : A) → format.HasLine item → Says format.read (line_of format item) item) (n : ℕ)
      (ending : Ending) where
    next_read : (many k : ℕ) (x : A) (rest : List ℕ) → format.HasLine x → k < many
        → next_among many n ending k (line_of format x ++ rest) ≡ Ok (Some x, rest)
    next_read many k x rest has more =
        let here : nat_lt k many ≡ true = grind (arith, nat_tests, more) in rw (here, says x has (n + k) ending rest) refl

    -- the items are read
    pub among_read : (xs : List A) (r : List ℕ) → AllByRecursion format.HasLine xs
        → among_in (length xs) n ending (lines_of format xs ++ r) ≡ Ok (xs, r)
    among_read xs r all =
        let over : nat_lt (length xs) (length xs) ≡ false = grind (arith, nat_tests) in
        items_read (next_among (length xs) n ending) format (length xs) (suc (length xs)) 0 (length xs) xs r (Ok r) (next_read (length xs)) all
        (omega arith) (omega arith) (omega arith) (rw over refl)

    -- the first fault of the items is found
    pub among_found : (many : ℕ) (fault : TextFault) (bytes : List ℕ) → FaultAmong format many n ending fault bytes
        → among_in many n ending bytes ≡ Err fault
    among_found many fault bytes h =
        let fewer = h.fewer in
        let here : nat_lt (length h.items) many ≡ true = grind (arith, nat_tests, fewer) in
        rw h.front (items_read (next_among many n ending) format many (suc many) 0 (length h.items) h.items h.rest (Err fault) (next_read many)
        h.each (omega arith) (omega (arith, fewer)) (omega (arith, fewer)) (rw (here, h.next) refl))

-- ---- whole texts

-- the judgement of an input: a text that it begins with is read, if such bytes may follow, and a first fault is found
pub record IsJudged {T : Type 0} (HasIt : T → Type 0) (text : T → List ℕ) (MayFollow : Ending → List ℕ → Type 0)
    (IsFault : ℕ → Ending → List ℕ → TextFault → Type 0) (judge : ℕ → Ending → List ℕ → Result (T × List ℕ) TextFault) : Type 0 where
  pub read : (lines : ℕ) (ending : Ending) (t : T) (rest : List ℕ) → HasIt t → MayFollow ending rest
      → judge lines ending (text t ++ rest) ≡ Ok (t, rest)
  pub found : (lines : ℕ) (ending : Ending) (bytes : List ℕ) (fault : TextFault) → IsFault lines ending bytes fault
      → judge lines ending bytes ≡ Err fault

-- the input that is left begins with these bytes, and such bytes follow
abbrev pub Stands : (Ending → List ℕ → Type 0) → Left → List ℕ → Type 0
Stands MayFollow left text = (a : Ahead) → MayBeLeft left a → (rest : List ℕ) × (a.bytes ≡ text ++ rest) × MayFollow a.ending rest

-- anything may follow
abbrev pub Anything : Ending → List ℕ → Type 0
Anything ending rest = Unit {0}

pub stands : (old : Left) (text : List ℕ) → BeginsWith old text → Stands Anything old text
stands old text begins = λ a may. let here = begins a may in (here.0, here.1, tt)

module _ {T : Type 0} {HasIt : T → Type 0} {text : T → List ℕ} {MayFollow : Ending → List ℕ → Type 0}
    {IsFault : ℕ → Ending → List ℕ → TextFault → Type 0} {judge : ℕ → Ending → List ℕ → Result (T × List ℕ) TextFault}
    (judged : IsJudged HasIt text MayFollow IsFault judge) where
  -- texts that one input begins with are equal
  pub texts_agree : (ending : Ending) (s t : T) (q r : List ℕ) → HasIt s → HasIt t → MayFollow ending q
      → MayFollow ending r
      → text s ++ q ≡ text t ++ r → (s ≡ t) × (q ≡ r)
  texts_agree ending s t q r has_s has_t may_q may_r same =
      let both = sym (judged.read 0 ending s q has_s may_q) ∙ ap (judge 0 ending) same ∙ judged.read 0 ending t r has_t may_r in grind (arith, both)

  -- an input that begins with a text has no fault
  pub text_has_no_fault : (lines : ℕ) (ending : Ending) (t : T) (r : List ℕ) (fault : TextFault) → HasIt t
      → MayFollow ending r
      → IsFault lines ending (text t ++ r) fault → ⊥
  text_has_no_fault lines ending t r fault has may h = grind arith

  -- an input has only one first fault
  pub one_first_fault : (lines : ℕ) (ending : Ending) (bytes : List ℕ) (f g : TextFault) → IsFault lines ending bytes f
      → IsFault lines ending bytes g → f ≡ g
  one_first_fault lines ending bytes f g h k = grind arith

  -- a text that the input begins with is read, unless memory runs out
  pub reads_what_is_there : {V : Type 0} (LacksRoom : List ℕ → Type 0) (P : V → Type 0) (Told : V → T → Type 0)
      (lines : ℕ) (old new : Left)
      (r : Result V TextFault) → IfOk r P → IfErr r (HasFirstFault (IsFault lines) LacksRoom old)
      → ((v : V) → P v → (t : T) × HasIt t × Takes old new (text t) × ((b : Ahead) → MayBeLeft new b → MayFollow b.ending b.bytes) × Told v t)
      → (t : T) → HasIt t → Stands MayFollow old (text t) → MatchResult r (λ v. Told v t) (λ fault. fault ≡ Memory)
  reads_what_is_there L P Told lines old new (Ok v) ok err found t has there =
      let is = found v ok in
      let some = some_left new in
      let here = there (after (text is.0) some.0) (is.2.before some.0 some.1) in
      let same = texts_agree some.0.ending is.0 t some.0.bytes here.0 is.1 has (is.3 some.0 some.1) here.2 here.1 in
      subst (Told v) same.0 is.4
  reads_what_is_there L P Told lines old new (Err fault) ok err found t has there =
      let here = there err.input err.may in
      elim (is_memory fault) [
        | inl memory ↦ memory
        | inr other ↦
            let known = known_fault (L err.input.bytes) (IsFault lines err.input.ending err.input.bytes) fault other err.is_so in
            absurd (text_has_no_fault lines err.input.ending t here.0 fault has here.2 (rw here.1 at known))
      ]

-- ---- the next line, by what was taken and by its fields

-- a property of the front of the input
abbrev pub AtFront : Left → (Ending → Front → Type 0) → Type 0
AtFront old P = OfLeft old (λ a. P a.ending (front_of a.bytes))

over_by : (P : Ending → Front → Type 0) (end : Ending) (given : List ℕ) → IsPartOfLine given → P end Unfinished
    → P end Nothing → P end (front_of given)
over_by P end [] part some none = none
over_by P end (b ∷ given) part some none = subst (P end) (sym (front_unfinished (b ∷ given) part (omega arith))) some

-- a read failed
pub at_failure : (P : Ending → Front → Type 0) (old new : Left) (given : List ℕ) → Takes old new given
    → IsPartOfLine given
    → IsOver Failure new → P Failure Unfinished → P Failure Nothing → AtFront old P
at_failure P old new given taken part over some none =
    before_end old new Failure given (λ e b. P e (front_of b)) taken over (over_by P Failure given part some none)

-- the input ended after some bytes
pub at_cut : (P : Ending → Front → Type 0) (old new : Left) (given : List ℕ) → Takes old new given → IsPartOfLine given
    → IsOver EndOfInput new → 0 < length given → P EndOfInput Unfinished → AtFront old P
at_cut P old new given taken part over more holds =
    before_end old new EndOfInput given (λ e b. P e (front_of b)) taken over (subst (P EndOfInput) (sym (front_unfinished given part more)) holds)

-- the line was too long
pub at_long : (P : Ending → Front → Type 0) (old new : Left) (given : List ℕ) (b : ℕ) → Takes old new (given ++ b ∷ [])
    → IsPartOfLine given
    → length given ≡ longest_line → is_line_feed b ≡ false → ((e : Ending) → P e TooLong) → AtFront old P
at_long P old new given b taken part full other holds =
    before old new (given ++ b ∷ []) (λ e r. P e (front_of r)) taken (λ e more. grind (arith, front_too_long))

-- the line was whole
pub at_line : (P : Ending → Front → Type 0) (old new : Left) (bytes : List ℕ) → Takes old new (line bytes)
    → IsPartOfLine bytes
    → ((e : Ending) (rest : List ℕ) → P e (Whole bytes rest)) → AtFront old P
at_line P old new bytes taken part holds =
    before old new (line bytes) (λ e r. P e (front_of r)) taken (λ e more. subst (P e) (sym (whole bytes more part)) (holds e more))

-- if no line is whole, there is none
pub no_line : (long : TextFault) (old : Left) (fault : TextFault) → FaultAtFront (BrokenLineFault long) old fault
    → FaultAtFront (NoLineFault long) old fault
no_line long old fault h = let broken = h.is_so in record { input = h.input; may = h.may; is_so = grind (arith, broken) }

-- ---- items

-- a line with a fault is the line of the next item
pub items_faulty : {A : Type 0} (format : Format A) (n k : ℕ) (old new : Left) (bytes : List ℕ)
    (r : Result (Option A) TextFault)
    → Takes old new (line bytes) → IsPartOfLine bytes → r ≡ item_in format n k bytes
    → IfErr r (FaultAtFront (λ end fault front. item_at_front format n k end front ≡ Err fault) old)
items_faulty format n k old new bytes (Ok item) taken part e = tt
items_faulty format n k old new bytes (Err fault) taken part e =
    at_line (λ end front. item_at_front format n k end front ≡ Err fault) old new bytes taken part (λ end rest. rw (← e) refl)

-- ---- whole lines

-- a faulty next line has been counted
pub next_line_faulty : {A : Type 0} (read : ℕ → List (List ℕ) → Result A TextFault) (n m : ℕ) (old new : Left)
    (bytes : List ℕ)
    (r : Result A TextFault) → m ≡ n → Takes old new (line bytes) × IsPartOfLine bytes → r ≡ read m (fields_of bytes)
    → IfErr r (FaultAtFront (λ end fault front. line_at_front read n end front ≡ Err fault) old)
next_line_faulty read n m old new bytes (Ok said) same taken e = tt
next_line_faulty read n m old new bytes (Err fault) same taken e =
    at_line (λ end front. line_at_front read n end front ≡ Err fault) old new bytes taken.0 taken.1 (λ end rest. rw (← same, ← e) refl)

-- the line of an item is taken
pub required_taken : {A : Type 0} (format : Format A) (old new : Left) (bytes : List ℕ) (r : Result A TextFault)
    → Takes old new (line bytes)
    → IfOk r (IsSpelled format (fields_of bytes))
    → IfOk r (λ item. Takes old new (line_of format item) × format.HasLine item)
required_taken format old new bytes (Ok item) taken spelled =
    (subst (λ b. Takes old new (line b)) (sym (join_with_byte-slice_split 32 bytes) ∙ ap spaced spelled.text) taken, spelled.line)
required_taken format old new bytes (Err fault) taken spelled = tt

-- a fault of the input isn't out of memory
pub first_is : (IsFault : Ending → List ℕ → TextFault → Type 0) (LacksRoom : List ℕ → Type 0) (old : Left)
    (fault : TextFault)
    → IsOfInput fault → OfLeft old (λ a. IsFault a.ending a.bytes fault) → HasFirstFault IsFault LacksRoom old fault
first_is F L old Memory other h = absurd other
first_is F L old fault other h = h

-- a property of the input after a front, as one of the whole
pub moved : (P Q : Ahead → Type 0) (old mid : Left) (front : List ℕ) → Takes old mid front
    → ((a : Ahead) → P a → Q (after front a))
    → OfLeft mid P → OfLeft old Q
moved P Q old mid front taken step h = record { input = after front h.input; may = taken.before h.input h.may; is_so = step h.input h.is_so }

-- a fault of the line after a taken front, line m, is one of the whole input
pub line_fault : (P : ℕ → Ending → List ℕ → TextFault → Type 0) (Q : Ending → List ℕ → TextFault → Type 0)
    (LacksRoom : List ℕ → Type 0) (n m : ℕ)
    (old mid : Left) (front : List ℕ) (fault : TextFault) → m ≡ n → IsOfInput fault → Takes old mid front
    → ((e : Ending) (r : List ℕ) → P n e r fault → Q e (front ++ r) fault)
    → OfLeft mid (λ a. P m a.ending a.bytes fault) → HasFirstFault Q LacksRoom old fault
line_fault P Q L n m old mid front fault same of_input taken step h = first_is Q L old fault of_input
    (moved (λ a. P m a.ending a.bytes fault) (λ a. Q a.ending a.bytes fault) old mid front taken (λ a. rw same (step a.ending a.bytes)) h)

-- a first fault of what follows a taken front, from line m on, is the first of the whole input
pub later_fault : (P : ℕ → Ending → List ℕ → TextFault → Type 0) (Q : Ending → List ℕ → TextFault → Type 0)
    (L M : List ℕ → Type 0) (n m : ℕ)
    (old mid : Left) (front : List ℕ) (fault : TextFault) → m ≡ n → Takes old mid front
    → ((e : Ending) (r : List ℕ) (f : TextFault) → P n e r f → Q e (front ++ r) f) → ((r : List ℕ) → L r → M (front ++ r))
    → HasFirstFault (P m) L mid fault → HasFirstFault Q M old fault
later_fault P Q L M n m old mid front fault same taken step room h =
    moved (λ a. MemoryOr (L a.bytes) (P m a.ending a.bytes) fault) (λ a. MemoryOr (M a.bytes) (Q a.ending a.bytes) fault) old mid front taken
    (λ a. follows (L a.bytes) (M (front ++ a.bytes)) (P m a.ending a.bytes) (Q a.ending (front ++ a.bytes)) fault (room a.bytes)
    (λ f. rw same (step a.ending a.bytes f))) h

-- the fault of the line after some items, line m, is the first of their lines
pub item_fault : {A : Type 0} (format : Format A) (items : List A) (n m k : ℕ) (old mid : Left) (fault : TextFault)
    → HaveLines format items
    → k ≡ length items → m ≡ n + k → IsOfInput fault → Takes old mid (lines_of format items)
    → FaultAtFront (λ end f front. item_at_front format m k end front ≡ Err f) mid fault
    → HasItemsFault format n old fault
item_fault format items n m k old mid fault right count same of_input taken h =
    line_fault (λ j e r f. item_at_front format j k e (front_of r) ≡ Err f) (λ e b f. ItemFault format n e f b) (NoRoom format) (n + k) m old mid
    (lines_of format items) fault same of_input taken
    (λ e r next. record {
      items = items;
      rest = r;
      right = right;
      front = refl;
      next = subst (λ (j : ℕ). item_at_front format (n + j) j e (front_of r) ≡ Err fault) count next;
    }) h

-- the fault of the line after fewer items than were counted is the first of their lines
pub among_fault : {A : Type 0} (format : Format A) (many : ℕ) (items : List A) (n m : ℕ) (old mid : Left)
    (fault : TextFault)
    → AllByRecursion format.HasLine items → length items < many → m ≡ n + length items → IsOfInput fault → Takes old mid (lines_of format items)
    → FaultAtFront (λ end f front. line_at_front format.read m end front ≡ Err f) mid fault → HasFaultAmong format many n old fault
among_fault format many items n m old mid fault each fewer same of_input taken h =
    line_fault (λ j e r f. LineFault format.read j e f r) (λ e b f. FaultAmong format many n e f b) (NoRoomAmong format many) (n + length items) m
    old mid (lines_of format items) fault same of_input taken
    (λ e r next. record { items = items; rest = r; fewer = fewer; each = each; front = refl; next = next }) h

-- ---- one more item

-- one more item, if there is room for it
pub HaveLines-push : {A : Type 0} (format : Format A) (items : List A) (x : A) → HaveLines format items
    → format.HasLine x → length items < format.most
    → HaveLines format (items ++ x ∷ [])
HaveLines-push format items x right last few =
    grind (arith, nat_tests, common_steps, recursion_from_All, All-push, All-from_recursion, length-append)

-- the lines of the items so far and of one more are taken
pub takes_item : {A : Type 0} (format : Format A) (items : List A) (x : A) (old mid new : Left)
    → Takes old mid (lines_of format items)
    → Takes mid new (line_of format x) → Takes old new (lines_of format (items ++ x ∷ []))
takes_item format items x old mid new h k =
    rw (flat_map-append (line_of format) items (x ∷ []), append-nil (line_of format x)) (Takes-append old mid new _ _ h k)

-- one more item than there is room for, among those that were counted
pub no_room_among : {A : Type 0} (format : Format A) (k : ℕ) (items : List A) (x : A) (old mid new : Left)
    → HaveLines format items
    → Takes old mid (lines_of format items) → length items < k → k ≤ format.most → format.HasLine x
    → Takes mid new (line_of format x)
    → OfLeft old (λ a. NoRoomAmong format k a.bytes)
no_room_among format k items x old mid new right taken fewer most has now =
    let some = some_left new in
    let all = takes_item format items x old mid new taken now in record {
      input = after (lines_of format (items ++ x ∷ [])) some.0;
      may = all.before some.0 some.1;
      is_so = record {
        room = record {
          items = items;
          last = x;
          rest = some.0.bytes;
          right = HaveLines-push format items x right has (omega (arith, fewer, most));
          front = refl;
        };
        fewer = fewer;
      };
    }

-- one more item than there may be
pub no_room : {A : Type 0} (format : Format A) (items : List A) (x : A) (old mid new : Left) → HaveLines format items
    → Takes old mid (lines_of format items) → length items < format.most → format.HasLine x
    → Takes mid new (line_of format x)
    → OfLeft old (λ a. NoRoom format a.bytes)
no_room format items x old mid new right taken few range now =
    let lacks = no_room_among format format.most items x old mid new right taken few (omega arith) range now in
    record { input = lacks.input; may = lacks.may; is_so = lacks.is_so.room }

-- ---- results

-- a fault passed on by `?` is the result
pub carries : {T E : Type 0} (r : Result T E) (fault : E) → IsErrAnd r (λ y. y ≡ fault) → r ≡ Err fault
carries (Ok x) fault is = absurd is
carries (Err y) fault is = cc

-- ---- histories of either version: the first line

-- another line is the first of no version
pub other_version : (old new : Left) (bytes : List ℕ) → Takes old new (line bytes) → IsPartOfLine bytes
    → ((version : Version) → bytes ≡ header_of version → ⊥) → FaultAtFront NoVersionFault old Header
other_version old new bytes taken part other =
    let differ : (version : Version) → bytes_eq bytes (header_of version) ≡ false =
    λ version. false_from_ne_true _ (λ same. other version (text_is bytes (header_of version) same)) in
    at_line (λ end front. NoVersionFault end Header front) old new bytes taken part (λ end rest version. rw (differ version) refl)

-- ---- histories of either version: the events

-- the fault of a line after those before the events is the first of the text
pub event_is_first : (version : Version) (initial : List ℕ) (lines n : ℕ) (old mid : Left) (fault : TextFault)
    → n ≡ lines + count_before_events version initial + 1 → HaveValueLines version initial
    → Takes old mid (lines_before_events version initial)
    → HasItemsFault event_format n mid fault → HasTextFault lines old fault
event_is_first One initial lines n old mid fault n_is right taken h =
    later_fault (λ m e r f. ItemFault event_format m e f r) (IsTextFault lines) (NoRoom event_format) NoRoomForText (lines + 2) n old mid
    (line (header_of One)) fault (omega (arith, n_is)) taken (λ e r f k. inr (One, (r, refl, k))) (λ r k. (One, (r, refl, k))) h
event_is_first Two initial lines n old mid fault n_is right taken h =
    let whole = λ (r : List ℕ). append_assoc (line (header_of Two)) (lines_of_initial initial) r in
    later_fault (λ m e r f. ItemFault event_format m e f r) (IsTextFault lines) (NoRoom event_format) NoRoomForText (lines + 2 + 1 + length initial) n
    old mid (lines_before_events Two initial) fault (omega (arith, n_is)) taken
    (λ e r f k. inr (Two, (lines_of_initial initial ++ r, whole r, inr (initial, right, (r, refl, k)))))
    (λ r k. (Two, (lines_of_initial initial ++ r, whole r, inr (initial, right, (r, refl, k))))) h
