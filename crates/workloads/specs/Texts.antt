-- The text of a plan: one line for each worker, with one letter for each of its operations.
use Rattle.std.specs.Prelude.{◌≡◌, ◌≢◌, ℕ, List, [], ◌∷◌, ◌++◌, length, map, flat_map}
use Rattle.event_records.specs.declared.kind.Kind.{Kind}
use Rattle.event_records.specs.declared.kind.Kind.TheVariants.{Enq, Deq}
use Rattle.workloads.specs.declared.texts.PlanFault.{PlanFault}
use Rattle.workloads.specs.declared.texts.PlanFault.TheVariants.{Cut, Letter, Limit, Memory}
use Rattle.workloads.specs.declared.texts.TheConstants.{ENQUEUE, DEQUEUE, LINE_FEED}
use Rattle.workloads.specs.Plans.{IsPlan}

-- the letter of an operation
abbrev pub letter : Kind → ℕ
letter Enq = ENQUEUE
letter Deq = DEQUEUE

-- the line of one worker
abbrev pub line_of : List Kind → List ℕ
line_of row = map letter row ++ LINE_FEED ∷ []

-- the lines of all workers, one after another
abbrev pub text_of : List (List Kind) → List ℕ
text_of rows = flat_map line_of rows

-- the last byte of the text doesn't end a line
pub record IsCut (text : List ℕ) : Type 0 where
  pub front : List ℕ
  pub last : ℕ
  pub text_is : text ≡ front ++ last ∷ []
  pub no_end : last ≢ LINE_FEED

-- the bytes are the lines of this many workers, and then letters of one more
pub record HasLines (bytes : List ℕ) (workers : ℕ) : Type 0 where
  pub rows : List (List Kind)
  pub kinds : List Kind
  pub bytes_are : bytes ≡ text_of rows ++ map letter kinds
  pub count : length rows ≡ workers

-- the first byte that is neither a letter nor the end of a line is in the line of this worker
pub record HasStray (text : List ℕ) (worker : ℕ) : Type 0 where
  pub before : List ℕ
  pub stray : ℕ
  pub after : List ℕ
  pub text_is : text ≡ before ++ stray ∷ after
  pub lines : HasLines before worker
  pub no_letter : (kind : Kind) → stray ≢ letter kind
  pub no_end : stray ≢ LINE_FEED

-- the text is that of the rows of a plan
pub record IsPlanText (text : List ℕ) : Type 0 where
  pub rows : List (List Kind)
  pub text_is : text ≡ text_of rows
  pub within : IsPlan rows

-- the text is that of rows beyond the limits of a plan
pub record IsBeyondLimits (text : List ℕ) : Type 0 where
  pub rows : List (List Kind)
  pub text_is : text ≡ text_of rows
  pub beyond : ¬ IsPlan rows

-- the meaning of each fault; a text has only one of them
abbrev pub IsFaultOf : List ℕ → PlanFault → Type 0
IsFaultOf text Cut = IsCut text
IsFaultOf text (Letter worker) = (¬ IsCut text) × HasStray text worker
IsFaultOf text Limit = IsBeyondLimits text
IsFaultOf text Memory = IsPlanText text
