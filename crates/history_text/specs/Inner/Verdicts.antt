-- Lines at the places of a verdict.
use Rattle.std.specs.Prelude.{ℕ, List, codes}
use Rattle.std.specs.List.{flat_map}
use Rattle.std.specs.Option.{option_to_list}
use Rattle.history_merge.specs.declared.operation.Operation.{Operation}
use Rattle.history_merge.specs.declared.operation.OpKind.{OpKind}
use Rattle.history_merge.specs.declared.operation.OpKind.TheVariants.{Enqueue, Dequeue}
use Rattle.claims.specs.declared.shown.LinePlace.{LinePlace}
use Rattle.claims.specs.Claiming.{line_at}
use Rattle.history_text.specs.Verdicts.{claim_line}

-- the line at this place, if there is one
abbrev pub line_text : List ℕ → List Operation → LinePlace → List ℕ
line_text initial operations place = flat_map claim_line (option_to_list (line_at initial operations place))

-- the lines at these places
abbrev pub lines_text : List ℕ → List Operation → List LinePlace → List ℕ
lines_text initial operations places = flat_map (line_text initial operations) places

-- the word of an operation with a value, and a space
abbrev pub word_of : OpKind → List ℕ
word_of (Enqueue v) = codes "enq "
word_of (Dequeue v) = codes "deq "
word_of _ = codes "not "
