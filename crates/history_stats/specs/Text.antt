-- The text of statistics: a line for each number, a name and its value.
use Rattle.std.specs.Option.{option_map_or}
use Rattle.std.specs.List.{flat_map}
use Rattle.std.specs.Prelude.{ℕ, ◌/◌, ◌%◌, List, [], ◌∷◌, ◌++◌, codes, decimal}
use Rattle.text_lines.specs.Lines.{line, spaced}
use Rattle.history_stats.specs.declared.overtaking.Overtaking.{Overtaking}
use Rattle.history_stats.specs.declared.statistics.Statistics.{Statistics}

-- the line of a name and its value
abbrev pub statistic_line : List ℕ → List ℕ → List ℕ
statistic_line name value = line (spaced (name ∷ value ∷ []))

-- tenths, with one digit after the point
abbrev pub decimal_of_tenths : ℕ → List ℕ
decimal_of_tenths tenths = decimal (tenths / 10) ++ codes "." ++ decimal (tenths % 10)

-- the lines of all numbers, in this order; the last one only if an enqueue failed
abbrev pub statistics_text : Statistics → List ℕ
statistics_text s = statistic_line (codes "events") (decimal s.events)
    ++ statistic_line (codes "operations") (decimal s.operations)
    ++ statistic_line (codes "threads") (decimal s.threads)
    ++ statistic_line (codes "enqueued") (decimal s.enqueued)
    ++ statistic_line (codes "refused") (decimal s.refused)
    ++ statistic_line (codes "dequeued") (decimal s.dequeued)
    ++ statistic_line (codes "empty") (decimal s.empty)
    ++ statistic_line (codes "initial") (decimal s.initial)
    ++ statistic_line (codes "thread-changes") (decimal s.thread_changes)
    ++ statistic_line (codes "overlapping") (decimal s.overlapping)
    ++ statistic_line (codes "overlapping-percent") (decimal_of_tenths s.overlapping_tenths)
    ++ statistic_line (codes "most-pending") (decimal s.most_pending)
    ++ statistic_line (codes "most-in-queue") (decimal s.most_queued)
    ++ statistic_line (codes "overtakes") (decimal s.overtakes)
    ++ statistic_line (codes "overtaken-at-most") (decimal s.overtaken_at_most)
    ++ option_map_or (λ least. statistic_line (codes "refused-at") (decimal least)) s.refused_at []

-- the line of an overtaking: the number of values, the ticket of the dequeue's call, its value
abbrev pub overtaking_line : Overtaking → List ℕ
overtaking_line o = line (spaced (decimal o.count ∷ decimal o.ticket ∷ decimal o.value ∷ []))

-- a line for each overtaking
abbrev pub overtakings_text : List Overtaking → List ℕ
overtakings_text overtakings = flat_map overtaking_line overtakings
