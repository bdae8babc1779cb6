-- Names of values: a recorder gives value n of thread t the name t * 2^32 + n, and initial values the names of a
-- thread 64.
use Rattle.std.specs.Prelude.{ℕ, ◌/◌, ◌%◌, ◌==◌, nat_lt, if◌then◌else◌, List, ◌++◌, codes, decimal}
use Rattle.event_records.specs.declared.limits.TheConstants.{MAX_THREADS, NAMES_OF_A_THREAD}
use Rattle.drawing.specs.declared.names.Name.{Name}
use Rattle.drawing.specs.declared.names.Name.TheVariants.{OfThread, OfInitial, Plain}

-- a name by its owner: a thread from 1 on, the initial values, or none; values of thread 0 are short without a name
abbrev pub name_by : ℕ → ℕ → ℕ → Name
name_by owner number v =
    if owner == 0 then Plain v else
    (if nat_lt owner MAX_THREADS then OfThread owner number else
    (if owner == MAX_THREADS then OfInitial number else Plain v))

-- the name of a value
abbrev pub name_of : ℕ → Name
name_of v = name_by (v / NAMES_OF_A_THREAD) (v % NAMES_OF_A_THREAD) v

-- a name as it is drawn: `6:11`, `init:3`, or all digits
abbrev pub name_text : Name → List ℕ
name_text (OfThread thread number) = decimal thread ++ (codes ":" ++ decimal number)
name_text (OfInitial number) = codes "init:" ++ decimal number
name_text (Plain v) = decimal v

-- a value as it is drawn
abbrev pub value_text : ℕ → List ℕ
value_text v = name_text (name_of v)

-- the name of an initial value as it is drawn
abbrev pub initial_text : Name → List ℕ
initial_text (OfInitial number) = name_text (OfInitial number)
initial_text name = codes "init " ++ name_text name
