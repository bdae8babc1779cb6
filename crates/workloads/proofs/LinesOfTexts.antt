-- The lines of plans' texts: one more byte of them, and that a text is parsed in only one way.
use Rattle.std.proofs.Common.{◌≡◌, ◌≢◌, ◌⊎◌, inl, inr, ℕ, ◌+◌, ◌<◌, ◌≤◌, true, false, cond}
use Rattle.std.proofs.Common.{List, [], ◌∷◌, ◌++◌, length, map, take, drop, get_or, All}
use Rattle.std.proofs.Common.{sum_by, count_by, eqb, refl, sym, ap, ◌∙◌, subst, append_assoc, length-append, arith}
use Rattle.std.specs.List.{slice_split, list_all}
use Rattle.std.proofs.lemmas.Bool.{and_parts, and_from, leb-true, le-leb}
use Rattle.std.proofs.lemmas.List.{append-nil, map_push, length-map, take_all, take_more, take-append-drop, drop_more, same_from_push}
use Rattle.std.proofs.lemmas.List.Concat.{flat_map-append}
use Rattle.std.proofs.lemmas.List.Elements.{All-nil, All-append, All-cons, All-get_or, All-head, All-tail}
use Rattle.std.proofs.lemmas.List.Splits.{slice_split_none, slice_split_at, length-slice_split}
use Rattle.std.proofs.lemmas.List.Sums.{sum_by-cons}
use Rattle.event_records.specs.declared.kind.Kind.{Kind}
use Rattle.event_records.specs.declared.kind.Kind.TheVariants.{Enq, Deq}
use Rattle.workloads.specs.declared.texts.TheConstants.{ENQUEUE, LINE_FEED}
use Rattle.event_records.specs.declared.limits.TheConstants.{MAX_THREAD_OPERATIONS}
use Rattle.workloads.specs.Plans.{AreShort}
use Rattle.workloads.specs.Texts.{letter, line_of, text_of, IsCut, HasLines, HasStray}
use Rattle.workloads.specs.Inner.Texts.{ends_line, is_short_line}

-- letters don't end a line
letter_goes_on : (kind : Kind) → ends_line (letter kind) ≡ false
letter_goes_on Enq = refl
letter_goes_on Deq = refl

letter_is_no_end : (kind : Kind) → letter kind ≢ LINE_FEED
letter_is_no_end Enq = λ same. absurd (omega arith)
letter_is_no_end Deq = λ same. absurd (omega arith)

letters_go_on : (kinds : List Kind) → All (λ byte. ends_line byte ≡ false) (map letter kinds)
letters_go_on [] = All-nil (λ byte. ends_line byte ≡ false)
letters_go_on (kind ∷ kinds) = All-cons (λ byte. ends_line byte ≡ false) (letter kind) (map letter kinds) (letter_goes_on kind) (letters_go_on kinds)

-- the text with one more row
pub text_of-push : (rows : List (List Kind)) (row : List Kind) → text_of (rows ++ row ∷ []) ≡ text_of rows ++ line_of row
text_of-push rows row = flat_map-append line_of rows (row ∷ []) ∙ ap (λ (l : List ℕ). text_of rows ++ l) (append-nil (line_of row))

-- a line, and the bytes after it
line_first : (row : List Kind) (rest : List ℕ) → line_of row ++ rest ≡ map letter row ++ LINE_FEED ∷ rest
line_first row rest = append_assoc (map letter row) (LINE_FEED ∷ []) rest

-- the parts between the line ends are the letters of the rows, and those of an unfinished row
pub parts_of_lines : (rows : List (List Kind)) (kinds : List Kind)
    → slice_split ends_line (text_of rows ++ map letter kinds) ≡ map (map letter) (rows ++ kinds ∷ [])
parts_of_lines [] kinds = slice_split_none ends_line (map letter kinds) (letters_go_on kinds)
parts_of_lines (row ∷ rows) kinds =
    ap (slice_split ends_line) (append_assoc (line_of row) (text_of rows) (map letter kinds) ∙ line_first row (text_of rows ++ map letter kinds))
    ∙ slice_split_at ends_line (map letter row) LINE_FEED (text_of rows ++ map letter kinds) (letters_go_on row) refl
    ∙ ap (λ (l : List (List ℕ)). map letter row ∷ l) (parts_of_lines rows kinds)

-- the kind of a letter
kind_of_letter : ℕ → Kind
kind_of_letter byte = cond (eqb byte ENQUEUE) Enq Deq

kinds_back : (kinds : List Kind) → map kind_of_letter (map letter kinds) ≡ kinds
unfolding kind_of_letter
kinds_back [] = refl
kinds_back (Enq ∷ kinds) = ap (λ (l : List Kind). Enq ∷ l) (kinds_back kinds)
kinds_back (Deq ∷ kinds) = ap (λ (l : List Kind). Deq ∷ l) (kinds_back kinds)

rows_back : (rows : List (List Kind)) → map (map kind_of_letter) (map (map letter) rows) ≡ rows
rows_back [] = refl
rows_back (row ∷ rows) = ap (λ (l : List Kind). l ∷ map (map kind_of_letter) (map (map letter) rows)) (kinds_back row)
    ∙ ap (λ (l : List (List Kind)). row ∷ l) (rows_back rows)

-- bytes are lines and letters of one more in only one way
pub reads_once : (rows more : List (List Kind)) (kinds others : List Kind) → text_of rows ++ map letter kinds ≡ text_of more ++ map letter others
    → (rows ≡ more) × (kinds ≡ others)
reads_once rows more kinds others same =
    let parts = sym (parts_of_lines rows kinds) ∙ ap (slice_split ends_line) same ∙ parts_of_lines more others in
    let back = sym (rows_back (rows ++ kinds ∷ [])) ∙ ap (map (map kind_of_letter)) parts ∙ rows_back (more ++ others ∷ []) in
    same_from_push rows more kinds others back

-- no bytes are no lines
pub lines_none : HasLines [] 0
lines_none = record { rows = []; kinds = []; bytes_are = refl; count = refl }

-- one more letter
pub letters_more : (bytes : List ℕ) (rows : List (List Kind)) (kinds : List Kind) (kind : Kind) → bytes ≡ text_of rows ++ map letter kinds
    → bytes ++ letter kind ∷ [] ≡ text_of rows ++ map letter (kinds ++ kind ∷ [])
letters_more bytes rows kinds kind is =
    ap (λ (l : List ℕ). l ++ letter kind ∷ []) is
    ∙ append_assoc (text_of rows) (map letter kinds) (letter kind ∷ [])
    ∙ ap (λ (l : List ℕ). text_of rows ++ l) (sym (map_push letter kinds kind))

-- the end of a line
pub lines_more : (bytes : List ℕ) (rows : List (List Kind)) (kinds : List Kind) → bytes ≡ text_of rows ++ map letter kinds
    → bytes ++ LINE_FEED ∷ [] ≡ text_of (rows ++ kinds ∷ []) ++ map letter []
lines_more bytes rows kinds is =
    ap (λ (l : List ℕ). l ++ LINE_FEED ∷ []) is
    ∙ append_assoc (text_of rows) (map letter kinds) (LINE_FEED ∷ [])
    ∙ sym (text_of-push rows kinds)
    ∙ sym (append-nil (text_of (rows ++ kinds ∷ [])))

-- a letter stays in its line
pub has_letter : (bytes : List ℕ) (workers : ℕ) (kind : Kind) → HasLines bytes workers → HasLines (bytes ++ letter kind ∷ []) workers
has_letter bytes workers kind has = record {
  rows = has.rows;
  kinds = has.kinds ++ kind ∷ [];
  bytes_are = letters_more bytes has.rows has.kinds kind has.bytes_are;
  count = has.count;
}

-- a line feed ends a line
pub has_end : (bytes : List ℕ) (workers : ℕ) → HasLines bytes workers → HasLines (bytes ++ LINE_FEED ∷ []) (workers + 1)
has_end bytes workers has = record {
  rows = has.rows ++ has.kinds ∷ [];
  kinds = [];
  bytes_are = lines_more bytes has.rows has.kinds has.bytes_are;
  count = let size = length-append has.rows (has.kinds ∷ []) in let count = has.count in omega (arith, size, count);
}

-- the length of a line
length-line_of : (row : List Kind) → length (line_of row) ≡ length row + 1
length-line_of row = length-append (map letter row) (LINE_FEED ∷ []) ∙ ap (λ (n : ℕ). n + 1) (length-map row letter)

-- a text has a byte for each operation, and one for each worker
length-text_of : (rows : List (List Kind)) → length (text_of rows) ≡ sum_by length rows + length rows
length-text_of [] = refl
length-text_of (row ∷ rows) = omega (arith, length-append (line_of row) (text_of rows), length-line_of row, length-text_of rows, sum_by-cons length row rows)

-- the parts between the line ends of a whole text
parts-text_of : (rows : List (List Kind)) → slice_split ends_line (text_of rows) ≡ map (map letter) (rows ++ [] ∷ [])
parts-text_of rows = ap (slice_split ends_line) (sym (append-nil (text_of rows))) ∙ parts_of_lines rows []

-- there are as many line ends as workers
count-text_of : (rows : List (List Kind)) → count_by ends_line (text_of rows) ≡ length rows
count-text_of rows = omega (
  arith,
  length-slice_split ends_line (text_of rows),
  ap length (parts-text_of rows),
  length-map (rows ++ [] ∷ [])
      (map letter),
  length-append rows ([] ∷ []),
)

-- the lines are short if the rows are
short_from_lines : (rows : List (List Kind)) → list_all is_short_line (map (map letter) (rows ++ [] ∷ [])) ≡ true → AreShort rows
short_from_lines [] test = All-nil (λ (row : List Kind). length row ≤ MAX_THREAD_OPERATIONS)
short_from_lines (row ∷ rows) test =
    let both = and_parts (is_short_line (map letter row)) (list_all is_short_line (map (map letter) (rows ++ [] ∷ []))) test in
    let here = leb-true (length (map letter row)) MAX_THREAD_OPERATIONS both.0 in
    let short : length row ≤ MAX_THREAD_OPERATIONS = omega (arith, length-map row letter, here) in
    All-cons (λ (r : List Kind). length r ≤ MAX_THREAD_OPERATIONS) row rows short (short_from_lines rows both.1)

lines_from_short : (rows : List (List Kind)) → AreShort rows → list_all is_short_line (map (map letter) (rows ++ [] ∷ [])) ≡ true
lines_from_short [] short = refl
lines_from_short (row ∷ rows) short =
    let here = All-head (λ (r : List Kind). length r ≤ MAX_THREAD_OPERATIONS) row rows short in
    let line : length (map letter row) ≤ MAX_THREAD_OPERATIONS = omega (arith, length-map row letter, here) in
    let rest = lines_from_short rows (All-tail (λ (r : List Kind). length r ≤ MAX_THREAD_OPERATIONS) row rows short) in
    and_from (is_short_line (map letter row)) (list_all is_short_line (map (map letter) (rows ++ [] ∷ [])))
    (le-leb (length (map letter row)) MAX_THREAD_OPERATIONS line) rest

-- facts about the rows of a text, from its bytes
pub record AreRowsOf (text : List ℕ) (rows : List (List Kind)) : Type 0 where
  pub workers : count_by ends_line text ≡ length rows
  pub operations : sum_by length rows + length rows ≡ length text
  pub short : list_all is_short_line (slice_split ends_line text) ≡ true → AreShort rows
  pub lines : AreShort rows → list_all is_short_line (slice_split ends_line text) ≡ true

-- the text of rows determines them
pub rows_of_text : (text : List ℕ) (rows : List (List Kind)) → text ≡ text_of rows → AreRowsOf text rows
rows_of_text text rows is = subst (λ (t : List ℕ). AreRowsOf t rows) (sym is) (record {
  workers = count-text_of rows;
  operations = sym (length-text_of rows);
  short = λ test. short_from_lines rows (sym (ap (list_all is_short_line) (parts-text_of rows)) ∙ test);
  lines = λ short. ap (list_all is_short_line) (parts-text_of rows) ∙ lines_from_short rows short;
})

-- the bytes up to a letter at place i, and that letter
pub lines_at_letter : (text : List ℕ) (i workers : ℕ) (kind : Kind) → i < length text → get_or text i 0 ≡ letter kind → HasLines (take i text) workers
    → HasLines (take (i + 1) text) workers
lines_at_letter text i workers kind within is lines =
    subst (λ (bytes : List ℕ). HasLines bytes workers) (ap (λ (byte : ℕ). take i text ++ byte ∷ []) (sym is) ∙ sym (take_more text i 0 within))
    (has_letter (take i text) workers kind lines)

-- the bytes up to a line end at place i, and that line end
pub lines_at_end : (text : List ℕ) (i workers : ℕ) → i < length text → get_or text i 0 ≡ LINE_FEED → HasLines (take i text) workers
    → HasLines (take (i + 1) text) (workers + 1)
lines_at_end text i workers within is lines =
    subst (λ (bytes : List ℕ). HasLines bytes (workers + 1)) (ap (λ (byte : ℕ). take i text ++ byte ∷ []) (sym is) ∙ sym (take_more text i 0 within))
    (has_end (take i text) workers lines)

-- any other byte at place i
pub stray_at : (text : List ℕ) (i workers : ℕ) → i < length text → HasLines (take i text) workers → ((kind : Kind) → get_or text i 0 ≢ letter kind)
    → get_or text i 0 ≢ LINE_FEED → HasStray text workers
stray_at text i workers within lines no_letter no_end = record {
  before = take i text;
  stray = get_or text i 0;
  after = drop (i + 1) text;
  text_is = sym (take-append-drop i text) ∙ ap (λ (l : List ℕ). take i text ++ l) (drop_more text i 0 within);
  lines = lines;
  no_letter = no_letter;
  no_end = no_end;
}

-- a list that is not empty has a last element
pub last_of : {A : Type 0} (first : A) (rest : List A) → (front : List A) × (last : A) × (first ∷ rest ≡ front ++ last ∷ [])
last_of first [] = ([], first, refl)
last_of {A} first (next ∷ rest) =
    let last = last_of next rest in
    (first ∷ last.0, last.1, ap (λ (l : List A). first ∷ l) last.2)

-- lines that aren't cut are whole
pub whole_lines : (text : List ℕ) (workers : ℕ) → HasLines text workers → ¬ IsCut text → (rows : List (List Kind)) × (text ≡ text_of rows)
whole_lines text workers lines whole = from_kinds lines.kinds lines.bytes_are
  where
    from_kinds : (kinds : List Kind) → text ≡ text_of lines.rows ++ map letter kinds → (rows : List (List Kind)) × (text ≡ text_of rows)
    from_kinds [] is = (lines.rows, is ∙ append-nil (text_of lines.rows))
    from_kinds (kind ∷ kinds) is =
        let last = last_of kind kinds in
        absurd (whole (record {
          front = text_of lines.rows ++ map letter last.0;
          last = letter last.1;
          text_is = is ∙ ap (λ (l : List Kind). text_of lines.rows ++ map letter l) last.2
              ∙ sym (letters_more (text_of lines.rows ++ map letter last.0) lines.rows last.0 last.1 refl);
          no_end = letter_is_no_end last.1;
        }))

-- a text is that of only one list of rows
pub read_once : (rows more : List (List Kind)) → text_of rows ≡ text_of more → rows ≡ more
read_once rows more same = (reads_once rows more [] [] (append-nil (text_of rows) ∙ same ∙ sym (append-nil (text_of more)))).0

-- all bytes read are whole lines
pub read_whole : (text : List ℕ) (planned rows : List (List Kind)) (kinds : List Kind) (i : ℕ) → text ≡ text_of planned → length text ≤ i
    → take i text ≡ text_of rows ++ map letter kinds → text ≡ text_of rows
read_whole text planned rows kinds i is all read =
    let same = (reads_once planned rows [] kinds (append-nil (text_of planned) ∙ sym is ∙ sym (take_all i text all) ∙ read)).0 in
    is ∙ ap text_of same

-- a line end, or a letter
abbrev pub IsOfText : ℕ → Type 0
IsOfText byte = (byte ≡ LINE_FEED) ⊎ ((kind : Kind) × (byte ≡ letter kind))

letters_are_of_text : (kinds : List Kind) (rest : List ℕ) → All IsOfText rest → All IsOfText (map letter kinds ++ rest)
letters_are_of_text [] rest all = all
letters_are_of_text (kind ∷ kinds) rest all = All-cons IsOfText (letter kind) (map letter kinds ++ rest) (inr (kind, refl)) (letters_are_of_text kinds rest all)

-- the text of rows has only such bytes
pub bytes_are_of_text : (rows : List (List Kind)) → All IsOfText (text_of rows)
bytes_are_of_text [] = All-nil IsOfText
bytes_are_of_text (row ∷ rows) =
    subst (λ (l : List ℕ). All IsOfText l) (sym (line_first row (text_of rows)))
    (letters_are_of_text row (LINE_FEED ∷ text_of rows) (All-cons IsOfText LINE_FEED (text_of rows) (inl refl) (bytes_are_of_text rows)))

-- lines have only such bytes
pub lines_are_of_text : (bytes : List ℕ) (workers : ℕ) → HasLines bytes workers → All IsOfText bytes
lines_are_of_text bytes workers lines =
    let whole = bytes_are_of_text lines.rows in
    let letters = subst (λ (l : List ℕ). All IsOfText l) (append-nil (map letter lines.kinds)) (letters_are_of_text lines.kinds [] (All-nil IsOfText)) in
    subst (λ (l : List ℕ). All IsOfText l) (sym lines.bytes_are) (All-append IsOfText (text_of lines.rows) (map letter lines.kinds) whole letters)

-- a byte of a text that is no letter ends a line
pub end_of_line : (text : List ℕ) (rows : List (List Kind)) (i : ℕ) → text ≡ text_of rows → i < length text
    → ((kind : Kind) → get_or text i 0 ≢ letter kind) → get_or text i 0 ≡ LINE_FEED
end_of_line text rows i is within no_letter =
    let all = subst (λ (l : List ℕ). All IsOfText l) (sym is) (bytes_are_of_text rows) in
    elim (All-get_or IsOfText text i 0 within all) [
      | inl end ↦ end
      | inr other ↦ absurd (no_letter other.0 other.1)
    ]

-- one more letter is parsed
pub reads_letter : (text : List ℕ) (i : ℕ) (rows : List (List Kind)) (kinds : List Kind) (kind : Kind) → i < length text
    → get_or text i 0 ≡ letter kind → take i text ≡ text_of rows ++ map letter kinds → take (i + 1) text ≡ text_of rows ++ map letter (kinds ++ kind ∷ [])
reads_letter text i rows kinds kind within is read = take_more text i 0 within ∙ ap (λ (byte : ℕ). take i text ++ byte ∷ []) is
    ∙ letters_more (take i text) rows kinds kind read

-- the end of a line is parsed
pub reads_end : (text : List ℕ) (i : ℕ) (rows : List (List Kind)) (kinds : List Kind) → i < length text → get_or text i 0 ≡ LINE_FEED
    → take i text ≡ text_of rows ++ map letter kinds → take (i + 1) text ≡ text_of (rows ++ kinds ∷ []) ++ map letter []
reads_end text i rows kinds within is read = take_more text i 0 within ∙ ap (λ (byte : ℕ). take i text ++ byte ∷ []) is
    ∙ lines_more (take i text) rows kinds read
