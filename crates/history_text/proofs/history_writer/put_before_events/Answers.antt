use Rattle.history_text.proofs.Common.{[], append_assoc, codes, count_fields, decimal, length, line, List, puts_after}
use Rattle.history_text.proofs.Common.{spaced, ℕ, ◌++◌, ◌∷◌, ◌≡◌}
use Rattle.history_text.proofs.history_writer.put_before_events.Goals as goal

-- the header line, a word, a number and a line feed are the header and the count line
begun : (n : ℕ) (a b d e : List ℕ) → a ≡ [] → b ≡ a ++ (line (codes "fifo-history 2") ++ codes "initial ")
    → d ≡ b ++ decimal n
    → e ≡ d ++ 10 ∷ [] → e ≡ line (codes "fifo-history 2") ++ line (spaced (count_fields n))
begun n a b d e empty word digits ending =
    rw (ending, digits, word, empty) (append_assoc (line (codes "fifo-history 2") ++ codes "initial ") (decimal n) (10 ∷ []))

pub returns-clause-text : goal.returns-clause-text
returns-clause-text g c =
    let n = length c.args.initial.now in
    let first = begun n _ _ _ _ c.requires c.push-in-Two.ensures.bytes c.push_number.ensures.digits c.push-in-Two-2.ensures.bytes in
    rw c.in-Two.is (puts_after _ _ _ c.put_each.result _ _ (line (codes "fifo-history 2") ++ line (spaced (count_fields n))) _ _ _ first c.put_each.ensures.text)
