use Rattle.history_text.proofs.Common.{◌≡◌, arith, length, rules}
use Rattle.history_text.proofs.Buffers.{read_anew, takes_byte}
use Rattle.history_text.proofs.Consuming.{Takes-append}
use Rattle.history_text.proofs.reader.TextReader.next_byte.Goals as goal

pub returns-then-self-clause-byte : goal.returns-then-self-clause-byte
returns-then-self-clause-byte g c =
    let long : length c.self.inside.buffer ≡ 4224 = search (rules, c.self.ranges) in
    rw (← c.self.view_is) (takes_byte c.self.inside.buffer c.self.inside.at c.self.inside.filled _ (omega (arith, c.if-self.true))
    (omega (arith, long, c.self.invariant.1)))

pub returns-clause-byte : goal.returns-clause-byte
returns-clause-byte g c =
    let long : length c.read_at.new.buffer ≡ 4224 = search (rules, c.read_at.ensures.len, c.self.ranges) in
    let n = c.in_ok-self-inside.field-0 in
    rw (← c.self.view_is) (Takes-append _ _ _ _ _
    (read_anew c.self.inside.buffer c.read_at.new.buffer c.self.inside.at c.self.inside.filled n _ _ (omega (arith, c.if-self.false))
    c.in_ok-self-inside.ensures.bytes)
    (takes_byte c.read_at.new.buffer 0 n _ (omega (arith, c.if-self-eq0.false)) (omega (arith, long, c.in_ok-self-inside.ensures.bound))))
