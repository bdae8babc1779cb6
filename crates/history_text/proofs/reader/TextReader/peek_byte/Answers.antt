use Rattle.history_text.proofs.Common.{arith, length, rules, ◌≡◌}
use Rattle.history_text.proofs.Buffers.{next_in_buffer, over_if_nothing, read_anew}
use Rattle.history_text.proofs.reader.TextReader.peek_byte.Goals as goal

pub returns-then-self-clause-next : goal.returns-then-self-clause-next
returns-then-self-clause-next g c =
    let long : length c.self.inside.buffer ≡ 4224 = search (rules, c.self.ranges) in
    rw (← c.self.view_is) (next_in_buffer c.self.inside.buffer c.self.inside.at c.self.inside.filled _ (omega (arith, c.if-self.true))
    (omega (arith, long, c.self.invariant.1)))

pub returns-then-self-eq0-clause-left : goal.returns-then-self-eq0-clause-left
returns-then-self-eq0-clause-left g c = rw (← c.self.view_is)
    (read_anew c.self.inside.buffer c.read_at.new.buffer c.self.inside.at c.self.inside.filled c.in_ok-self-inside.field-0 _ _
    (omega (arith, c.if-self.false)) c.in_ok-self-inside.ensures.bytes)

pub returns-then-self-eq0-clause-next : goal.returns-then-self-eq0-clause-next
returns-then-self-eq0-clause-next g c =
    over_if_nothing _ c.in_ok-self-inside.field-0 c.read_at.new.buffer (omega (arith, c.if-self-eq0.true)) c.in_ok-self-inside.ensures.over

pub returns-clause-left : goal.returns-clause-left
returns-clause-left g c = rw (← c.self.view_is)
    (read_anew c.self.inside.buffer c.read_at.new.buffer c.self.inside.at c.self.inside.filled c.in_ok-self-inside.field-0 _ _
    (omega (arith, c.if-self.false)) c.in_ok-self-inside.ensures.bytes)

pub returns-clause-next : goal.returns-clause-next
returns-clause-next g c =
    let long : length c.read_at.new.buffer ≡ 4224 = search (rules, c.read_at.ensures.len, c.self.ranges) in
    let n = c.in_ok-self-inside.field-0 in
    next_in_buffer c.read_at.new.buffer 0 n _ (omega (arith, c.if-self-eq0.false)) (omega (arith, long, c.in_ok-self-inside.ensures.bound))
