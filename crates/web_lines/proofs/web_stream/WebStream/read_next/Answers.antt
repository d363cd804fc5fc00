use Rattle.std.proofs.Common.{inl, inr, arith}
use Rattle.web_lines.proofs.LinesRead.{ends_after, gives_line, line_left}
use Rattle.web_lines.proofs.web_stream.WebStream.read_next.Goals as goal

pub returns-clause-lines : goal.returns-clause-lines
returns-clause-lines g c = λ some. elim c.in_ok-fetch.ensures.ok [
  | inl comes ↦ gives_line g.S.Read.remaining c.args.self.now c.fetch.new.self c.give.new.self _ c.requires.left comes c.give.ensures.stays c.give.ensures.gives
  | inr ends ↦ absurd (omega (arith, some, c.give.ensures.none ends.0))
]

pub returns-clause-end : goal.returns-clause-end
returns-clause-end g c = λ zero. elim c.in_ok-fetch.ensures.ok [
  | inl comes ↦ absurd (omega (arith, zero, c.give.ensures.some c.requires.room (line_left g.S.Read.remaining c.args.self.now c.fetch.new.self comes)))
  | inr ends ↦ ends_after g.S.Read.remaining c.args.self.now c.fetch.new.self c.give.new.self _ ends c.give.ensures.stays c.give.ensures.gives
]
