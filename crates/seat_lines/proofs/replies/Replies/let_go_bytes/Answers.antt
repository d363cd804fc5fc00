use Rattle.std.proofs.Common.{ap, arith, inr}
use Rattle.seat_lines.specs.Seats.{RepliesState}
use Rattle.seat_lines.specs.Texts.{lines_in}
use Rattle.seat_lines.proofs.Texts.{lines_in-take}
use Rattle.seat_lines.proofs.replies.Replies.let_go_bytes.Goals as goal

pub returns-then-self-eq0-clause-all : goal.returns-then-self-eq0-clause-all
returns-then-self-eq0-clause-all c =
    inr (omega (
      arith,
      c.if-self-eq0.true,
      c.self.invariant.2,
      lines_in-take c.args.may c.args.self.now.kept,
      ap (λ (s : RepliesState). lines_in s.kept) c.self.view_is,
    ))

pub drop_lines-requires-clause-ended : goal.drop_lines-requires-clause-ended
drop_lines-requires-clause-ended c =
    omega (
      arith,
      c.lines_of_bytes-front.ensures.lines,
      lines_in-take c.args.may c.deref.result.now,
      ap lines_in c.deref.ensures.value,
      ap (λ (s : RepliesState). lines_in s.kept) c.self.view_is,
    )
