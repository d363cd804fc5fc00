use Rattle.std.proofs.Common.{ap, arith}
use Rattle.seat_lines.specs.Seats.{RepliesState}
use Rattle.seat_lines.specs.Texts.{lines_in}
use Rattle.seat_lines.proofs.Texts.{lines_in-take}
use Rattle.seat_lines.proofs.replies.Replies.let_go.Goals as goal

pub drop_lines-requires-clause-ended : goal.drop_lines-requires-clause-ended
drop_lines-requires-clause-ended c =
    omega (
      arith,
      c.lines_within-front.ensures.lines,
      lines_in-take c.args.may c.deref.result.now,
      ap lines_in c.deref.ensures.value,
      ap (λ (s : RepliesState). lines_in s.kept) c.self.view_is,
    )
