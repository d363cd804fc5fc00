use Rattle.std.proofs.Common.{ap, arith, length}
use Rattle.std.proofs.lemmas.List.{length-append}
use Rattle.seat_lines.specs.Texts.{lines_in}
use Rattle.seat_lines.proofs.Texts.{lines_in-append, lines_in-length}
use Rattle.seat_lines.proofs.replies.Replies.put.Goals as goal

pub overflow_add-self : goal.overflow_add-self
overflow_add-self c =
    omega (
      arith,
      c.self.invariant.2,
      c.self.invariant.1,
      lines_in-length c.self.inside.kept.items,
      c.whole_lines.ensures.fewer,
      c.whole_lines.ensures.within,
      c.if-bytes-written.false,
      c.len.ensures,
    )

pub invariant_of-self-2 : goal.invariant_of-self-2
invariant_of-self-2 c =
    let more = ap length c.in_ok-extend_from_slice.ensures.items in
    let both = length-append c.self.inside.kept.items c.args.bytes.now in (
      omega (arith, c.self.invariant.0, more, both),
      omega (arith, c.self.invariant.1, c.if-bytes-written.false, c.len.ensures, more, both),
      omega (
        arith,
        c.self.invariant.2,
        c.whole_lines.ensures.lines,
        lines_in-append c.self.inside.kept.items c.args.bytes.now,
        ap lines_in c.in_ok-extend_from_slice.ensures.items,
        lines_in-length c.args.bytes.now,
        c.if-bytes-written.false,
        c.len.ensures,
      ),
    )
