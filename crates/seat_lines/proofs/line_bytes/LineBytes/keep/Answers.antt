use Rattle.std.proofs.Common.{◌∙◌, arith}
use Rattle.seat_lines.proofs.Pieces.{kept_so}
use Rattle.seat_lines.proofs.line_bytes.LineBytes.keep.Goals as goal

pub returns-clause-bytes : goal.returns-clause-bytes
returns-clause-bytes c =
    c.push_all.ensures ∙ kept_so c.min-n.result c.args.self.now c.args.more.now (omega arith) (omega (arith, c.min-n.ensures, c.len.ensures))
