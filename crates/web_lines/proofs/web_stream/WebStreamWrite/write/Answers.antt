use Rattle.std.proofs.Common.{sym, ◌∙◌}
use Rattle.web_lines.proofs.LinesWritten.{takes_line}
use Rattle.web_lines.proofs.web_stream.WebStreamWrite.write.Goals as goal

pub returns-in_ok-end_line-in-Some-clause-lines : goal.returns-in_ok-end_line-in-Some-clause-lines
returns-in_ok-end_line-in-Some-clause-lines g c =
    takes_line g.S.Write.contents c.args.self.now c.end_line.new.self c.args.piece.now _ c.in-Some.at (sym c.lf_at.ensures.at ∙ c.in-Some.is) c.split_at.ensures.front
    c.in_ok-end_line-in-Some.ensures.ok c.in_ok-end_line-in-Some.ensures.begun
