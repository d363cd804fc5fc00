use Rattle.std.proofs.Common.{rules, sym, ◌∙◌}
use Rattle.edl_lines.proofs.CutLines.{line_ended, line_last}
use Rattle.edl_lines.proofs.lines.first_line.Goals as goal

pub returns-in-Some-clause-lines : goal.returns-in-Some-clause-lines
returns-in-Some-clause-lines c = let line = line_ended c.args.bytes.now c.in-Some.at (sym c.lf_at.ensures.at ∙ c.in-Some.is) in search rules

pub returns-in-None-clause-lines : goal.returns-in-None-clause-lines
returns-in-None-clause-lines c = let line = line_last c.args.bytes.now (sym c.lf_at.ensures.at ∙ c.in-None.is) in search rules
