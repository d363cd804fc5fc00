use Rattle.std.proofs.Common.{sym, ◌∙◌}
use Rattle.journal_file.proofs.Lines.{no_line, whole_line}
use Rattle.journal_file.proofs.reading.is_line.Goals as goal

pub returns-in-Some : goal.returns-in-Some
returns-in-Some c = no_line c.args.bytes.now c.in-Some.field-0 (sym c.lf_at.ensures.at ∙ c.in-Some.is)

pub returns-in-None : goal.returns-in-None
returns-in-None c = whole_line c.args.bytes.now c.is_length.result (sym c.lf_at.ensures.at ∙ c.in-None.is)
    c.is_length.ensures
