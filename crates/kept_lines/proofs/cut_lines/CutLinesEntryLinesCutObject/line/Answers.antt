use Rattle.journal_text.specs.Journals.{entry_text}
use Rattle.kept_lines.proofs.Entries.{entered_lines_fit, line_if}
use Rattle.kept_lines.proofs.cut_lines.CutLinesEntryLinesCutObject.line.Goals as goal

pub returns-clause-is_line : goal.returns-clause-is_line
returns-clause-is_line c =
    let entered = c.requires.entered in
    let entry = c.args.entry.now in
    line_if (entry_text entry) c.entry_text.result c.entry_text.ensures
    (entered_lines_fit c.args._object.now.object.table entered.opening entered.before entered.after entry entered.legal c.numbers.ensures)
