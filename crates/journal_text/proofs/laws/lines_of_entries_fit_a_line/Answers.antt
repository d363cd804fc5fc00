use Rattle.journal_text.proofs.EntryLengths.{fit_lines, journals_fit}
use Rattle.journal_text.proofs.laws.lines_of_entries_fit_a_line.Goals as goal

pub returns-clause-line : goal.returns-clause-line
returns-clause-line c = fit_lines

pub returns-clause-journal : goal.returns-clause-journal
returns-clause-journal c = journals_fit
