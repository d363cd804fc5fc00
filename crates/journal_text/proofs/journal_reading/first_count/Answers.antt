use Rattle.journal_text.proofs.JournalSteps.{no_line_count, no_told_count}
use Rattle.journal_text.proofs.journal_reading.first_count.Goals as goal

pub returns-in_err-line : goal.returns-in_err-line
returns-in_err-line c = rw c.from_residual.ensures (no_line_count c.args.text.now c.in_err-line.ensures)

pub returns-in_err-count : goal.returns-in_err-count
returns-in_err-count c = rw c.from_residual-in_err-count.ensures
    (no_told_count c.args.text.now c.in_ok-line.line.now c.in_ok-line.rest.now c.in_ok-line.ensures.0 c.in_ok-line.ensures.1 c.in_err-count.ensures)
