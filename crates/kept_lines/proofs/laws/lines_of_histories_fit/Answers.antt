use Rattle.kept_lines.proofs.Entries.{entered_lines_fit}
use Rattle.kept_lines.proofs.Texts.{done_steps_fit}
use Rattle.kept_lines.proofs.laws.lines_of_histories_fit.Goals as goal

pub returns-clause-steps : goal.returns-clause-steps
returns-clause-steps c = done_steps_fit

pub returns-clause-entries : goal.returns-clause-entries
returns-clause-entries c = entered_lines_fit
