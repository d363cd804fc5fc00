use Rattle.web_lines.proofs.FirstBytes.{told_once}
use Rattle.web_lines.proofs.laws.what_talks_is_told_once.Goals as goal

pub returns-clause-stays : goal.returns-clause-stays
returns-clause-stays c = λ front more talk h. told_once 0 front more talk h
