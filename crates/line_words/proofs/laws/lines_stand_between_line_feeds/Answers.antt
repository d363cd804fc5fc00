use Rattle.line_words.proofs.PieceLaws.{lines_of-line, lines_of-last}
use Rattle.line_words.proofs.laws.lines_stand_between_line_feeds.Goals as goal

pub returns-clause-line : goal.returns-clause-line
returns-clause-line c = lines_of-line

pub returns-clause-last : goal.returns-clause-last
returns-clause-last c = lines_of-last
