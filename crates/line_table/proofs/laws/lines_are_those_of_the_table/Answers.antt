use Rattle.line_table.proofs.FaultLaws.{line_bad, bad_line}
use Rattle.line_table.proofs.TableLaws.{line_spelled, line_read}
use Rattle.line_table.proofs.laws.lines_are_those_of_the_table.Goals as goal

pub returns-clause-read : goal.returns-clause-read
returns-clause-read c = λ place_at bytes line. (line_spelled place_at bytes line, line_read place_at bytes line)

pub returns-clause-refused : goal.returns-clause-refused
returns-clause-refused c = λ place_at bytes fault. (line_bad place_at bytes fault, bad_line place_at bytes fault)
