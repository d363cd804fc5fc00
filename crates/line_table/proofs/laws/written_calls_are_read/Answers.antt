use Rattle.line_table.proofs.WrittenCalls.{written_step}
use Rattle.line_table.proofs.laws.written_calls_are_read.Goals as goal

pub returns : goal.returns
returns c = written_step
