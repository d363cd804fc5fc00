use Rattle.first_lines.specs.FirstLines.{IsLonger}
use Rattle.first_lines.proofs.newcomer.Newcomer.hear.Given as goal

abbrev pub invariant-loop : goal.invariant-loop
invariant-loop l = IsLonger l.fn.self.text.items l.self.text.items
