use Rattle.std.proofs.Common.{◌≡◌, ◌++◌}
use Rattle.part_sets.specs.Members.{members}
use Rattle.part_sets.proofs.Looking.{members_after}
use Rattle.cut_mirror.proofs.parts.members.Given as goal

abbrev pub invariant-loop-number : goal.invariant-loop-number
invariant-loop-number l = l.numbers.items ++ members_after l.set l.number ≡ members l.set
