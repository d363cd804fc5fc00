use Rattle.std.proofs.Common.{◌≡◌}
use Rattle.part_sets.specs.Members.{first_absent, members}
use Rattle.part_sets.proofs.Looking.{members_after}
use Rattle.part_sets.proofs.members.first_absent.Given as goal

abbrev pub invariant-loop-number : goal.invariant-loop-number
invariant-loop-number l = first_absent l.count (members l.set) ≡ first_absent l.count (members_after l.set l.number)
