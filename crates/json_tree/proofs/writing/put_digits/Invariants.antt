use Rattle.std.proofs.Common.{◌≡◌, ◌++◌, ◌≤◌}
use Rattle.json_tree.specs.Writing.{last_digits}
use Rattle.json_tree.proofs.writing.put_digits.Given as goal

abbrev pub invariant-loop-place : goal.invariant-loop-place
invariant-loop-place l = (l.place ≤ l.count) × (l.out.items ++ last_digits l.number l.place ≡ l.fn.out.items ++ last_digits l.number l.count)

abbrev pub decreases-loop-place : goal.decreases-loop-place
decreases-loop-place l = l.place
