use Rattle.std.proofs.Common.{◌≡◌, ℕ, ◌+◌, ◌≤◌, List, Option, Some, None, Bor, length, option_map}
use Rattle.edl_lines.specs.ListLines.{lines_behind}
use Rattle.list_commands.specs.Countings.{counted_otherwise, otherwise_from}
use Rattle.list_commands.proofs.countings.first_otherwise.Given as goal

-- the bytes left, and one for the line that they begin
abbrev bytes_left : Option (Bor (List ℕ)) → ℕ
bytes_left None = 0
bytes_left (Some more) = length more.now + 1

-- what comes of the lines left is what comes of all
abbrev pub invariant-loop-rest : goal.invariant-loop-rest
invariant-loop-rest l = record {
  same : otherwise_from l.counting l.at.line l.at.holds (lines_behind (option_map (λ more. more.now) l.rest)) ≡ counted_otherwise l.counting l.bytes;
  count : l.at.line + bytes_left l.rest ≤ length l.bytes + 2;
}

abbrev pub decreases-loop-rest : goal.decreases-loop-rest
decreases-loop-rest l = bytes_left l.rest
