use Rattle.std.proofs.Common.{◌≡◌, ℕ, ◌+◌, ◌≤◌, List, Option, Some, None, Bor, length, option_map}
use Rattle.edl_lines.specs.ListLines.{lines_behind}
use Rattle.edl_read.specs.Reading.{list_from, list_read}
use Rattle.edl_read.specs.Waits.{IsWaiting}
use Rattle.edl_read.proofs.list.lines_read.Given as goal

-- the bytes left, and one for the line that they begin
abbrev bytes_left : Option (Bor (List ℕ)) → ℕ
bytes_left None = 0
bytes_left (Some more) = length more.now + 1

-- the list that comes of the lines left is the list of all
abbrev pub invariant-loop-rest : goal.invariant-loop-rest
invariant-loop-rest l = record {
  same : list_from l.rate l.line l.reading (lines_behind (option_map (λ more. more.now) l.rest)) ≡ list_read l.rate l.bytes;
  count : l.line + bytes_left l.rest ≤ length l.bytes + 2;
  waits : IsWaiting l.reading.waits;
}

abbrev pub decreases-loop-rest : goal.decreases-loop-rest
decreases-loop-rest l = bytes_left l.rest
