use Rattle.std.proofs.Common.{◌≡◌, ℕ, false, slice_get}
use Rattle.link_groups.specs.Marks.{in_row}
use Rattle.link_groups.proofs.link_marks.LinkMarks.new.Given as goal

abbrev pub invariant-loop : goal.invariant-loop
invariant-loop l = (i n : ℕ) → in_row (slice_get l.rows.items i) n ≡ false
