use Rattle.std.proofs.Common.{◌≡◌, ◌≤◌, ◌+◌, ◌-◌, ℕ, vec_len}
use Rattle.std.specs.Prelude.{slice_get}
use Rattle.room_halls.specs.Lines.{told_or_blank, sure_line_told}
use Rattle.room_halls.proofs.sure_hall.make_lines.Given as goal

abbrev pub invariant-loop-alloc : goal.invariant-loop-alloc
invariant-loop-alloc l = record {
  grows : vec_len l.fn.lines ≤ vec_len l.lines;
  same : (s : ℕ) → told_or_blank sure_line_told (slice_get l.lines.items s)
      ≡ told_or_blank sure_line_told (slice_get l.fn.lines.items s);
}

abbrev pub decreases-loop-alloc : goal.decreases-loop-alloc
decreases-loop-alloc l = l.station + 1 - vec_len l.lines
