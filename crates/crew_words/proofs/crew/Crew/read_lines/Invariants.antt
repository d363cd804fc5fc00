use Rattle.std.proofs.Common.{◌≡◌, ◌≤◌, ◌+◌, length}
use Rattle.std.specs.List.{slice_split}
use Rattle.line_words.specs.Lines.{is_lf}
use Rattle.crew_words.specs.Crews.{lines_read}
use Rattle.crew_words.specs.declared.crew.TheConstants.{MOST_BYTES}
use Rattle.crew_words.proofs.crew.Crew.read_lines.Given as goal

abbrev pub invariant-loop-line : goal.invariant-loop-line
invariant-loop-line l = record {
  small : l.number + length l.rest ≤ MOST_BYTES + 1;
  same : lines_read l.fn.self 1 (slice_split is_lf l.fn.text) ≡ lines_read l.self l.number (slice_split is_lf l.rest);
}

abbrev pub decreases-loop-line : goal.decreases-loop-line
decreases-loop-line l = length l.rest
