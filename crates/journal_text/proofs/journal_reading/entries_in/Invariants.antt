use Rattle.std.proofs.Common.{◌≡◌, ◌+◌, ◌≤◌, ◌++◌, length}
use Rattle.std.specs.List.{flat_map, All}
use Rattle.journal_text.specs.Journals.{entry_line, HasLine}
use Rattle.journal_text.proofs.journal_reading.entries_in.Given as goal

-- the entries so far, and the text to come
abbrev pub invariant-loop-rest : goal.invariant-loop-rest
invariant-loop-rest l = record {
  lines : All HasLine l.entries.items;
  so_far : flat_map entry_line l.entries.items ++ l.rest ≡ l.text;
  room : length l.entries.items + length l.rest ≤ length l.text;
}

abbrev pub decreases-loop-rest : goal.decreases-loop-rest
decreases-loop-rest l = length l.rest
