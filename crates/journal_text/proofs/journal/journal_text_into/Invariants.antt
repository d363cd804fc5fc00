use Rattle.std.proofs.Common.{◌≡◌, ◌+◌, ◌*◌, ◌-◌, ◌≤◌, ◌++◌, drop, length}
use Rattle.std.specs.List.{flat_map}
use Rattle.journal_text.specs.Journals.{entry_line, journal_text_of}
use Rattle.journal_text.proofs.journal.journal_text_into.Given as goal

-- what is written so far, and the entries to come, for each of which there is memory
abbrev pub invariant-loop-entry : goal.invariant-loop-entry
invariant-loop-entry l = record {
  text : l.out.items ++ flat_map entry_line (drop l.entry-index l.entries) ≡ journal_text_of l.entries;
  room : l.out.len + 480 * (length l.entries - l.entry-index) ≤ l.out.cap;
}
