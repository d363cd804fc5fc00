use Rattle.std.proofs.Common.{◌≡◌, ◌++◌, drop}
use Rattle.std.specs.List.{flat_map}
use Rattle.journal_text.specs.Journals.{entry_line, journal_text_of}
use Rattle.journal_text.proofs.journal.journal_text.Given as goal

-- what is written so far, and the entries to come
abbrev pub invariant-loop-entry : goal.invariant-loop-entry
invariant-loop-entry l = l.out.items ++ flat_map entry_line (drop l.entry-index l.entries) ≡ journal_text_of l.entries
