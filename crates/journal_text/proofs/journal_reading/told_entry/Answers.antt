use Rattle.std.proofs.Common.{sym, ◌∙◌}
use Rattle.line_table.specs.Labels.{place_by}
use Rattle.journal_text.specs.Journals.{entry_text}
use Rattle.journal_text.proofs.JournalSteps.{none_loose, other_loose, differ}
use Rattle.journal_text.proofs.journal_reading.told_entry.Goals as goal

pub returns-else-told : goal.returns-else-told
returns-else-told c =
    let read = rw c.in-Some.is at c.in_ok-entry.ensures.read in
    other_loose (place_by c.args.counting.now 0) c.args.line.now c.in-Some.entry read
    (λ same. differ (entry_text c.in-Some.entry) c.args.line.now (sym c.in_ok-told-in-Some.ensures ∙ c.if-told.false) same)

pub returns-in-None : goal.returns-in-None
returns-in-None c =
    let none = rw c.in-None.is at c.in_ok-entry.ensures.read in
    none_loose (place_by c.args.counting.now 0) c.args.line.now none
