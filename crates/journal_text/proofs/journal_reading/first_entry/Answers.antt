use Rattle.journal_text.proofs.JournalSteps.{no_line_entry, no_told_entry}
use Rattle.journal_text.proofs.journal_reading.first_entry.Goals as goal

pub returns-in-None : goal.returns-in-None
returns-in-None c = no_line_entry c.args.text.now c.in-None.ensures

pub returns-in-None-2 : goal.returns-in-None-2
returns-in-None-2 c =
    let none = rw c.in-None-2.is at c.in_ok-entry.ensures in
    no_told_entry c.args.text.now c.in-Some.cut.0.now c.in-Some.cut.1.now c.in-Some.ensures.0 c.in-Some.ensures.1 none
