use Rattle.journal_text.proofs.JournalLaws.{one_journal, one_fault, no_fault}
use Rattle.journal_text.proofs.laws.journals_have_one_reading.Goals as goal

pub returns-clause-one_journal : goal.returns-clause-one_journal
returns-clause-one_journal c = one_journal

pub returns-clause-one_fault : goal.returns-clause-one_fault
returns-clause-one_fault c = one_fault

pub returns-clause-not_both : goal.returns-clause-not_both
returns-clause-not_both c = no_fault
