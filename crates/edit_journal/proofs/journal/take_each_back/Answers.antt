use Rattle.edit_journal.proofs.journal.take_each_back.Goals as goal

pub returns-clause-agree : goal.returns-clause-agree
returns-clause-agree g c = rw c.take_back.ensures.entries c.take_all_back.ensures.agree

pub returns-clause-more : goal.returns-clause-more
returns-clause-more g c = rw c.take_back.ensures.entries c.take_back.ensures.agrees
