use Rattle.journal_file.proofs.Pushes.{nothing_in, nothing_held}
use Rattle.journal_file.proofs.batch.Batch.new.Goals as goal

pub invariant_of-result : goal.invariant_of-result
invariant_of-result c = rw c.new.ensures.items nothing_held

pub returns : goal.returns
returns c = rw c.new.ensures.items nothing_in
