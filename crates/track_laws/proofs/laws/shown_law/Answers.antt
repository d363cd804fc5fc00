use Rattle.track_laws.proofs.ShownLaws.{puts-nothing, puts-only}
use Rattle.track_laws.proofs.laws.shown_law.Goals as goal

pub returns-clause-putting_in : goal.returns-clause-putting_in
returns-clause-putting_in c = puts-only

pub returns-clause-others : goal.returns-clause-others
returns-clause-others c = puts-nothing
