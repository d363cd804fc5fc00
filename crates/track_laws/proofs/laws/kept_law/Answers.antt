use Rattle.track_laws.proofs.Kept.{dissolves-stand-at-cuts, items-go-on}
use Rattle.track_laws.proofs.laws.kept_law.Goals as goal

pub returns-clause-items : goal.returns-clause-items
returns-clause-items c = items-go-on

pub returns-clause-dissolves : goal.returns-clause-dissolves
returns-clause-dissolves c = dissolves-stand-at-cuts
