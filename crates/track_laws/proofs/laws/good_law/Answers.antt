use Rattle.track_laws.proofs.DeltaLaw.{moving-keeps}
use Rattle.track_laws.proofs.Linking.{linking-keeps}
use Rattle.track_laws.proofs.Marking.{dissolving-keeps}
use Rattle.track_laws.proofs.Putting.{putting-keeps}
use Rattle.track_laws.proofs.Shifting.{shifting-keeps}
use Rattle.track_laws.proofs.laws.good_law.Goals as goal

pub returns-clause-putting_in : goal.returns-clause-putting_in
returns-clause-putting_in c = putting-keeps

pub returns-clause-shifting : goal.returns-clause-shifting
returns-clause-shifting c = shifting-keeps

pub returns-clause-dissolving : goal.returns-clause-dissolving
returns-clause-dissolving c = dissolving-keeps

pub returns-clause-linking : goal.returns-clause-linking
returns-clause-linking c = linking-keeps

pub returns-clause-moving : goal.returns-clause-moving
returns-clause-moving c = moving-keeps
