use Rattle.track_locks.proofs.Stands.{stand_for}
use Rattle.track_locks.proofs.laws.held_parts_stand.Goals as goal

pub returns : goal.returns
returns g c = λ stations opening before journal ns ps vs ss homes is opened legal agree.
    stand_for g.O.PartObject.meaning g.O.PartObject.opens stations opening before journal ns ps vs ss homes is opened legal agree
