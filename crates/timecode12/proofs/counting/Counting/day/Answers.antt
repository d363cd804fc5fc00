use Rattle.timecode12.proofs.Told.{day_is}
use Rattle.timecode12.proofs.counting.Counting.day.Goals as goal

pub returns-clause-length : goal.returns-clause-length
returns-clause-length c = day_is c.args.self.now c.units.result.numbers c.units.result.dropped c.day.result c.units.ensures.numbers c.units.ensures.dropped c.day.ensures
