use Rattle.timecode12.proofs.Told.{in_day_of, label_is}
use Rattle.timecode12.proofs.counting.Counting.label_of.Goals as goal

pub label_at-requires : goal.label_at-requires
label_at-requires c =
    in_day_of c.args.self.now c.units.result.numbers c.units.result.dropped c.day.result c.args.frame c.units.ensures.numbers c.units.ensures.dropped c.day.ensures.length c.if-frame-day.false

pub returns-clause-label : goal.returns-clause-label
returns-clause-label c =
    label_is c.args.self.now c.units.result.numbers c.units.result.dropped c.args.frame c.label_at.result c.units.ensures.numbers c.units.ensures.dropped
    c.label_at.ensures.place c.label_at.ensures.hours c.label_at.ensures.minutes c.label_at.ensures.seconds c.label_at.ensures.frames c.label_at.ensures.stays
