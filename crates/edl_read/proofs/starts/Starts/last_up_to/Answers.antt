use Rattle.edl_read.proofs.StartPlaces.{not_above, not_below}
use Rattle.edl_read.proofs.starts.Starts.last_up_to.Goals as goal

pub returns-in-Some-clause-last : goal.returns-in-Some-clause-last
returns-in-Some-clause-last c place low some =
    not_below c.in-Some.place.now place ((c.range.ensures.in_range tt).4 _ _ c.in-Some.ensures.steps place (tt, not_above place c.args.at low) some)
