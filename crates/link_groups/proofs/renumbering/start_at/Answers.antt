use Rattle.link_groups.proofs.renumbering.start_at.Goals as goal

pub returns-then-unsplit-clause-start : goal.returns-then-unsplit-clause-start
returns-then-unsplit-clause-start g c = c.first.ensures c.args.place c.args.track.now

pub returns-then-from-place-clause-start : goal.returns-then-from-place-clause-start
returns-then-from-place-clause-start g c = c.first-then-from-place.ensures c.args.place c.args.track.now
