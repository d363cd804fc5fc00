use Rattle.link_groups.proofs.starts.found.Goals as goal

pub returns-then-not-has_links-clause-start : goal.returns-then-not-has_links-clause-start
returns-then-not-has_links-clause-start g c = c.first.ensures c.args.y c.args.track.now

pub returns-in-None-clause-start : goal.returns-in-None-clause-start
returns-in-None-clause-start g c = c.first-in-None.ensures c.args.y c.args.track.now
