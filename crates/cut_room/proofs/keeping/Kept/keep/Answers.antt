use Rattle.cut_room.proofs.keeping.Kept.keep.Goals as goal

pub keep-requires-clause-cut : goal.keep-requires-clause-cut
keep-requires-clause-cut g c = rw c.make_room.ensures.pass (rw (← c.self.view_is) at c.requires.cut)
