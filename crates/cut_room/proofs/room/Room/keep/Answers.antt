use Rattle.cut_room.proofs.room.Room.keep.Goals as goal

pub keep_own-requires-clause-cut : goal.keep_own-requires-clause-cut
keep_own-requires-clause-cut g c = rw c.in-Ok.ensures c.requires.cut
