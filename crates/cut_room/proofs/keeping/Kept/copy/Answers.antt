use Rattle.cut_room.proofs.keeping.Kept.copy.Goals as goal

pub returns : goal.returns
returns g c = rw (← c.self.view_is) record { cut = c.copy.ensures.cut }
