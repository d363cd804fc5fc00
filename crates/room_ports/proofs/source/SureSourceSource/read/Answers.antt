use Rattle.room_ports.proofs.Piecewise.{reads-gives, reads-end}
use Rattle.room_ports.proofs.source.SureSourceSource.read.Goals as goal

pub returns-clause-front : goal.returns-clause-front
returns-clause-front c = rw (← c.self.view_is) (reads-gives _ _ _ _ _ c.read.ensures)

pub returns-clause-end : goal.returns-clause-end
returns-clause-end c = rw (← c.self.view_is) (reads-end _ _ _ _ _ c.read.ensures)
