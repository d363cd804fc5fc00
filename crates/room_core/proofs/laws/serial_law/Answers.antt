use Rattle.std.proofs.Common.{slice_get}
use Rattle.room_core.proofs.Holding.{one_holder, stays-step}
use Rattle.room_core.proofs.Machines.{after_events, legal-events}
use Rattle.room_core.proofs.laws.serial_law.Goals as goal

pub returns-clause-legal : goal.returns-clause-legal
returns-clause-legal g c = λ o parts events. legal-events (g.O.PartObject.meaning o) parts events

pub returns-clause-parts : goal.returns-clause-parts
returns-clause-parts g c = λ o parts events. (after_events (g.O.PartObject.meaning o) parts events).comes_to

pub returns-clause-held : goal.returns-clause-held
returns-clause-held g c = λ o m event station part held other. stays-step (g.O.PartObject.meaning o) m event station part held other

pub returns-clause-one_holder : goal.returns-clause-one_holder
returns-clause-one_holder g c = λ m first second part one two. one_holder (slice_get m.holders part) first second one two
