use Rattle.std.proofs.Common.{get_or, sym, ◌∙◌}
use Rattle.cut_room.proofs.Passes.{legal_of}
use Rattle.cut_room.proofs.Stations.{below_last, none_of}
use Rattle.cut_room.proofs.room.Room.close.Goals as goal

pub returns-clause-legal : goal.returns-clause-legal
returns-clause-legal g c =
    let s = c.self.inside in
    let h = c.close_with.ensures.journal in
    rw (← c.self.view_is)
    (legal_of g.O.PartObject.meaning g.O.PartObject.opens g.J.Naming.opening (s.object, s.opening.items) c.close_with.result.items c.self.invariant.0 (h.0, h.1, h.2, h.3))

pub returns-clause-passes : goal.returns-clause-passes
returns-clause-passes g c =
    let s = c.self.inside in
    rw (← c.self.view_is) (λ k d lt. c.close_with.ensures.passes k d lt (s.object, s.opening.items) c.self.invariant.0)

pub returns-clause-stations : goal.returns-clause-stations
returns-clause-stations g c = λ k d lt.
    let all = rw (← c.self.view_is) at c.requires.all in
    let s = c.self.inside in
    let last = c.into_pass-last.ensures in
    let own = (c.close_with.ensures.more (s.object, s.opening.items) c.self.invariant.0).same in
    let other = none_of c.into_pass-last.result.number c.close_with.result.items k d (sym own ∙ last.own) lt in
    all (get_or c.close_with.result.items k d).station (below_last (get_or c.close_with.result.items k d).station c.into_pass-last.result.number s.stations g.J.Naming.stations
    (c.close_with.ensures.journal.4 k d lt) c.self.invariant.3 last.last other)
