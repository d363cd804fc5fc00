use Rattle.std.proofs.Common.{length, ap, sym}
use Rattle.history_points.proofs.Keeping.{cut_further}
use Rattle.cut_room.proofs.Passes.{at_point}
use Rattle.cut_room.proofs.Replaying.{cut_there, longer_point}
use Rattle.cut_room.proofs.room.Room.keep_by.Goals as goal

pub keep-requires-clause-within : goal.keep-requires-clause-within
keep-requires-clause-within g c =
    let s = c.self.inside in
    let met = c.meet-pass.ensures in
    longer_point c.args.pass.entries c.lock-turn.result.journal.entries c.meet-pass.new.self.pass.entries c.args.point c.requires.within
    (met.stands (s.object, s.opening.items) c.self.invariant.0).front met.kept

pub keep-requires-clause-cut : goal.keep-requires-clause-cut
keep-requires-clause-cut g c =
    let s = c.self.inside in
    let met = c.meet-pass.ensures in
    let entries = c.lock-turn.result.journal.entries in
    cut_there g.O.PartObject.meaning g.O.PartObject.good g.O.PartObject.count g.J.Naming.opening entries c.meet-pass.new.self.pass.entries c.args.point c.args.parts.items (sym met.kept)
    (cut_further g.O.PartObject.meaning g.O.PartObject.good g.O.PartObject.count g.J.Naming.opening c.args.pass.entries entries c.args.point c.args.parts.items
    (met.stands (s.object, s.opening.items) c.self.invariant.0).front c.requires.within c.requires.cut)

pub returns : goal.returns
returns g c =
    let s = c.self.inside in
    let met = c.meet-pass.ensures in
    let h = met.journal in
    rw (← c.self.view_is) record {
      stays = (at_point g.O.PartObject.meaning g.O.PartObject.opens g.J.Naming.opening (s.object, s.opening.items) c.lock-turn.result.journal.entries c.args.pass c.meet-pass.result.0 (length c.meet-pass.result.0.entries)
          c.self.invariant.0 (h.0, h.1, h.2, h.3) met.stands met.pass.0 met.pass.1 met.pass.2 (ap length met.pass.2)).stays;
    }
