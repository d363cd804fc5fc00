use Rattle.std.proofs.Common.{◌-◌, ◌≤◌}
use Rattle.history_points.specs.KeptCuts.{IsCutOf}
use Rattle.cut_room.specs.Rooms.{Stays}
use Rattle.cut_room.proofs.room.Room.gone_on.Given as goal

abbrev pub invariant-loop-at : goal.invariant-loop-at
invariant-loop-at g l = record {
  low : l.from ≤ l.at;
  high : l.at ≤ l.n;
  stays : Stays (g.O.PartObject.meaning l.self.object) l.self.parts l.fn.pass l.pass;
  cut : IsCutOf g.O.PartObject.meaning g.O.PartObject.good g.O.PartObject.count g.J.Naming.opening l.fn.pass.entries l.at l.parts.items;
}

abbrev pub decreases-loop-at : goal.decreases-loop-at
decreases-loop-at g l = l.n - l.at
