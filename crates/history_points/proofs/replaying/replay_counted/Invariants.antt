use Rattle.std.proofs.Common.{◌≡◌, Some, take}
use Rattle.room_core.specs.History.{replay}
use Rattle.room_core.specs.Parts.{AreGood, numbers}
use Rattle.room_core.specs.Whole.{whole}
use Rattle.history_points.proofs.replaying.replay_counted.Given as goal

abbrev pub invariant-loop-k : goal.invariant-loop-k
invariant-loop-k g l = record {
  good : AreGood (g.O.PartObject.good l.object) (numbers 0 (g.O.PartObject.count l.object)) l.parts;
  comes : replay (whole (g.O.PartObject.meaning l.object)) l.from (take l.k l.entries) ≡ Some l.parts;
}
