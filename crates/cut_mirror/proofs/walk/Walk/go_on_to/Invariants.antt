use Rattle.std.proofs.Common.{◌≡◌, ◌+◌}
use Rattle.cut_mirror.specs.Walks.{IsAlong}
use Rattle.cut_mirror.proofs.walk.Walk.go_on_to.Given as goal

abbrev pub invariant-loop : goal.invariant-loop
invariant-loop g l = record {
  along : IsAlong l.fn.self l.self;
  point : l.self.point ≡ l.counter;
}
