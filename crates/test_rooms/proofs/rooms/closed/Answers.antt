use Rattle.std.proofs.Common.{arith}
use Rattle.cut_room.proofs.Numbered.{in_numbers}
use Rattle.test_rooms.proofs.rooms.closed.Goals as goal

pub close-requires : goal.close-requires
close-requires g c = record {
  all = λ s lt. rw c.in-Ok.ensures.passes.0 (in_numbers 0 c.args.blank.stations s (omega arith) (omega (arith, lt, c.in-Ok.ensures.stations)));
}
