use Rattle.std.proofs.Common.{arith}
use Rattle.room_core.specs.Parts.{numbers}
use Rattle.room_core.specs.Whole.{set_of}
use Rattle.cut_room.proofs.Standing.{below_power, set_of_first}
use Rattle.cut_room.proofs.room.standing.set_of_all.Goals as goal

pub returns-then-count-lt32 : goal.returns-then-count-lt32
returns-then-count-lt32 c =
    below_power c.args.count (set_of (numbers 0 c.args.count)) c.if-count-lt32.true (set_of_first c.args.count c.requires)
