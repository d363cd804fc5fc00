use Rattle.std.proofs.Common.{◌≡◌, take}
use Rattle.kept_rooms.proofs.comparing.are_same.Given as goal

abbrev pub invariant-loop-k : goal.invariant-loop-k
invariant-loop-k l = take l.k l.entries ≡ take l.k l.others
