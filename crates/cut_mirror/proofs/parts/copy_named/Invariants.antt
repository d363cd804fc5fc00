use Rattle.std.proofs.Common.{◌≡◌, ◌++◌, drop}
use Rattle.room_core.specs.Whole.{picked}
use Rattle.cut_mirror.proofs.parts.copy_named.Given as goal

abbrev pub invariant-loop-name : goal.invariant-loop-name
invariant-loop-name g l = l.named.items ++ picked l.parts (drop l.name-index l.names) ≡ picked l.parts l.names
