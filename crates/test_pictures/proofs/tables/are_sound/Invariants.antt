use Rattle.std.proofs.Common.{drop}
use Rattle.flatten.specs.Channels.{AreSound}
use Rattle.test_pictures.proofs.tables.are_sound.Given as goal

abbrev pub invariant-loop-nest : goal.invariant-loop-nest
invariant-loop-nest l = AreSound (drop l.nest-index l.nests) → AreSound l.nests
