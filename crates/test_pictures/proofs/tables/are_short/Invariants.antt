use Rattle.std.proofs.Common.{drop}
use Rattle.flatten.specs.Channels.{EachIsShort}
use Rattle.test_pictures.proofs.tables.are_short.Given as goal

abbrev pub invariant-loop-track : goal.invariant-loop-track
invariant-loop-track l = EachIsShort (drop l.track-index l.tracks) → EachIsShort l.tracks
