use Rattle.std.proofs.Common.{refl}
use Rattle.composables.specs.OwnTracks.{numbers_of}
use Rattle.test_tracks.proofs.Alone.{alone-named, alone-own}
use Rattle.test_rolls.proofs.edits.edited.Goals as goal

pub slide-requires-clause-named : goal.slide-requires-clause-named
slide-requires-clause-named g c = alone-named (numbers_of c.args.named.now.items) 1 c.requires.named refl

pub slide-requires-clause-own : goal.slide-requires-clause-own
slide-requires-clause-own g c = alone-own 0 1 refl refl
