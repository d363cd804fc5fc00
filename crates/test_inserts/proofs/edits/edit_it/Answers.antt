use Rattle.std.proofs.Common.{refl}
use Rattle.composables.specs.OwnTracks.{numbers_of}
use Rattle.test_tracks.proofs.Alone.{alone-named, alone-own}
use Rattle.test_inserts.proofs.edits.edit_it.Goals as goal

pub insert-requires-clause-named : goal.insert-requires-clause-named
insert-requires-clause-named g c = alone-named (numbers_of c.args.named.now.items) c.put.result.tracks c.requires.named c.put.ensures.tracks

pub insert-requires-clause-own : goal.insert-requires-clause-own
insert-requires-clause-own g c = alone-own c.put.result.track c.put.result.tracks c.put.ensures.track c.put.ensures.tracks

pub extract-requires-clause-named : goal.extract-requires-clause-named
extract-requires-clause-named g c = alone-named (numbers_of c.args.named.now.items) 1 c.requires.named refl

pub extract-requires-clause-own : goal.extract-requires-clause-own
extract-requires-clause-own g c = alone-own 0 1 refl refl
