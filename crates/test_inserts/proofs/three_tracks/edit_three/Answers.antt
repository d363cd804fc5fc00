use Rattle.std.proofs.Common.{arith}
use Rattle.test_inserts.proofs.TestTracks.{one-of-three}
use Rattle.test_inserts.proofs.three_tracks.edit_three.Goals as goal

pub insert-requires-clause-own : goal.insert-requires-clause-own
insert-requires-clause-own g c = one-of-three c.put-call.result.tracks c.put-call.result.track c.put-call.ensures.tracks (omega (arith, c.put-call.ensures.track, c.must_be_of_three.ensures))

pub extract-requires-clause-own : goal.extract-requires-clause-own
extract-requires-clause-own g c = one-of-three c.take.result.tracks c.take.result.track c.take.ensures.tracks (omega (arith, c.take.ensures.track, c.must_be_of_three-in-Take.ensures))
