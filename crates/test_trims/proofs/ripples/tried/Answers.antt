use Rattle.std.proofs.Common.{refl}
use Rattle.composables.specs.OwnTracks.{numbers_of}
use Rattle.test_trims.proofs.TestTracks.{named-two, two-own}
use Rattle.test_trims.proofs.ripples.tried.Goals as goal

pub play-played-requires-clause-named : goal.play-played-requires-clause-named
play-played-requires-clause-named c = named-two (numbers_of c.in-Some.named.items) 3 (rw c.in-Some.is at c.in_ok-named.ensures.numbers) refl

pub play-played-requires-clause-own : goal.play-played-requires-clause-own
play-played-requires-clause-own c = two-own 0 3 refl refl
