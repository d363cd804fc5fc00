use Rattle.std.proofs.Common.{refl}
use Rattle.composables.specs.OwnTracks.{numbers_of}
use Rattle.test_trims.proofs.TestTracks.{named-three, third-own}
use Rattle.test_trims.proofs.links.slipped_on_third.Goals as goal

pub play-requires-clause-named : goal.play-requires-clause-named
play-requires-clause-named c = named-three (numbers_of c.in-Some.named.items) 7 (rw c.in-Some.is at c.in_ok-named.ensures.numbers) refl

pub play-requires-clause-own : goal.play-requires-clause-own
play-requires-clause-own c = third-own
