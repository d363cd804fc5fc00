use Rattle.std.proofs.Common.{refl}
use Rattle.composables.specs.OwnTracks.{numbers_of}
use Rattle.test_tracks.proofs.Alone.{alone-named, alone-numbers, alone-own}
use Rattle.test_rolls.proofs.links.play.Goals as goal

pub slide-answer-requires-clause-named : goal.slide-answer-requires-clause-named
slide-answer-requires-clause-named g c =
    alone-named (numbers_of c.push.new.self.items) 1 (alone-numbers c.new-named.result.items c.push.new.self.items c.args.track c.new-named.ensures.items c.in_ok-push.ensures.items c.requires.number) refl

pub slide-answer-requires-clause-own : goal.slide-answer-requires-clause-own
slide-answer-requires-clause-own g c = alone-own 0 1 refl refl
