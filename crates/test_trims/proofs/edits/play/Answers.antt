use Rattle.test_trims.proofs.TestTracks.{one-numbers, one-own}
use Rattle.test_trims.proofs.edits.play.Goals as goal

pub slip-answer-requires-clause-named : goal.slip-answer-requires-clause-named
slip-answer-requires-clause-named g c =
    one-numbers c.new-named.result.items c.push.new.self.items c.args.track c.new-named.ensures.items c.in_ok-push.ensures.items c.requires.number

pub slip-answer-requires-clause-own : goal.slip-answer-requires-clause-own
slip-answer-requires-clause-own g c = one-own
