use Rattle.test_tracks.proofs.Alone.{alone-numbers}
use Rattle.test_rolls.proofs.edits.play.Goals as goal

pub edited-answer-requires-clause-named : goal.edited-answer-requires-clause-named
edited-answer-requires-clause-named g c =
    alone-numbers c.new-named.result.items c.push.new.self.items c.args.track c.new-named.ensures.items c.in_ok-push.ensures.items c.requires.number
