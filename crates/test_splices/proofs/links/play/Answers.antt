use Rattle.composables.specs.Good.{IsGood}
use Rattle.composables.specs.Roomy.{IsRoomy}
use Rattle.composables.specs.TrackState.{TrackState}
use Rattle.test_splices.proofs.NamedTracks.{all-two, two-numbers}
use Rattle.test_splices.proofs.links.play.Goals as goal

pub link-answer-requires-clause-named : goal.link-answer-requires-clause-named
link-answer-requires-clause-named g c =
    two-numbers c.new-named.result.items c.push.new.self.items c.push-2.new.self.items c.args.first c.args.second c.args.call.now.tracks c.new-named.ensures.items c.in_ok-push.ensures.items c.in_ok-push-2.ensures.items
    c.requires.numbers.0 c.requires.numbers.1 c.requires.call

pub link-answer-requires-clause-good : goal.link-answer-requires-clause-good
link-answer-requires-clause-good g c =
    all-two (IsGood c.args.table.now) c.new-named.result.items c.push.new.self.items c.push-2.new.self.items c.args.first c.args.second c.new-named.ensures.items c.in_ok-push.ensures.items c.in_ok-push-2.ensures.items
    c.requires.good.0 c.requires.good.1

pub link-answer-requires-clause-roomy : goal.link-answer-requires-clause-roomy
link-answer-requires-clause-roomy g c =
    all-two (λ (t : TrackState). IsRoomy t) c.new-named.result.items c.push.new.self.items c.push-2.new.self.items c.args.first c.args.second c.new-named.ensures.items c.in_ok-push.ensures.items c.in_ok-push-2.ensures.items
    c.requires.roomy.0 c.requires.roomy.1
