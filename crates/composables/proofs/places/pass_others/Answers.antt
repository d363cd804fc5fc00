use Rattle.std.proofs.Common.{◌≡◌, ◌+◌, take, sym, ap, ◌∙◌}
use Rattle.composables.specs.Joined.{frames_in}
use Rattle.composables.specs.Ranges.{range_from}
use Rattle.composables.proofs.Frames.{frames_in-sum}
use Rattle.composables.proofs.Finding.{range_others}
use Rattle.composables.proofs.places.pass_others.Goals as goal

pub returns-clause-frames : goal.returns-clause-frames
returns-clause-frames c = c.pass.ensures.places_is ∙ frames_in-sum (take c.pass.result.count c.args.left.now)

pub returns-clause-range : goal.returns-clause-range
returns-clause-range c =
    let old = c.args.left.now in
    let p = c.pass.result in
    let places = c.pass.ensures.places_is ∙ frames_in-sum (take p.count old) in
    λ x. rw (c.pass.ensures.left_is, places) (range_others x old p.count c.args.item c.pass.ensures.unwanted)
