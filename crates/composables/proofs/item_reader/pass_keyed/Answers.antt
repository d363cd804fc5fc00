use Rattle.std.proofs.Common.{◌∙◌, take}
use Rattle.composables.proofs.Frames.{frames_in-sum}
use Rattle.composables.proofs.item_reader.pass_keyed.Goals as goal

pub returns-then-row-gt0-clause-frames : goal.returns-then-row-gt0-clause-frames
returns-then-row-gt0-clause-frames c = c.in-Some.ensures.some.places_is ∙ frames_in-sum (take c.in-Some.row.count c.args.left.now)
