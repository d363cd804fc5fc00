use Rattle.std.proofs.Common.{◌∙◌, take}
use Rattle.composables.proofs.Frames.{frames_in-sum}
use Rattle.composables.proofs.PassedLinks.{unlinked_each}
use Rattle.composables.proofs.item_reader.pass_bare.Goals as goal

pub returns-clause-frames : goal.returns-clause-frames
returns-clause-frames c = c.pass.ensures.places_is ∙ frames_in-sum (take c.pass.result.count c.args.left.now)

pub returns-clause-unlinked : goal.returns-clause-unlinked
returns-clause-unlinked c = unlinked_each (take c.pass.result.count c.args.left.now) c.pass.ensures.unwanted
