use Rattle.std.proofs.Common.{ap, sym, ◌∙◌, take}
use Rattle.composables.proofs.Frames.{frames_in-sum}
use Rattle.composables.proofs.item_reader.pass_keyless.Goals as goal

pub returns-clause-frames : goal.returns-clause-frames
returns-clause-frames c = c.pass_without.ensures.places_is ∙ frames_in-sum (take c.pass_without.result.count c.args.left.now)

pub returns-clause-others : goal.returns-clause-others
returns-clause-others c = λ k d low same. c.pass_without.ensures.unwanted k d low (same ∙ c.key_of_link.ensures)
