use Rattle.std.proofs.Common.{ℕ, ◌∙◌, subst, take}
use Rattle.std.specs.List.{All}
use Rattle.item_pages.specs.Wants.{IsWithin}
use Rattle.composables.specs.declared.items.ItemView.{ItemView}
use Rattle.composables.specs.TrackSets.{link_bits}
use Rattle.composables.proofs.Frames.{frames_in-sum}
use Rattle.composables.proofs.item_reader.pass_set.Goals as goal

pub returns-clause-frames : goal.returns-clause-frames
returns-clause-frames c = c.pass.ensures.places_is ∙ frames_in-sum (take c.pass.result.count c.args.left.now)

pub returns-clause-inside : goal.returns-clause-inside
returns-clause-inside c =
    subst (λ (n : ℕ). All (λ (v : ItemView). IsWithin (link_bits v.link) n) (take c.pass.result.count c.args.left.now)) c.set_bits-bits.ensures c.pass.ensures.unwanted
