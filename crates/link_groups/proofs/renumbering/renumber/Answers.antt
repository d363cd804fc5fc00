use Rattle.std.proofs.Common.{◌≡◌, ℕ, List, map, ap, ◌∙◌, subst}
use Rattle.composables.specs.Links.{split_links}
use Rattle.composables.specs.TrackState.{TrackState}
use Rattle.link_groups.specs.Splits.{AreSplits, relinked_track}
use Rattle.link_groups.proofs.SplitCells.{each-cells, relinked-each}
use Rattle.link_groups.proofs.renumbering.renumber.Goals as goal

pub returns-clause-split : goal.returns-clause-split
returns-clause-split g c =
    let splits : AreSplits c.args.named.now.items (split_links c.args.x c.args.y c.args.named.now.items) c.in_ok-splits.splits =
    subst (λ (ts : List TrackState). AreSplits ts (split_links c.args.x c.args.y ts) c.in_ok-splits.splits) c.deref.ensures.value c.in_ok-splits.ensures.splits in
    let copied : c.in_ok-renumbered.renumbered.items ≡ c.args.named.now.items = c.in_ok-renumbered.ensures ∙ c.deref-2.ensures.value in
    c.in_ok-relink_whole.ensures.relinked
    ∙ (ap (λ (ts : List TrackState). map (relinked_track c.in_ok-splits.splits c.from.result) ts) copied
    ∙ (ap (λ (n : ℕ). map (relinked_track c.in_ok-splits.splits n) c.args.named.now.items) c.from.ensures
    ∙ (relinked-each c.args.named.now.items (split_links c.args.x c.args.y c.args.named.now.items) c.in_ok-splits.splits c.args.y c.args.named.now.items splits
    ∙ each-cells c.args.named.now.items (split_links c.args.x c.args.y c.args.named.now.items) c.args.y c.args.named.now.items c.requires.room.kept c.requires.uncut)))
