use Rattle.std.proofs.Common.{◌∙◌, ap, sym, subst, Option, Some, refl}
use Rattle.frame_meaning.specs.declared.cells.Link.{Link}
use Rattle.composables.specs.Changes.{changed_track, with_link}
use Rattle.link_groups.proofs.Relinking.{IsLike, kept-one, like-new, own-track}
use Rattle.link_groups.proofs.renumbering.relink_item.Goals as goal

pub set_link-requires-clause-kept : goal.set_link-requires-clause-kept
set_link-requires-clause-kept c =
    kept-one c.args.track.now c.args.index c.args.view.now (Some c.in-Some.link) c.requires.kept c.requires.read
    (subst (IsLike c.args.view.now.link) c.in-Some.ensures.split (like-new c.args.splits.now c.args.view.now.link))

pub returns-in-Some : goal.returns-in-Some
returns-in-Some c =
    rw (c.in-Some.ensures.split) c.set_link.ensures.ok

pub returns-in-None : goal.returns-in-None
returns-in-None c =
    own-track c.args.track.now c.args.index c.args.view.now c.requires.kept c.requires.read
    ∙ ap (λ (o : Option Link). changed_track c.args.track.now c.args.index (with_link o)) (sym (c.in-None.ensures.whole refl))
