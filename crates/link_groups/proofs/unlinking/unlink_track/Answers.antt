use Rattle.std.proofs.Common.{ℕ, None, Ok, Option, Result, sym, ap, ◌∙◌, subst}
use Rattle.composables.specs.declared.items.ItemView.{ItemView}
use Rattle.composables.specs.declared.refusals.Done.{Done}
use Rattle.composables.specs.declared.refusals.Done.TheVariants.{Plain}
use Rattle.composables.specs.declared.refusals.Refusal.{Refusal}
use Rattle.composables.specs.Good.{IsGood}
use Rattle.composables.specs.TrackState.{TrackState}
use Rattle.link_groups.specs.LinkedItems.{linked_item}
use Rattle.link_groups.specs.Linking.{where_there}
use Rattle.link_groups.proofs.Relinked.{relinked}
use Rattle.link_groups.proofs.unlinking.unlink_track.Goals as goal

pub set_link-requires-clause-kept : goal.set_link-requires-clause-kept
set_link-requires-clause-kept g c =
    (relinked c.args.table.now c.args.track.now c.in-Some.found.index c.args.call.now.item c.in-Some.found.view None c.requires.good c.in-Some.ensures.read c.in-Some.ensures.number tt).good.kept

pub returns-clause-answers : goal.returns-clause-answers
returns-clause-answers g c =
    let r = relinked c.args.table.now c.args.track.now c.in-Some.found.index c.args.call.now.item c.in-Some.found.view None c.requires.good c.in-Some.ensures.read c.in-Some.ensures.number tt in
    let after : TrackState = linked_item c.args.track.now c.args.call.now.item None in
    let meant : Result (TrackState × Done) Refusal = Ok (after, Plain) in
    ap (λ (o : Option (ℕ × ItemView)). where_there o meant) c.in-Some.ensures.found ∙ ap (λ (u : TrackState). Ok (u, Plain)) (sym r.same ∙ sym c.in_ok-set_link.ensures.ok)

pub returns-clause-good : goal.returns-clause-good
returns-clause-good g c =
    subst (IsGood c.args.table.now) (sym c.in_ok-set_link.ensures.ok)
    (relinked c.args.table.now c.args.track.now c.in-Some.found.index c.args.call.now.item c.in-Some.found.view None c.requires.good c.in-Some.ensures.read c.in-Some.ensures.number tt).good
