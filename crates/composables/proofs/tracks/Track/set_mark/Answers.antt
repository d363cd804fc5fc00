use Rattle.std.proofs.Common.{refl}
use Rattle.composables.specs.Changes.{with_mark}
use Rattle.composables.proofs.Changing.{change_keeps, index_within}
use Rattle.composables.proofs.Keeping.{same_state}
use Rattle.composables.proofs.Unlinked.{stays_unlinked}
use Rattle.composables.proofs.tracks.Track.set_mark.Goals as goal

pub view_at-view-requires : goal.view_at-view-requires
view_at-view-requires c = index_within c.self.inside c.args.index c.self.invariant (rw (← c.self.view_is) at c.requires.within)

pub set-requires-clause-within : goal.set-requires-clause-within
set-requires-clause-within c = index_within c.self.inside c.args.index c.self.invariant (rw (← c.self.view_is) at c.requires.within)

pub invariant_of-self-2 : goal.invariant_of-self-2
invariant_of-self-2 c =
    let v = c.self.invariant in
    let t = c.self.inside in
    let k = change_keeps (with_mark c.args.mark) t c.args.index c.view_at-view.result (record { item = λ v. refl; len = λ v. refl }) v c.view_at-view.ensures in
    rw c.in_ok-set.ensures.ok (record { tight = k.tight; filled = k.filled; kept = rw k.cells (rw (← c.self.view_is) at c.requires.kept); links = λ h. stays_unlinked t.items c.args.index c.view_at-view.result _ c.view_at-view.ensures refl (v.links h) })

pub returns-clause-ok : goal.returns-clause-ok
returns-clause-ok c =
    let v = c.self.invariant in
    let t = c.self.inside in
    let k = change_keeps (with_mark c.args.mark) t c.args.index c.view_at-view.result (record { item = λ v. refl; len = λ v. refl }) v c.view_at-view.ensures in
    rw (← c.self.view_is) (rw c.in_ok-set.ensures.ok (same_state t.number t.next_link _ _ _ _ k.cells refl))
