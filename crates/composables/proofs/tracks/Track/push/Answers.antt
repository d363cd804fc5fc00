use Rattle.std.proofs.Common.{length, arith, refl, ap}
use Rattle.std.proofs.lemmas.List.{length-append}
use Rattle.composables.specs.Items.{cells_of, view_cells}
use Rattle.composables.specs.TrackState.{pushed}
use Rattle.composables.specs.TrackInside.{state_of}
use Rattle.composables.proofs.Joining.{items_of-tight, length-cells_of, length-items_of, length-view_cells}
use Rattle.composables.proofs.Keeping.{push_keeps, same_state}
use Rattle.composables.proofs.Unlinked.{push_unlinked}
use Rattle.composables.proofs.tracks.Track.push.Goals as goal

pub push_item-requires-clause-frames : goal.push_item-requires-clause-frames
push_item-requires-clause-frames c =
    let xs = c.self.inside.items in
    let kept = rw (← c.self.view_is) at c.requires.kept in
    omega (arith, kept.short, length-append (cells_of xs) (view_cells c.args.view), length-cells_of xs, length-view_cells c.args.view)

pub push_item-requires-clause-count : goal.push_item-requires-clause-count
push_item-requires-clause-count c =
    let v = c.self.invariant in
    let xs = c.self.inside.items in
    let kept = rw (← c.self.view_is) at c.requires.kept in
    omega (
      arith,
      kept.short,
      c.requires.filled,
      length-append (cells_of xs) (view_cells c.args.view),
      length-view_cells c.args.view,
      length-items_of (cells_of xs),
      ap length (items_of-tight xs v.filled v.tight),
    )

pub invariant_of-self-2 : goal.invariant_of-self-2
invariant_of-self-2 c =
    let v = c.self.invariant in
    let t = c.self.inside in
    let kept = rw (← c.self.view_is) at c.requires.kept in
    let k = push_keeps t.items c.push_item.new.items c.args.view (pushed (state_of t) c.args.view) v.filled v.tight c.requires.filled c.in_ok-push_item.ensures.ok refl kept in
    record {
      tight = k.tight;
      filled = k.filled;
      kept = rw (k.cells, c.number_past-self-inside.ensures) kept;
      links = push_unlinked t.items c.push_item.new.items c.args.view t.linked c.is_some.result v.links c.is_some.ensures c.in_ok-push_item.ensures.ok;
    }

pub returns-clause-ok : goal.returns-clause-ok
returns-clause-ok c =
    let v = c.self.invariant in
    let t = c.self.inside in
    let kept = rw (← c.self.view_is) at c.requires.kept in
    let k = push_keeps t.items c.push_item.new.items c.args.view (pushed (state_of t) c.args.view) v.filled v.tight c.requires.filled c.in_ok-push_item.ensures.ok refl kept in
    rw (← c.self.view_is) (same_state t.number t.next_link _ _ _ _ k.cells c.number_past-self-inside.ensures)
