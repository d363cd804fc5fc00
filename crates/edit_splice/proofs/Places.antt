-- Where an item stands lies on its track.
use Rattle.std.proofs.Common.{◌≡◌, ◌+◌, ◌≤◌, length, ap, arith}
use Rattle.composables.specs.declared.items.Place.{Place}
use Rattle.composables.specs.Items.{cells_of, items_of}
use Rattle.composables.specs.Places.{IsPlaceOf}
use Rattle.composables.specs.TrackFacts.{IsKept}
use Rattle.composables.specs.TrackState.{TrackState}
use Rattle.composables.proofs.Frames.{frames_in-take_more, frames_in-take_le, no_view}
use Rattle.composables.proofs.Joining.{length-cells_of}

pub place-order : (t : TrackState) (p : Place) → IsPlaceOf t.cells p → p.from ≤ p.to
place-order t p h = omega (arith, h.from, h.to, frames_in-take_more (items_of t.cells) p.index (no_view) h.index)

pub place-within : (t : TrackState) (p : Place) → IsKept t → IsPlaceOf t.cells p → p.to ≤ length t.cells
place-within t p kept h =
    let l : length (cells_of (items_of t.cells)) ≡ length t.cells = ap length kept.whole in
    omega (arith, h.to, frames_in-take_le (p.index + 1) (items_of t.cells), length-cells_of (items_of t.cells), l)
