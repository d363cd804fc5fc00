-- What every track keeps, as an editor says it: the frames of an item are consecutive source frames of one thing, with
-- one link, and dissolves stand at cuts.
use Rattle.std.specs.Prelude.{◌≡◌, ℕ, ◌+◌, true, Some, None, slice_get}
use Rattle.frame_meaning.specs.declared.cells.Cell.{Cell}
use Rattle.frame_meaning.specs.declared.cells.Mark.{Mark}
use Rattle.frame_meaning.specs.Cells.{belong, next_side}
use Rattle.composables.specs.Ranges.{is_cut}
use Rattle.composables.specs.TrackFacts.{IsKept}
use Rattle.composables.specs.TrackState.{TrackState}

-- a cell shows what comes next: the next source frame of one thing, or dark after dark; it has the same link, and no
-- dissolve stands between the two
pub record GoesOn (c d : Cell) : Type 0 where
  pub side : d.side ≡ next_side c.side
  pub link : d.link ≡ c.link
  pub unmarked : d.mark ≡ None

-- of two cells side by side that belong to one item, or one gap, the later goes on from the earlier
abbrev pub ItemsGoOn : Type 0
ItemsGoOn = (t : TrackState) (p : ℕ) (c d : Cell) → IsKept t → slice_get t.cells p ≡ Some c → slice_get t.cells (p + 1) ≡ Some d
    → belong c d ≡ true → GoesOn c d

-- a place with a dissolve is a cut
abbrev pub DissolvesStandAtCuts : Type 0
DissolvesStandAtCuts = (t : TrackState) (p : ℕ) (c : Cell) (m : Mark) → IsKept t → slice_get t.cells p ≡ Some c → c.mark ≡ Some m
    → is_cut t.cells p ≡ true
