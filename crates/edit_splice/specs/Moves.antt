-- What a shift does on one track, of which it puts in place of the places [x, y), as far as the track has them, what
-- is new to it.
use Rattle.std.specs.Prelude.{◌+◌, ◌-◌, ◌≤◌, List, [], ◌++◌, map, min, nat_eq, nat_lt, length, if◌then◌else◌}
use Rattle.composables.specs.declared.items.ItemView.{ItemView}
use Rattle.composables.specs.TrackState.{TrackState}
use Rattle.composables.specs.declared.TheConstants.{MAX_FRAMES}
use Rattle.composables.specs.Joined.{AllFilled}
use Rattle.composables.specs.Roomy.{IsRoomy}
use Rattle.composables.specs.TrackFacts.{IsKept, NumbersBelow}
use Rattle.edit_splice.specs.Laws.{IsWithinLimits}
use Rattle.edit_splice.specs.Splicing.{spliced_track}
use Rattle.edit_splice.specs.declared.shifting.Shift.{Shift}
use Rattle.composables.specs.Views.{gap_views}
use Rattle.edit_splice.specs.Padding.{new_len, new_views}

-- on the own track the new item, behind dark frames up to the place; on another dark frames where it has the place
abbrev pub put_views : Shift → TrackState → List ItemView
put_views s t =
    if nat_eq t.number s.own
    then gap_views (s.x - length t.cells) ++ new_views s.new
    else (if nat_lt s.x (length t.cells) then gap_views (new_len s.new) else [])

abbrev pub moved : Shift → TrackState → TrackState
moved s t = spliced_track s.keep t (min s.x (length t.cells)) (min s.y (length t.cells)) (put_views s t)

abbrev pub all_moved : Shift → List TrackState → List TrackState
all_moved s named = map (moved s) named

-- the shift may be made on a track that keeps its limits: within these it leaves a track, and what it puts in has frames
pub record IsShiftOf (s : Shift) (t : TrackState) : Type 0 where
  pub kept : IsKept t
  pub roomy : IsRoomy t
  pub frames : length t.cells ≤ MAX_FRAMES
  pub stays : s.x ≤ s.y → IsWithinLimits (moved s t) → IsKept (moved s t)
  pub filled : AllFilled (put_views s t)
  pub numbers : NumbersBelow (t.next_item + 1) (put_views s t)
