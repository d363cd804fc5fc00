-- What an edit by a delta puts into a track: frames by which an item or gap grows, a gap, or an item that it moves.
use Rattle.std.specs.Prelude.{ℕ, ◌+◌, ◌-◌, ◌<◌, ◌≤◌, List, length}
use Rattle.composables.specs.declared.items.ItemView.{ItemView}
use Rattle.composables.specs.declared.media.Table.{Table}
use Rattle.composables.specs.declared.TheConstants.{MAX_FRAMES}
use Rattle.composables.specs.Good.{SideLiesIn}
use Rattle.composables.specs.Joined.{AllFilled, frames_in}
use Rattle.composables.specs.TrackFacts.{HasSource, NumbersBelow}
use Rattle.composables.specs.TrackState.{TrackState}
use Rattle.edit_splice.specs.PutIn.{MayBePutIn}

-- at most two, that may be put in place of [x, y), with numbers that the track has given away; it does not become too
-- long
pub record AreParts (table : Table) (t : TrackState) (x y : ℕ) (views : List ItemView) : Type 0 where
  pub order : x ≤ y
  pub within : y ≤ length t.cells
  pub few : length views ≤ 2
  pub filled : AllFilled views
  pub may : MayBePutIn table t x y views
  pub numbers : NumbersBelow t.next_item views
  pub short : x + frames_in views + (length t.cells - y) ≤ MAX_FRAMES

-- an item or gap has a frame, and what it shows lies in the range of its thing
pub record IsWhole (table : Table) (v : ItemView) : Type 0 where
  pub filled : 0 < v.len
  pub lies : SideLiesIn table v.first v.len 0 0
  pub source : HasSource v.first v.len 0 0
