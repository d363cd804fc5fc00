-- What the steps of a roll and of a slide find: the items or gaps beside record frames, and what may move between them.
use Rattle.std.specs.Prelude.{◌≡◌, ℕ, ◌-◌, ◌<◌, Bool, true, ◌&&◌, List, Some, nat_lt, take, slice_get, ℤ}
use Rattle.frame_meaning.specs.declared.cells.Cell.{Cell}
use Rattle.frame_meaning.specs.Cells.{later_side}
use Rattle.composables.specs.declared.items.ItemView.{ItemView}
use Rattle.composables.specs.declared.media.Table.{Table}
use Rattle.composables.specs.Items.{items_of}
use Rattle.composables.specs.Joined.{frames_in}
use Rattle.composables.specs.TrackFacts.{HasSource}
use Rattle.edit_delta.specs.declared.deltas.Way.{Way}
use Rattle.edit_delta.specs.declared.deltas.Way.TheVariants.{Still, Later, Earlier}
use Rattle.edit_delta.specs.Nearest.{by_sign}
use Rattle.edit_delta.specs.Reaching.{has_after, has_before}
use Rattle.edit_roll.specs.declared.neighbours.Sides.{Sides}

-- the items or gaps before the one with the index from, and with the index to
pub record AreBeside (items : List ItemView) (from to : ℕ) (s : Sides) : Type 0 where
  pub some : 0 < from
  pub left : slice_get items (from - 1) ≡ Some s.left
  pub right : slice_get items to ≡ Some s.right

-- those at the sides of the record frames [x, y)
pub record StandBeside (cells : List Cell) (x y : ℕ) (s : Sides) : Type 0 where
  pub from : ℕ
  pub to : ℕ
  pub beside : AreBeside (items_of cells) from to s
  pub ends : x ≡ frames_in (take from (items_of cells))
  pub begins : y ≡ frames_in (take to (items_of cells))

-- the deltas that are allowed between two neighbours, by the neighbours themselves
abbrev pub fits_later : Table → ItemView → ItemView → ℕ → Bool
fits_later table l r n = nat_lt n r.len && has_after table (later_side l.first (l.len - 1)) n

abbrev pub fits_earlier : Table → ItemView → ItemView → ℕ → Bool
fits_earlier table l r n = nat_lt n l.len && has_before table r.first n

abbrev pub fits_between : Table → ItemView → ItemView → ℤ → Bool
fits_between table l r = by_sign (fits_later table l r) (fits_earlier table l r)

-- a delta between two neighbours, by its way: its frames are some, they fit, and those by which the first one goes on
-- have numbers
abbrev pub FitsBetween : Table → ItemView → ItemView → Way → Type 0
FitsBetween table l r Still = Unit {0}
FitsBetween table l r (Later n) = (0 < n) × (n < r.len) × (has_after table (later_side l.first (l.len - 1)) n ≡ true) × HasSource l.first l.len 0 n
FitsBetween table l r (Earlier n) = (0 < n) × (n < l.len) × (has_before table r.first n ≡ true)
