-- What every splice leaves, as laws over all tracks.
use Rattle.std.specs.Prelude.{◌≡◌, ◌+◌, ◌-◌, ◌<◌, ◌≤◌, ◌^◌, ℕ, Bool, List, length, true}
use Rattle.frame_meaning.specs.declared.cells.Cell.{Cell}
use Rattle.frame_meaning.specs.Marks.{covers}
use Rattle.frame_meaning.specs.Render.{cell_at}
use Rattle.frame_meaning.specs.Splice.{Rule, mark_under, renumbered, split_item, spliced}
use Rattle.composables.specs.declared.items.ItemView.{ItemView}
use Rattle.composables.specs.declared.media.Table.{Table}
use Rattle.composables.specs.declared.TheConstants.{MAX_FRAMES, MAX_ITEMS}
use Rattle.composables.specs.Good.{AllUnlinked, IsGood}
use Rattle.composables.specs.Items.{items_of}
use Rattle.composables.specs.Joined.{frames_in}
use Rattle.composables.specs.TrackFacts.{IsKept, NumbersBelow}
use Rattle.composables.specs.TrackState.{TrackState}
use Rattle.edit_splice.specs.NewItems.{AreNew, AreNewFor}
use Rattle.edit_splice.specs.PutIn.{MayBePutIn}
use Rattle.edit_splice.specs.Splicing.{spliced_track}

-- it has at most as many frames, and as many items and gaps, as a track may have
pub record IsWithinLimits (t : TrackState) : Type 0 where
  pub frames : length t.cells ≤ MAX_FRAMES
  pub items : length (items_of t.cells) ≤ MAX_ITEMS

-- new items in place of a range of a track leave a track
abbrev pub NewItemsMayBePutIn : Type 0
NewItemsMayBePutIn = (keep : Bool) (t : TrackState) (x y : ℕ) (views : List ItemView) → IsKept t
    → x ≤ y → y ≤ length t.cells → AreNew t.next_item views → length t.cells + frames_in views < 2 ^ 32
    → IsKept (spliced_track keep t x y views)

-- within the limits a track that is good in a table is good in it with new items in place of a range
abbrev pub GoodStaysGood : Type 0
GoodStaysGood = (keep : Bool) (table : Table) (t : TrackState) (x y : ℕ) (views : List ItemView) → IsGood table t
    → x ≤ y → y ≤ length t.cells → AreNewFor table t views → IsWithinLimits (spliced_track keep t x y views)
    → IsGood table (spliced_track keep t x y views)

-- and with all that may be put in: also with items that stood within the range, where the item or gap before it goes on,
-- and where the one behind it reaches back
abbrev pub GoodTakesParts : Type 0
GoodTakesParts = (keep : Bool) (table : Table) (t : TrackState) (x y : ℕ) (views : List ItemView) → IsGood table t
    → x ≤ y → y ≤ length t.cells → MayBePutIn table t x y views → IsWithinLimits (spliced_track keep t x y views)
    → IsGood table (spliced_track keep t x y views)

-- new items may be put in
abbrev pub NewMayBePutIn : Type 0
NewMayBePutIn = (table : Table) (t : TrackState) (x y : ℕ) (views : List ItemView) → AreNewFor table t views
    → MayBePutIn table t x y views

-- where the numbers of what is put in are below the next item number and n, that rises by n and one more at most
abbrev pub NumbersRise : Type 0
NumbersRise = (keep : Bool) (t : TrackState) (x y n : ℕ) (views : List ItemView)
    → NumbersBelow (t.next_item + n) views
    → (t.next_item ≤ (spliced_track keep t x y views).next_item) ×
    ((spliced_track keep t x y views).next_item ≤ t.next_item + n + 1)

-- a track without links has none after items without links were put in
abbrev pub UnlinkedStaysUnlinked : Type 0
UnlinkedStaysUnlinked = (keep : Bool) (t : TrackState) (x y : ℕ) (views : List ItemView) → IsKept t
    → AllUnlinked (items_of t.cells) → AllUnlinked views
    → AllUnlinked (items_of (spliced_track keep t x y views).cells)

-- it has the frames before the range, those put in, and those behind it
abbrev pub LengthsAdd : Type 0
LengthsAdd = (keep : Bool) (t : TrackState) (x y : ℕ) (views : List ItemView) → x ≤ y → y ≤ length t.cells
    → length (spliced_track keep t x y views).cells ≡ x + frames_in views + (length t.cells - y)

-- the cell at a place, with its mark by the rule
abbrev pub ruled_cell : Rule → List Cell → ℕ → ℕ → ℕ → Cell
ruled_cell rule cells x y p =
    record (cell_at cells p) { mark = mark_under rule x y p (cell_at cells p).mark }

-- what stands at each place after a splice: before the range the cells stay, with their marks by the rule
abbrev pub CellsBefore : Type 0
CellsBefore = (rule : Rule) (cells : List Cell) (x y : ℕ) (middle : List Cell) (fresh p : ℕ)
    → x ≤ length cells → p < x
    → cell_at (spliced rule cells x y middle fresh) p ≡ ruled_cell rule cells x y p

-- between stand the cells put in
abbrev pub CellsBetween : Type 0
CellsBetween = (rule : Rule) (cells : List Cell) (x y : ℕ) (middle : List Cell) (fresh q : ℕ)
    → x ≤ length cells → q < length middle
    → cell_at (spliced rule cells x y middle fresh) (x + q) ≡ cell_at middle q

-- the cell at a place p behind the range moves to p - y behind those put in, with its mark by the rule at p
abbrev pub CellsBehind : Type 0
CellsBehind = (rule : Rule) (cells : List Cell) (x y : ℕ) (middle : List Cell) (fresh p : ℕ)
    → x ≤ length cells → y ≤ p → p < length cells
    → cell_at (spliced rule cells x y middle fresh) (x + length middle + (p - y))
    ≡ renumbered (split_item cells x y) fresh (ruled_cell rule cells x y p)

-- a place lies in the footprint of at most one dissolve of a track
abbrev pub OneFootprint : Type 0
OneFootprint = (t : TrackState) (p other q : ℕ) → IsKept t
    → covers (cell_at t.cells p).mark p q ≡ true → covers (cell_at t.cells other).mark other q ≡ true
    → p ≡ other
