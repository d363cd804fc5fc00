-- What may be put in place of the record frames [x, y) of a track that is good in a table: items and gaps that stand by
-- themselves, frames by which the item or gap that ends at x goes on, and frames by which the one that begins at y
-- reaches back.
use Rattle.std.specs.Prelude.{◌≡◌, ℕ, ◌+◌, ◌<◌, ◌≤◌, ◌⊎◌, List, [], ◌∷◌, ◌++◌, Some, None, IfSome, take, slice_get}
use Rattle.frame_meaning.specs.Cells.{later_side}
use Rattle.composables.specs.declared.items.ItemView.{ItemView}
use Rattle.composables.specs.declared.media.Table.{Table}
use Rattle.composables.specs.Good.{EachLiesIn, EachLinkOf, SideLiesIn}
use Rattle.composables.specs.Items.{items_of}
use Rattle.composables.specs.Joined.{frames_in}
use Rattle.composables.specs.TrackFacts.{EachHolds, Apart, HasSource, first_mark}
use Rattle.composables.specs.TrackState.{TrackState}
use Rattle.edit_splice.specs.NewItems.{Meet}

-- the item or gap with this index is this one, and takes up the record frames [from, to)
pub record TakesUp (items : List ItemView) (index : ℕ) (view : ItemView) (from to : ℕ) : Type 0 where
  pub read : slice_get items index ≡ Some view
  pub starts : from ≡ frames_in (take index items)
  pub stops : to ≡ frames_in (take (index + 1) items)

-- the item with this number stands within [x, y)
pub record StandsWithin (t : TrackState) (x y number : ℕ) : Type 0 where
  pub index : ℕ
  pub view : ItemView
  pub from : ℕ
  pub to : ℕ
  pub stands : TakesUp (items_of t.cells) index view from to
  pub is : view.item ≡ Some number
  pub begins : x ≤ from
  pub ends : to ≤ y

-- each number is not yet taken, or is that of an item that stands within [x, y), which the splice takes out
abbrev pub AllFree : TrackState → ℕ → ℕ → List ItemView → Type 0
AllFree t x y [] = Unit {0}
AllFree t x y (v ∷ vs) = IfSome v.item (λ i. (t.next_item ≤ i) ⊎ StandsWithin t x y i) × AllFree t x y vs

-- items and gaps that stand by themselves
pub record StandAlone (table : Table) (t : TrackState) (x y : ℕ) (views : List ItemView) : Type 0 where
  pub each : EachHolds views
  pub first : first_mark views ≡ None
  pub meet : Meet views
  pub apart : Apart views
  pub free : AllFree t x y views
  pub ranges : EachLiesIn table views
  pub links : EachLinkOf t.number views

-- frames of a thing that may stand beside others of it
pub record IsPart (table : Table) (view : ItemView) : Type 0 where
  pub filled : 0 < view.len
  pub bare : view.mark ≡ None
  pub source : HasSource view.first view.len 0 0
  pub range : SideLiesIn table view.first view.len 0 0

-- the item or gap that ends at x goes on by these frames
pub record GoesOn (table : Table) (t : TrackState) (x : ℕ) (view : ItemView) : Type 0 where
  pub part : IsPart table view
  pub index : ℕ
  pub before : ItemView
  pub from : ℕ
  pub stands : TakesUp (items_of t.cells) index before from x
  pub item : view.item ≡ before.item
  pub link : view.link ≡ before.link
  pub side : view.first ≡ later_side before.first before.len

-- the item or gap that begins at y reaches back by these frames
pub record ReachesBack (table : Table) (t : TrackState) (y : ℕ) (view : ItemView) : Type 0 where
  pub part : IsPart table view
  pub index : ℕ
  pub after : ItemView
  pub to : ℕ
  pub stands : TakesUp (items_of t.cells) index after y to
  pub item : view.item ≡ after.item
  pub link : view.link ≡ after.link
  pub side : after.first ≡ later_side view.first view.len

-- what may be put in
pub data MayBePutIn (table : Table) (t : TrackState) (x y : ℕ) : List ItemView → Type 0 where
  alone : {views : List ItemView} → StandAlone table t x y views → MayBePutIn table t x y views
  going_on : {view : ItemView} {views : List ItemView} → GoesOn table t x view
      → StandAlone table t x y views → MayBePutIn table t x y (view ∷ views)
  reaching_back : {view : ItemView} {views : List ItemView} → ReachesBack table t y view
      → StandAlone table t x y views → MayBePutIn table t x y (views ++ view ∷ [])
