-- Where an item or gap stands.
use Rattle.std.specs.Prelude.{◌≡◌, ℕ, ◌+◌, ◌-◌, ◌<◌, ◌≤◌, List, take, length}
use Rattle.frame_meaning.specs.declared.cells.Cell.{Cell}
use Rattle.composables.specs.declared.items.ItemView.{ItemView}
use Rattle.composables.specs.declared.items.Place.{Place}
use Rattle.composables.specs.Items.{items_of}
use Rattle.composables.specs.Joined.{frames_in}

-- the item or gap with this index takes up the record frames [from, to)
pub record StandsAt (items : List ItemView) (p : Place) : Type 0 where
  pub index : p.index < length items
  pub from : p.from ≡ frames_in (take p.index items)
  pub to : p.to ≡ frames_in (take (p.index + 1) items)

-- and so does one of these behind others: so many items and gaps, and so many frames
pub record StandsBehind (items : List ItemView) (index start : ℕ) (p : Place) : Type 0 where
  pub behind : index ≤ p.index
  pub before : p.index < index + length items
  pub from : p.from ≡ start + frames_in (take (p.index - index) items)
  pub to : p.to ≡ start + frames_in (take (p.index - index + 1) items)

abbrev pub IsPlaceOf : List Cell → Place → Type 0
IsPlaceOf cells p = StandsAt (items_of cells) p
