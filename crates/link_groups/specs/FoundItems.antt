-- Items that were looked for once, one on each track: what is said of them where they are to be linked.
use Rattle.std.specs.Prelude.{◌≡◌, ℕ, ℤ, List, [], ◌∷◌, Option, Some, None, slice_get, is_some, if◌then◌else◌}
use Rattle.std.specs.Ordering.{int_eq}
use Rattle.composables.specs.declared.refusals.Refusal.{Refusal}
use Rattle.composables.specs.declared.refusals.Refusal.TheVariants.{AlreadyLinked, OffsetsDiffer}
use Rattle.composables.specs.Items.{items_of}
use Rattle.composables.specs.Ranges.{offset_of}
use Rattle.composables.specs.TrackState.{TrackState}
use Rattle.link_groups.specs.declared.finding.FoundItem.{FoundItem}
use Rattle.link_groups.specs.LinkedItems.{item_of}
use Rattle.link_groups.specs.Linking.{shown_offset}

-- this is the item of a track with this number
pub record IsFound (t : TrackState) (i : ℕ) (f : FoundItem) : Type 0 where
  pub found : item_of t i ≡ Some (f.from, f.view)
  pub read : slice_get (items_of t.cells) f.index ≡ Some f.view
  pub number : f.view.item ≡ Some i

-- the first of these are the items with these numbers, one of each track
abbrev pub AreFound : List TrackState → List ℕ → List FoundItem → Type 0
AreFound [] [] fs = Unit {0}
AreFound [] (i ∷ is) fs = ⊥
AreFound (t ∷ ts) [] fs = ⊥
AreFound (t ∷ ts) (i ∷ is) [] = ⊥
AreFound (t ∷ ts) (i ∷ is) (f ∷ fs) = IsFound t i f × AreFound ts is fs

-- its offset
abbrev pub offset_found : FoundItem → ℤ
offset_found f = shown_offset (offset_of f.view.first f.from)

-- the first of these items whose offset is not this one
abbrev pub other_found : ℤ → List FoundItem → Option Refusal
other_found first [] = None
other_found first (f ∷ fs) =
    if int_eq (offset_found f) first then other_found first fs else Some (OffsetsDiffer first (offset_found f))

-- the first whose offset is not the first item's
abbrev pub found_differ : List FoundItem → Option Refusal
found_differ [] = None
found_differ (f ∷ fs) = other_found (offset_found f) (f ∷ fs)

-- the first of these items that has a link
abbrev pub already_found : List TrackState → List ℕ → List FoundItem → Option Refusal
already_found [] is fs = None
already_found (t ∷ ts) [] fs = None
already_found (t ∷ ts) (i ∷ is) [] = None
already_found (t ∷ ts) (i ∷ is) (f ∷ fs) =
    if is_some f.view.link then Some (AlreadyLinked t.number i) else already_found ts is fs
