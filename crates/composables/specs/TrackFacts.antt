-- What every track keeps, whatever the table says.
use Rattle.std.specs.Prelude.{◌≡◌, ◌≢◌, ℕ, ◌+◌, ◌<◌, ◌≤◌, ◌^◌, List, [], ◌∷◌, Option, Some, None, IfSome, length}
use Rattle.frame_meaning.specs.declared.cells.What.{What}
use Rattle.frame_meaning.specs.declared.cells.What.TheVariants.{Media, Nest}
use Rattle.frame_meaning.specs.declared.cells.Mark.{Mark}
use Rattle.frame_meaning.specs.declared.cells.Link.{Link}
use Rattle.frame_meaning.specs.declared.frames.Side.{Side}
use Rattle.frame_meaning.specs.declared.frames.Side.TheVariants.{Dark, Pic}
use Rattle.composables.specs.declared.items.ItemView.{ItemView}
use Rattle.composables.specs.Items.{cells_of, items_of}
use Rattle.composables.specs.TrackState.{TrackState}

-- an item shows a thing; what belongs to no item is dark and has no link
abbrev pub ShowsAsItem : Option ℕ → Side What → Option Link → Type 0
ShowsAsItem None Dark None = Unit {0}
ShowsAsItem None Dark (Some l) = ⊥
ShowsAsItem None (Pic w s) l = ⊥
ShowsAsItem (Some i) Dark l = ⊥
ShowsAsItem (Some i) (Pic w s) l = Unit {0}

-- no item of these has this number
abbrev pub Lacks : ℕ → List ItemView → Type 0
Lacks i [] = Unit {0}
Lacks i (v ∷ vs) = (v.item ≢ Some i) × Lacks i vs

-- no two items have one number
abbrev pub Apart : List ItemView → Type 0
Apart [] = Unit {0}
Apart (v ∷ vs) = IfSome v.item (λ i. Lacks i vs) × Apart vs

-- how far a mark reaches to the left of its cut, and to the right
abbrev pub left_reach : Option Mark → ℕ
left_reach None = 0
left_reach (Some m) = m.a

abbrev pub right_reach : Option Mark → ℕ
right_reach None = 0
right_reach (Some m) = m.b

-- a mark has a frame
abbrev pub IsFilled : Option Mark → Type 0
IsFilled None = Unit {0}
IsFilled (Some m) = 0 < m.a + m.b

-- a picture has source frames from 0 to 4,294,967,295, with this many before its first frame and after its last
abbrev pub HasSource : Side What → ℕ → ℕ → ℕ → Type 0
HasSource Dark len before after = Unit {0}
HasSource (Pic w s) len before after = (before ≤ s) × (s + len + after ≤ 2 ^ 32)

-- a side of a marked cut is no nest
abbrev pub IsNoNest : Side What → Option Mark → Type 0
IsNoNest side None = Unit {0}
IsNoNest Dark (Some m) = Unit {0}
IsNoNest (Pic (Media n) s) (Some m) = Unit {0}
IsNoNest (Pic (Nest j) s) (Some m) = ⊥

-- an item or gap between the mark at its head and the mark at its tail, if there are any. The footprints lie within
-- it on its side of each cut, and do not meet.
pub record Holds (v : ItemView) (tail : Option Mark) : Type 0 where
  pub filled : 0 < v.len
  pub shows : ShowsAsItem v.item v.first v.link
  pub mark_filled : IsFilled v.mark
  pub room : right_reach v.mark + left_reach tail ≤ v.len
  pub source : HasSource v.first v.len (left_reach v.mark) (right_reach tail)
  pub head_no_nest : IsNoNest v.first v.mark
  pub tail_no_nest : IsNoNest v.first tail

abbrev pub first_mark : List ItemView → Option Mark
first_mark [] = None
first_mark (v ∷ vs) = v.mark

abbrev pub EachHolds : List ItemView → Type 0
EachHolds [] = Unit {0}
EachHolds (v ∷ vs) = Holds v (first_mark vs) × EachHolds vs

-- each item's number is below this one
abbrev pub NumbersBelow : ℕ → List ItemView → Type 0
NumbersBelow next [] = Unit {0}
NumbersBelow next (v ∷ vs) = IfSome v.item (λ i. i < next) × NumbersBelow next vs

-- what every track keeps
pub record IsKept (t : TrackState) : Type 0 where
  -- the cells of an item show one thing with consecutive source frames and have one link, and a mark stands at a cut
  pub whole : cells_of (items_of t.cells) ≡ t.cells
  pub not_before : first_mark (items_of t.cells) ≡ None
  pub each : EachHolds (items_of t.cells)
  -- the cells of an item follow one another without a break
  pub apart : Apart (items_of t.cells)
  pub below : NumbersBelow t.next_item (items_of t.cells)
  pub short : length t.cells < 2 ^ 32
