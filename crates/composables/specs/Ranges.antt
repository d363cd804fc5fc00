-- Record frames of items and gaps, and cuts between them.
use Rattle.std.specs.Prelude.{◌≡◌, ℕ, ◌+◌, ◌-◌, Bool, not, ◌&&◌, ℤ, pos, ◌-ℤ◌, List, [], ◌∷◌, Option, Some, None, Result, Err, IfSome, nat_lt, length, slice_get, if◌then◌else◌}
use Rattle.frame_meaning.specs.declared.cells.What.{What}
use Rattle.frame_meaning.specs.declared.cells.Cell.{Cell}
use Rattle.frame_meaning.specs.declared.frames.Side.{Side}
use Rattle.frame_meaning.specs.declared.frames.Side.TheVariants.{Dark, Pic}
use Rattle.frame_meaning.specs.Cells.{same_number, belong}
use Rattle.frame_meaning.specs.Render.{cell_at}
use Rattle.composables.specs.declared.items.ItemView.{ItemView}
use Rattle.composables.specs.declared.refusals.Refusal.{Refusal}
use Rattle.composables.specs.declared.refusals.Refusal.TheVariants.{NoItem}
use Rattle.composables.specs.Items.{items_of}

-- the frames [x, y) of the item with this number, where the first of these items and gaps begins at x
abbrev pub range_from : ℕ → List ItemView → ℕ → Option (ℕ × ℕ)
range_from x [] i = None
range_from x (v ∷ vs) i = if same_number v.item (Some i) then Some (x, x + v.len) else range_from (x + v.len) vs i

-- the record frames [x, y) of the item with this number, if there is one
abbrev pub range_of : List Cell → ℕ → Option (ℕ × ℕ)
range_of cells i = range_from 0 (items_of cells) i

-- what is meant on the record frames [x, y) of an item, which must be there
abbrev pub on_range : {A : Type 0} → (ℕ → ℕ → Result A Refusal) → Option (ℕ × ℕ) → Result A Refusal
on_range meant None = Err NoItem
on_range meant (Some (x, y)) = meant x y

-- the item with this index, if it has one, has this number
abbrev pub HasNumber : List ItemView → ℕ → ℕ → Type 0
HasNumber items index i = IfSome (slice_get items index) (λ v. v.item ≡ Some i)

-- the frames [x, y) of the gap that holds a place q frames behind the first of these
abbrev pub gap_from : ℕ → List ItemView → ℕ → Option (ℕ × ℕ)
gap_from x [] q = None
gap_from x (v ∷ vs) q =
    if nat_lt q v.len
    then (if same_number v.item None then Some (x, x + v.len) else None)
    else gap_from (x + v.len) vs (q - v.len)

-- the record frames [x, y) of the gap that holds a place, if a gap does
abbrev pub gap_at : List Cell → ℕ → Option (ℕ × ℕ)
gap_at cells q = gap_from 0 (items_of cells) q

-- a cut stands at a place: the cells before it and from it on do not belong together
abbrev pub is_cut : List Cell → ℕ → Bool
is_cut cells p = (nat_lt 0 p && nat_lt p (length cells)) && not (belong (cell_at cells (p - 1)) (cell_at cells p))

-- the offset of what begins at a record frame: that frame less the source frame shown there, and none of a gap
abbrev pub offset_of : Side What → ℕ → Option ℤ
offset_of Dark x = None
offset_of (Pic what source) x = Some (pos x -ℤ pos source)
