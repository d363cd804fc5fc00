-- How many items and gaps there are where those that belong together and meet are one.
use Rattle.std.specs.Prelude.{ℕ, ◌+◌, ◌-◌, Bool, false, List, [], ◌∷◌, Option, Some, None, map, if◌then◌else◌}
use Rattle.frame_meaning.specs.Cells.{same_number}
use Rattle.composables.specs.declared.items.ItemView.{ItemView}
use Rattle.edit_splice.specs.declared.seams.ItemAt.{ItemAt}
use Rattle.edit_splice.specs.Parts.{renumbered_view}

-- the number of each, which a gap has not
abbrev pub numbers : List ItemView → List (Option ℕ)
numbers views = map (λ (v : ItemView). v.item) views

-- one with this number belongs to the one before it, if there is one
abbrev pub belongs : Option (Option ℕ) → Option ℕ → Bool
belongs None number = false
belongs (Some before) number = same_number before number

-- how many of these do not belong to the one before
abbrev pub begun : Option (Option ℕ) → List (Option ℕ) → ℕ
begun before [] = 0
begun before (n ∷ ns) = (if belongs before n then 0 else 1) + begun (Some n) ns

-- the number of what stands at an end of a range, and how many items and gaps there are up to it, and after it of this
-- many
abbrev pub number_of : Option ItemAt → Option (Option ℕ)
number_of None = None
number_of (Some h) = Some h.view.item

abbrev pub count_by : Option ItemAt → ℕ
count_by None = 0
count_by (Some h) = h.index + 1

abbrev pub count_past : Option ItemAt → ℕ → ℕ
count_past None count = 0
count_past (Some h) count = count - (h.index + 1)

-- the number of the part behind the range, if there is one
abbrev pub back_number : Option ItemAt → Option ℕ → ℕ → Option (Option ℕ)
back_number None split fresh = None
back_number (Some h) split fresh = Some (renumbered_view split fresh h.view).item
