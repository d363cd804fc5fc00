-- What links are marked.
use Rattle.std.specs.Prelude.{ℕ, Bool, false, ◌||◌, List, Vec, Option, Some, None, slice_get}
use Rattle.std.specs.Global.{Global}
use Rattle.std.specs.BTreeSet.{contains}
use Rattle.link_groups.specs.declared.link_marks.LinkMarks.{LinkMarks}
use Rattle.link_groups.specs.Splits.{key_cmp}

-- a mark that may be there
abbrev pub is_set : Option Bool → Bool
is_set None = false
is_set (Some b) = b

-- a row has a mark at this number
abbrev pub row_has : List Bool → ℕ → Bool
row_has row n = is_set (slice_get row n)

-- and so does a row that may be there
abbrev pub in_row : Option (Vec Bool Global) → ℕ → Bool
in_row None n = false
in_row (Some row) n = row_has row.items n

-- the link with this home and number is marked, in the row of its home or among the others
abbrev pub is_marked : LinkMarks → ℕ × ℕ → Bool
is_marked m q = in_row (slice_get m.rows.items q.0) q.1 || contains key_cmp m.others q
