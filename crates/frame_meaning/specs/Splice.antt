-- A splice puts cells in place of the places [x, y). What becomes of a mark is said by a rule; the mark's place moves
-- with its cell. If one item stood on both sides, its cells on the right take a new number.
use Rattle.std.specs.Prelude.{ℕ, ◌+◌, ◌-◌, Bool, true, false, ◌&&◌, ◌||◌, List, [], ◌∷◌, ◌++◌, Option, Some, None, map, min, take, drop, nat_le, nat_lt, length, if◌then◌else◌}
use Rattle.frame_meaning.specs.declared.cells.Mark.{Mark}
use Rattle.frame_meaning.specs.declared.cells.Cell.{Cell}
use Rattle.frame_meaning.specs.Cells.{same_number, belong}
use Rattle.frame_meaning.specs.Render.{cell_at}

-- what becomes of a mark at a place, under a splice of [x, y): `rule x y place mark`
abbrev pub Rule : Type 0
Rule = ℕ → ℕ → ℕ → Mark → Option Mark

-- a mark at place p survives a splice of [x, y): its cut is before x and its footprint ends by x, or its cut is past y
-- and its footprint begins at y or later
abbrev pub survives : ℕ → ℕ → ℕ → Mark → Bool
survives x y p m = (nat_lt p x && nat_le (p + m.b) x) || (nat_lt y p && nat_le (y + m.a) p)

-- a mark that survives stays as it is, and each other is dropped
abbrev pub kept_or_dropped : Rule
kept_or_dropped x y p m = if survives x y p m then Some m else None

-- a mark before the range keeps the frames after its cut as far as the range leaves them, one behind it the frames before
-- its cut as far; one that stands within the range, or at one of its ends, is dropped
abbrev pub shortened : Rule
shortened x y p m =
    if nat_lt p x
    then Some (record m { b = min m.b (x - p) })
    else (if nat_lt y p then Some (record m { a = min m.a (p - y) }) else None)

-- the rule of a splice that keeps dissolves as far as there is room for them, or of one that does not
abbrev pub rule_of : Bool → Rule
rule_of true = shortened
rule_of false = kept_or_dropped

abbrev pub mark_under : Rule → ℕ → ℕ → ℕ → Option Mark → Option Mark
mark_under rule x y p None = None
mark_under rule x y p (Some m) = rule x y p m

-- the cells with their marks by the rule, where the first of them stands at place p
abbrev pub with_marks : Rule → ℕ → ℕ → ℕ → List Cell → List Cell
with_marks rule x y p [] = []
with_marks rule x y p (c ∷ cs) = record c { mark = mark_under rule x y p c.mark } ∷ with_marks rule x y (p + 1) cs

-- the cells of an item take a new number
abbrev pub renumbered : Option ℕ → ℕ → Cell → Cell
renumbered None fresh c = c
renumbered (Some i) fresh c = if same_number c.item (Some i) then record c { item = Some fresh } else c

-- the item that stands on both sides of [x, y), if there is one
abbrev pub split_item : List Cell → ℕ → ℕ → Option ℕ
split_item cells x y =
    if (nat_lt 0 x && nat_lt y (length cells)) && belong (cell_at cells (x - 1)) (cell_at cells y)
    then (cell_at cells y).item
    else None

-- the cells after the splice, where fresh is the number for an item that is split: those before x, those put in, and
-- those from y on
abbrev pub spliced : Rule → List Cell → ℕ → ℕ → List Cell → ℕ → List Cell
spliced rule cells x y middle fresh =
    take x (with_marks rule x y 0 cells) ++ middle ++ map (renumbered (split_item cells x y) fresh) (drop y (with_marks rule x y 0 cells))

-- the next item number after it
abbrev pub next_after_splice : List Cell → ℕ → ℕ → ℕ → ℕ
next_after_splice cells x y fresh = next_after_split (split_item cells x y) fresh where
  next_after_split : Option ℕ → ℕ → ℕ
  next_after_split None fresh = fresh
  next_after_split (Some i) fresh = fresh + 1
