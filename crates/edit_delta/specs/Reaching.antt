-- Cells that go on, or reach back, by some frames: an item with its number and link, and a gap as dark cells.
use Rattle.std.specs.Prelude.{ℕ, ◌+◌, Bool, true, false, Option, Some, None, nat_le, nat_lt}
use Rattle.frame_meaning.specs.declared.cells.What.{What}
use Rattle.frame_meaning.specs.declared.cells.Cell.{Cell}
use Rattle.frame_meaning.specs.declared.frames.Side.{Side}
use Rattle.frame_meaning.specs.declared.frames.Side.TheVariants.{Dark, Pic}
use Rattle.frame_meaning.specs.Cells.{next_side}
use Rattle.composables.specs.declared.items.ItemView.{ItemView}
use Rattle.composables.specs.declared.media.Table.{Table}
use Rattle.composables.specs.Views.{earlier_side}
use Rattle.composables.specs.Bounds.{bounds_of}

-- n source frames after this one lie in the range of its thing
abbrev pub has_after_in : Option (ℕ × ℕ) → ℕ → ℕ → Bool
has_after_in None source n = false
has_after_in (Some (from, to)) source n = nat_lt (source + n) to

abbrev pub has_after : Table → Side What → ℕ → Bool
has_after table Dark n = true
has_after table (Pic what source) n = has_after_in (bounds_of table what) source n

-- n source frames before this one lie in the range of its thing
abbrev pub has_before_in : Option (ℕ × ℕ) → ℕ → ℕ → Bool
has_before_in None source n = false
has_before_in (Some (from, to)) source n = nat_le (from + n) source

abbrev pub has_before : Table → Side What → ℕ → Bool
has_before table Dark n = true
has_before table (Pic what source) n = has_before_in (bounds_of table what) source n

-- n frames by which what this cell belongs to goes on after it
abbrev pub going_on : Cell → ℕ → ItemView
going_on c n = record { item = c.item; first = next_side c.side; len = n; mark = None; link = c.link }

-- n frames by which it reaches back before it
abbrev pub reaching_back : Cell → ℕ → ItemView
reaching_back c n = record { item = c.item; first = earlier_side c.side n; len = n; mark = None; link = c.link }

-- an item or gap on [x, y) keeps a cell where it gives up n of them
abbrev pub keeps_a_cell : ℕ → ℕ → ℕ → Bool
keeps_a_cell x y n = nat_lt (x + n) y
