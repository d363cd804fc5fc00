-- Items and gaps by themselves, and parts of them.
use Rattle.std.specs.Prelude.{ℕ, ◌-◌, List, [], ◌∷◌, Some, None, nat_eq, if◌then◌else◌}
use Rattle.frame_meaning.specs.declared.cells.What.{What}
use Rattle.frame_meaning.specs.declared.frames.Side.{Side}
use Rattle.frame_meaning.specs.declared.frames.Side.TheVariants.{Dark, Pic}
use Rattle.frame_meaning.specs.Cells.{later_side}
use Rattle.composables.specs.declared.items.ItemView.{ItemView}

-- a gap of n frames
abbrev pub gap_view : ℕ → ItemView
gap_view n = record { item = None; first = Dark; len = n; mark = None; link = None }

-- the same, and nothing where n is 0
abbrev pub gap_views : ℕ → List ItemView
gap_views n = if nat_eq n 0 then [] else gap_view n ∷ []

-- an item with this number, which shows len source frames of a thing from one on
abbrev pub clip_view : ℕ → What → ℕ → ℕ → ItemView
clip_view number what from len = record { item = Some number; first = Pic what from; len = len; mark = None; link = None }

-- what a side showed n frames earlier
abbrev pub earlier_side : Side What → ℕ → Side What
earlier_side Dark n = Dark
earlier_side (Pic what source) n = Pic what (source - n)

-- the first n frames of an item or gap
abbrev pub first_view : ItemView → ℕ → ItemView
first_view v n = record v { len = n }

-- an item or gap without its first n frames, and without a dissolve before it
abbrev pub later_view : ItemView → ℕ → ItemView
later_view v n = record v { first = later_side v.first n; len = v.len - n; mark = None }
