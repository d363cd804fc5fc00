-- Dark places beside an item, over which it may grow.
use Rattle.std.specs.Prelude.{ℕ, zero, suc, ◌+◌, ◌-◌, Bool, true, ◌&&◌, List, None, nat_le}
use Rattle.frame_meaning.specs.declared.cells.Cell.{Cell}
use Rattle.frame_meaning.specs.Cells.{same_number}
use Rattle.frame_meaning.specs.Render.{cell_at}
use Rattle.composables.specs.declared.TheConstants.{MAX_FRAMES}

-- this holds of the first n numbers
abbrev pub all_of : (ℕ → Bool) → ℕ → Bool
all_of f zero = true
all_of f (suc n) = all_of f n && f n

-- no item stands at a place; beyond its end a track is dark
abbrev pub is_dark : List Cell → ℕ → Bool
is_dark cells p = same_number (cell_at cells p).item None

-- the n places before x are there, and dark
abbrev pub dark_before : List Cell → ℕ → ℕ → Bool
dark_before cells x n = nat_le n x && all_of (λ k. is_dark cells (x - suc k)) n

-- the n places from y on are places that a track may have, and dark
abbrev pub dark_behind : List Cell → ℕ → ℕ → Bool
dark_behind cells y n = nat_le (y + n) MAX_FRAMES && all_of (λ k. is_dark cells (y + k)) n
