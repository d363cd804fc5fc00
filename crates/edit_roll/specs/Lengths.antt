-- A roll and a slide leave the length of their track as it is.
use Rattle.std.specs.Prelude.{◌≡◌, ℕ, ◌+◌, ◌≤◌, length}
use Rattle.composables.specs.TrackState.{TrackState}
use Rattle.edit_roll.specs.Rolling.{rolled_earlier, rolled_later}
use Rattle.edit_roll.specs.Sliding.{slid_earlier, slid_later}

abbrev pub RollsKeepTheLength : Type 0
RollsKeepTheLength = (t : TrackState) (at n : ℕ) → at ≤ length t.cells
    → (at + n ≤ length t.cells → length (rolled_later t at n).cells ≡ length t.cells)
    × (n ≤ at → length (rolled_earlier t at n).cells ≡ length t.cells)

abbrev pub SlidesKeepTheLength : Type 0
SlidesKeepTheLength = (t : TrackState) (x y n : ℕ) → x ≤ y → y ≤ length t.cells
    → (y + n ≤ length t.cells → length (slid_later t x y n).cells ≡ length t.cells)
    × (n ≤ x → length (slid_earlier t x y n).cells ≡ length t.cells)
