-- A roll and a slide leave the length of their track as it is.
use Rattle.std.proofs.Common.{◌+◌, ◌-◌, [], ◌∷◌, arith, false}
use Rattle.frame_meaning.specs.Render.{cell_at}
use Rattle.edit_delta.specs.Reaching.{going_on, reaching_back}
use Rattle.edit_splice.proofs.Outcomes.{length-spliced_track}
use Rattle.edit_roll.specs.Lengths.{RollsKeepTheLength, SlidesKeepTheLength}
use Rattle.edit_roll.specs.Sliding.{bare_item}

pub roll-lengths : RollsKeepTheLength
roll-lengths t at n inside = (
  λ le. omega (arith, length-spliced_track false t at (at + n) (going_on (cell_at t.cells (at - 1)) n ∷ []) (omega arith) le, le),
  λ le. omega (arith, length-spliced_track false t (at - n) at (reaching_back (cell_at t.cells at) n ∷ []) (omega arith) inside, le, inside),
)

pub slide-lengths : SlidesKeepTheLength
slide-lengths t x y n order inside = (
  λ le. omega (arith, length-spliced_track false t x (y + n) (going_on (cell_at t.cells (x - 1)) n ∷ bare_item (cell_at t.cells x) (y - x) ∷ []) (omega (arith, order)) le, le, order),
  λ le. omega (arith, length-spliced_track false t (x - n) y (bare_item (cell_at t.cells x) (y - x) ∷ reaching_back (cell_at t.cells y) n ∷ []) (omega (arith, order)) inside, le, order, inside),
)
