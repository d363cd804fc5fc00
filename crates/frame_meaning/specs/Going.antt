-- Which frame goes on from which. This project's own: dark after dark; one thing with the next source frame; a mix
-- with both sides going on, one denominator, and the next numerator.
use Rattle.std.specs.Prelude.{◌+◌, Bool, true, false, ◌&&◌, ◌==◌}
use Rattle.frame_meaning.specs.declared.frames.Side.{Side}
use Rattle.frame_meaning.specs.declared.frames.Side.TheVariants as side
use Rattle.frame_meaning.specs.declared.frames.Frame.{Frame}
use Rattle.frame_meaning.specs.declared.frames.Frame.TheVariants as frame
use Rattle.frame_meaning.specs.declared.cells.What.{What}
use Rattle.frame_meaning.specs.declared.cells.What.TheVariants as what

-- whether two things are one
abbrev pub same_what : What → What → Bool
same_what (what.Media m) (what.Media n) = m == n
same_what (what.Media m) (what.Nest j) = false
same_what (what.Nest i) (what.Media n) = false
same_what (what.Nest i) (what.Nest j) = i == j

abbrev pub side_goes_on : {W : Type 0} → (W → W → Bool) → Side W → Side W → Bool
side_goes_on eq side.Dark side.Dark = true
side_goes_on eq side.Dark (side.Pic w t) = false
side_goes_on eq (side.Pic v s) side.Dark = false
side_goes_on eq (side.Pic v s) (side.Pic w t) = eq v w && t == s + 1

abbrev pub frame_goes_on : {W : Type 0} → (W → W → Bool) → Frame W → Frame W → Bool
frame_goes_on eq frame.Dark frame.Dark = true
frame_goes_on eq frame.Dark (frame.Pic w t) = false
frame_goes_on eq frame.Dark (frame.Mix l r n d) = false
frame_goes_on eq (frame.Pic v s) frame.Dark = false
frame_goes_on eq (frame.Pic v s) (frame.Pic w t) = eq v w && t == s + 1
frame_goes_on eq (frame.Pic v s) (frame.Mix l r n d) = false
frame_goes_on eq (frame.Mix l r n d) frame.Dark = false
frame_goes_on eq (frame.Mix l r n d) (frame.Pic w t) = false
frame_goes_on eq (frame.Mix l r n d) (frame.Mix l' r' n' d') =
    ((side_goes_on eq l l' && side_goes_on eq r r') && d == d') && n' == n + 1
