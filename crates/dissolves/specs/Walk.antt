-- A walk over the frames of a track from the front, which makes the runs of those in [a, b).
use Rattle.std.specs.Prelude.{◌≡◌, ℕ, ◌-◌, ◌≤◌, List, ◌++◌, length}
use Rattle.frame_meaning.specs.declared.cells.What.{What}
use Rattle.frame_meaning.specs.declared.frames.Frame.{Frame}
use Rattle.frame_meaning.specs.declared.frames.Run.{Run}
use Rattle.frame_meaning.specs.Going.{same_what}
use Rattle.frame_meaning.specs.Runs.{runs}
use Rattle.dissolves.specs.Pieces.{cut}

-- of all frames the runs of those in [a, b) before the place from are made, and the rest begins there
pub record Walked (shown : List (Run What)) (from a b : ℕ) (rest all : List (Frame What)) : Type 0 where
  pub passed : List (Frame What)
  pub are : shown ≡ runs same_what passed
  pub left : passed ++ cut (a - from) (b - from) rest ≡ cut a b all
  pub short : length passed ≤ from
