-- The maximal runs of a list of frames: each frame of a run goes on from the one before, and none of a run's first
-- frames does.
use Rattle.std.specs.Prelude.{ℕ, ◌+◌, Bool, List, [], ◌∷◌, if◌then◌else◌}
use Rattle.frame_meaning.specs.declared.frames.Frame.{Frame}
use Rattle.frame_meaning.specs.declared.frames.Run.{Run}
use Rattle.frame_meaning.specs.Going.{frame_goes_on}

-- the runs after one more frame in front
abbrev pub with_frame : {W : Type 0} → (W → W → Bool) → Frame W → List (Run W) → List (Run W)
with_frame eq f [] = record { frame = f; len = 1 } ∷ []
with_frame eq f (r ∷ rs) =
    if frame_goes_on eq f r.frame
    then record { frame = f; len = r.len + 1 } ∷ rs
    else record { frame = f; len = 1 } ∷ r ∷ rs

abbrev pub runs : {W : Type 0} → (W → W → Bool) → List (Frame W) → List (Run W)
runs eq [] = []
runs eq (f ∷ fs) = with_frame eq f (runs eq fs)

-- the length of the first of some runs
abbrev pub first_len : {W : Type 0} → List (Run W) → ℕ
first_len [] = 0
first_len (r ∷ rs) = r.len
