-- The frames of runs, and what it is that runs are maximal.
use Rattle.std.specs.Prelude.{◌≡◌, ℕ, zero, suc, ◌+◌, ◌-◌, ◌<◌, Bool, false, List, [], ◌∷◌}
use Rattle.std.specs.List.{flat_map}
use Rattle.frame_meaning.specs.declared.frames.Frame.{Frame}
use Rattle.frame_meaning.specs.declared.frames.Frame.TheVariants as frame
use Rattle.frame_meaning.specs.declared.frames.Run.{Run}
use Rattle.frame_meaning.specs.Cells.{next_side}
use Rattle.frame_meaning.specs.Going.{frame_goes_on}
use Rattle.frame_meaning.specs.Runs.{runs}

-- the frame that goes on from one
abbrev pub next_frame : {W : Type 0} → Frame W → Frame W
next_frame frame.Dark = frame.Dark
next_frame (frame.Pic w s) = frame.Pic w (s + 1)
next_frame (frame.Mix l r n d) = frame.Mix (next_side l) (next_side r) (n + 1) d

-- n frames of which each goes on from the one before, from this one on
abbrev pub frames_from : {W : Type 0} → Frame W → ℕ → List (Frame W)
frames_from f zero = []
frames_from f (suc n) = f ∷ frames_from (next_frame f) n

-- the frame n frames later
abbrev pub later_frame : {W : Type 0} → Frame W → ℕ → Frame W
later_frame f zero = f
later_frame f (suc n) = later_frame (next_frame f) n

abbrev pub run_frames : {W : Type 0} → Run W → List (Frame W)
run_frames r = frames_from r.frame r.len

abbrev pub last_frame : {W : Type 0} → Run W → Frame W
last_frame r = later_frame r.frame (r.len - 1)

-- no run is empty, and the first frame of none goes on from the last of the one before, where this says whether two
-- things are one
abbrev pub AreMaximal : {W : Type 0} → (W → W → Bool) → List (Run W) → Type 0
AreMaximal eq [] = Unit {0}
AreMaximal eq (r ∷ []) = 0 < r.len
AreMaximal eq (r ∷ s ∷ rs) = (0 < r.len) × (frame_goes_on eq (last_frame r) s.frame ≡ false) × AreMaximal eq (s ∷ rs)

-- the runs of frames, one after another, are the frames
abbrev pub RunsAreTheFrames : (W : Type 0) → (W → W → Bool) → Type 0
RunsAreTheFrames W eq = (frames : List (Frame W)) → flat_map run_frames (runs eq frames) ≡ frames

-- and they are maximal
abbrev pub RunsAreMaximal : (W : Type 0) → (W → W → Bool) → Type 0
RunsAreMaximal W eq = (frames : List (Frame W)) → AreMaximal eq (runs eq frames)
