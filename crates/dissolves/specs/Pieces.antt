-- Runs put one after another, and the part of a run that lies in a range of places.
use Rattle.std.specs.Prelude.{ℕ, zero, suc, ◌+◌, ◌-◌, ◌≤◌, ◌^◌, Bool, List, [], ◌∷◌, take, drop, if◌then◌else◌}
use Rattle.frame_meaning.specs.declared.frames.Side.{Side}
use Rattle.frame_meaning.specs.declared.frames.Side.TheVariants as side
use Rattle.frame_meaning.specs.declared.frames.Frame.{Frame}
use Rattle.frame_meaning.specs.declared.frames.Frame.TheVariants as frame
use Rattle.frame_meaning.specs.declared.frames.Run.{Run}
use Rattle.frame_meaning.specs.Cells.{later_side}
use Rattle.frame_meaning.specs.Going.{frame_goes_on}

-- the frame that goes on from a frame, n frames later
abbrev pub later_frame : {W : Type 0} → Frame W → ℕ → Frame W
later_frame frame.Dark n = frame.Dark
later_frame (frame.Pic what source) n = frame.Pic what (source + n)
later_frame (frame.Mix left right num den) n = frame.Mix (later_side left n) (later_side right n) (num + n) den

-- n frames from this one on, each going on from the one before
abbrev pub frames_from : {W : Type 0} → Frame W → ℕ → List (Frame W)
frames_from f zero = []
frames_from f (suc n) = f ∷ frames_from (later_frame f 1) n

abbrev pub run_frames : {W : Type 0} → Run W → List (Frame W)
run_frames r = frames_from r.frame r.len

abbrev pub last_frame : {W : Type 0} → Run W → Frame W
last_frame r = later_frame r.frame (r.len - 1)

-- the runs after one more run behind them
abbrev pub push_run : {W : Type 0} → (W → W → Bool) → List (Run W) → Run W → List (Run W)
push_run eq [] r = r ∷ []
push_run eq (s ∷ []) r = if frame_goes_on eq (last_frame s) r.frame then record s { len = s.len + r.len } ∷ [] else s ∷ r ∷ []
push_run eq (s ∷ t ∷ ts) r = s ∷ push_run eq (t ∷ ts) r

-- how many frames runs have
abbrev pub len_of : {W : Type 0} → List (Run W) → ℕ
len_of [] = 0
len_of (r ∷ rs) = r.len + len_of rs

-- the elements at the places [a, b)
abbrev pub cut : {F : Type 0} → ℕ → ℕ → List F → List F
cut a b fs = take (b - a) (drop a fs)

-- n frames on from this one have numbers below 2 ^ 32
abbrev pub SideReaches : {W : Type 0} → Side W → ℕ → Type 0
SideReaches side.Dark n = Unit {0}
SideReaches (side.Pic what source) n = source + n ≤ 2 ^ 32

abbrev pub Reaches : {W : Type 0} → Frame W → ℕ → Type 0
Reaches frame.Dark n = Unit {0}
Reaches (frame.Pic what source) n = source + n ≤ 2 ^ 32
Reaches (frame.Mix left right num den) n = SideReaches left n × SideReaches right n × (num + n ≤ 2 ^ 32)
