-- Runs as the code composes them: none is empty, the numbers of all their frames are below 2 ^ 32, and two that meet may
-- go on, one from the other.
use Rattle.std.specs.Prelude.{◌≡◌, ℕ, zero, suc, ◌<◌, List, [], ◌∷◌, Option, Some, None, map, length, drop, slice_get}
use Rattle.std.specs.List.{flat_map}
use Rattle.frame_meaning.specs.declared.cells.What.{What}
use Rattle.frame_meaning.specs.declared.frames.Frame.{Frame}
use Rattle.frame_meaning.specs.declared.frames.Frame.TheVariants.{Dark}
use Rattle.frame_meaning.specs.declared.frames.Run.{Run}
use Rattle.frame_meaning.specs.RunFrames.{run_frames}
use Rattle.dissolves.specs.Pieces.{Reaches}
use Rattle.flatten.specs.declared.strips.Spot.{Spot}
use Rattle.flatten.specs.Stacks.{over}

abbrev pub frames_of : List (Run ℕ) → List (Frame ℕ)
frames_of runs = flat_map run_frames runs

pub record IsFit (r : Run ℕ) : Type 0 where
  pub filled : 0 < r.len
  pub reaches : Reaches r.frame r.len

-- the same of a run of a track
pub record IsTrackRun (r : Run What) : Type 0 where
  pub filled : 0 < r.len
  pub reaches : Reaches r.frame r.len

abbrev pub AreTrackRuns : List (Run What) → Type 0
AreTrackRuns [] = Unit {0}
AreTrackRuns (r ∷ rs) = IsTrackRun r × AreTrackRuns rs

abbrev pub AreFit : List (Run ℕ) → Type 0
AreFit [] = Unit {0}
AreFit (r ∷ rs) = IsFit r × AreFit rs

abbrev pub AllFit : List (List (Run ℕ)) → Type 0
AllFit [] = Unit {0}
AllFit (rs ∷ rss) = AreFit rs × AllFit rss

-- the frames of a run that is held back, if one is
abbrev pub held_frames : Option (Run ℕ) → List (Frame ℕ)
held_frames None = []
held_frames (Some r) = run_frames r

abbrev pub IsHeld : Option (Run ℕ) → Type 0
IsHeld None = Unit {0}
IsHeld (Some r) = IsFit r

-- these runs are the frames, one after another
pub record Show (runs : List (Run ℕ)) (frames : List (Frame ℕ)) : Type 0 where
  pub are : frames_of runs ≡ frames
  pub fit : AreFit runs

-- these are the frames of each, channel by channel
pub record ShowEach (channels : List (List (Run ℕ))) (frames : List (List (Frame ℕ))) : Type 0 where
  pub are : map frames_of channels ≡ frames
  pub fit : AllFit channels

-- each channel has fewer frames than this
abbrev pub AreBelow : ℕ → List (List (Frame ℕ)) → Type 0
AreBelow n [] = Unit {0}
AreBelow n (frames ∷ others) = (length frames < n) × AreBelow n others

-- a spot in runs: behind some frames of the run with an index, and at the start of it where there is none
abbrev pub BehindSome : Option (Run ℕ) → ℕ → Type 0
BehindSome None used = used ≡ 0
BehindSome (Some r) used = used < r.len

abbrev pub IsSpot : List (Run ℕ) → Spot → Type 0
IsSpot runs spot = BehindSome (slice_get runs spot.index) spot.used

-- the frames from a spot on
abbrev pub left_from : List (Run ℕ) → Spot → List (Frame ℕ)
left_from runs spot = drop spot.used (frames_of (drop spot.index runs))

-- the first n of some frames, with dark frames behind them where there are fewer
abbrev pub padded : ℕ → List (Frame ℕ) → List (Frame ℕ)
padded zero frames = []
padded (suc n) [] = Dark ∷ padded n []
padded (suc n) (f ∷ frames) = f ∷ padded n frames

-- a channel over another
abbrev pub laid_over : List (Frame ℕ) → List (Frame ℕ) → List (Frame ℕ)
laid_over [] lower = lower
laid_over (f ∷ upper) [] = f ∷ laid_over upper []
laid_over (f ∷ upper) (g ∷ lower) = over f g ∷ laid_over upper lower

-- channels, each over those before it and over what lies below all
abbrev pub laid_on : List (Frame ℕ) → List (List (Frame ℕ)) → List (Frame ℕ)
laid_on below [] = below
laid_on below (frames ∷ above) = laid_on (laid_over frames below) above
