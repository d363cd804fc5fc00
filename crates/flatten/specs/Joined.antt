-- The segments of a channel, made run by run.
use Rattle.std.specs.Prelude.{ℕ, ◌+◌, List, [], ◌∷◌, Some, None, if◌then◌else◌}
use Rattle.frame_meaning.specs.declared.frames.Side.TheVariants as side
use Rattle.frame_meaning.specs.declared.frames.Frame.{Frame}
use Rattle.frame_meaning.specs.declared.frames.Frame.TheVariants as frame
use Rattle.flatten.specs.declared.cutting.Segment.{Segment}
use Rattle.flatten.specs.Segments.{goes_on_in}

-- the segment of a run by itself
abbrev pub segment_of : ℕ → Frame ℕ → ℕ → Segment
segment_of at frame.Dark n = record { at = at; len = n; from = None; frames = 0; side = side.Dark }
segment_of at (frame.Pic reel source) n = record { at = at; len = n; from = None; frames = 0; side = side.Pic reel source }
segment_of at (frame.Mix left right num den) n = record { at = at; len = n; from = Some left; frames = n; side = right }

-- segments with one more behind them, which lengthens the last where that one goes on in it
abbrev pub joined : List Segment → Segment → List Segment
joined [] t = t ∷ []
joined (s ∷ []) t = if goes_on_in s t then record s { len = s.len + t.len } ∷ [] else s ∷ t ∷ []
joined (s ∷ u ∷ us) t = s ∷ joined (u ∷ us) t

-- how many frames segments have
abbrev pub lens_of : List Segment → ℕ
lens_of [] = 0
lens_of (s ∷ ss) = s.len + lens_of ss
