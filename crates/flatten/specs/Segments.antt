-- The segments that a channel is cut into for a list of events: runs of dark frames, runs of pictures of one reel, and
-- whole dissolves, each with the frames after it in which its incoming side goes on. This project's own.
use Rattle.std.specs.Prelude.{◌≡◌, ℕ, ◌+◌, ◌-◌, ◌<◌, ◌≤◌, ◌^◌, Bool, true, false, ◌&&◌, ◌==◌, List, [], ◌∷◌, ◌++◌, Option, Some, None, nat_eq, length, if◌then◌else◌}
use Rattle.std.specs.List.{flat_map}
use Rattle.frame_meaning.specs.declared.frames.Side.{Side}
use Rattle.frame_meaning.specs.declared.frames.Frame.{Frame}
use Rattle.frame_meaning.specs.declared.frames.Frame.TheVariants as frame
use Rattle.frame_meaning.specs.declared.frames.Run.{Run}
use Rattle.frame_meaning.specs.Cells.{later_side}
use Rattle.frame_meaning.specs.Going.{frame_goes_on}
use Rattle.frame_meaning.specs.Render.{frame_of}
use Rattle.frame_meaning.specs.RunFrames.{frames_from}
use Rattle.flatten.specs.declared.cutting.Segment.{Segment}
use Rattle.flatten.specs.declared.cutting.SegmentFault.{SegmentFault}
use Rattle.flatten.specs.declared.cutting.SegmentFault.TheVariants.{Memory, PartialDissolve}
use Rattle.flatten.specs.Strips.{frames_of}

-- the first frame of what begins at a cut, or of a dissolve of n frames from a side
abbrev pub first_shown : Option (Side ℕ) → ℕ → Side ℕ → Frame ℕ
first_shown None n s = frame_of s
first_shown (Some left) n s = frame.Mix left s 1 (n + 1)

-- a side by itself; and a whole dissolve of n frames to a side, which then goes on by itself
abbrev pub frames_in : Option (Side ℕ) → ℕ → Side ℕ → ℕ → List (Frame ℕ)
frames_in None n s len = frames_from (frame_of s) len
frames_in (Some left) n s len = frames_from (first_shown (Some left) n s) n ++ frames_from (frame_of (later_side s n)) (len - n)

abbrev pub segment_frames : Segment → List (Frame ℕ)
segment_frames s = frames_in s.from s.frames s.side s.len

-- a dissolve of n frames has some, and they lie in the segment
abbrev pub HasDissolve : Option (Side ℕ) → ℕ → ℕ → Type 0
HasDissolve None n len = n ≡ 0
HasDissolve (Some left) n len = (0 < n) × (n ≤ len)

pub record IsSegment (s : Segment) : Type 0 where
  pub filled : 0 < s.len
  pub dissolve : HasDissolve s.from s.frames s.len

abbrev pub EachIsSegment : List Segment → Type 0
EachIsSegment [] = Unit {0}
EachIsSegment (s ∷ ss) = IsSegment s × EachIsSegment ss

-- each begins where the one before it ends, the first at this place
abbrev pub ArePlaced : ℕ → List Segment → Type 0
ArePlaced at [] = Unit {0}
ArePlaced at (s ∷ ss) = (s.at ≡ at) × ArePlaced (at + s.len) ss

-- a segment's side goes on behind it in the segment that follows
abbrev pub goes_on_in : Segment → Segment → Bool
goes_on_in s t = frame_goes_on nat_eq (frame_of (later_side s.side (s.len - 1))) (first_shown t.from t.frames t.side)

-- none goes on in the next
abbrev pub AreApart : List Segment → Type 0
AreApart [] = Unit {0}
AreApart (s ∷ []) = Unit {0}
AreApart (s ∷ t ∷ ts) = (goes_on_in s t ≡ false) × AreApart (t ∷ ts)

-- the frames are cut into these segments
pub record AreSegments (ss : List Segment) (frames : List (Frame ℕ)) : Type 0 where
  pub are : flat_map segment_frames ss ≡ frames
  pub each : EachIsSegment ss
  pub placed : ArePlaced 0 ss
  pub apart : AreApart ss

-- a run of mixed frames is a whole dissolve: its weights are 1 to n of n + 1
abbrev pub is_whole : Frame ℕ → ℕ → Bool
is_whole frame.Dark n = true
is_whole (frame.Pic reel source) n = true
is_whole (frame.Mix left right num den) n = num == 1 && den == n + 1

-- the place of the first run of mixed frames that is not whole, if there is one, where the first run begins here
abbrev pub first_partial : ℕ → List (Run ℕ) → Option ℕ
first_partial at [] = None
first_partial at (r ∷ rs) = if is_whole r.frame r.len then first_partial (at + r.len) rs else Some at

abbrev pub IsPartialAt : SegmentFault → Option ℕ → Type 0
IsPartialAt Memory at = Unit {0}
IsPartialAt (PartialDissolve p) at = at ≡ Some p

-- no run is empty
abbrev pub AreFilled : List (Run ℕ) → Type 0
AreFilled [] = Unit {0}
AreFilled (r ∷ rs) = (0 < r.len) × AreFilled rs

-- what can be cut into segments: runs that have frames, and fewer than 2 ^ 32 in all
pub record CanBeCut (rs : List (Run ℕ)) : Type 0 where
  pub filled : AreFilled rs
  pub short : length (frames_of rs) < 2 ^ 32

abbrev pub EachCanBeCut : List (List (Run ℕ)) → Type 0
EachCanBeCut [] = Unit {0}
EachCanBeCut (rs ∷ rss) = CanBeCut rs × EachCanBeCut rss
