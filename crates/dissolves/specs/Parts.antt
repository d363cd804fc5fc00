-- What is shown of an item or gap: the rest of the dissolve at its head, its own frames, and the front of the
-- dissolve at its tail.
use Rattle.std.specs.Prelude.{◌≡◌, ℕ, zero, suc, ◌+◌, ◌-◌, ◌<◌, ◌≤◌, ◌^◌, List, [], ◌∷◌, ◌++◌, Option, Some, None, slice_get}
use Rattle.frame_meaning.specs.declared.cells.What.{What}
use Rattle.frame_meaning.specs.declared.cells.Mark.{Mark}
use Rattle.frame_meaning.specs.declared.frames.Side.{Side}
use Rattle.frame_meaning.specs.declared.frames.Side.TheVariants as side
use Rattle.frame_meaning.specs.declared.frames.Frame.{Frame}
use Rattle.frame_meaning.specs.declared.frames.Frame.TheVariants as frame
use Rattle.frame_meaning.specs.Cells.{later_side}
use Rattle.frame_meaning.specs.Render.{frame_of}
use Rattle.composables.specs.declared.items.ItemView.{ItemView}
use Rattle.composables.specs.Views.{earlier_side}
use Rattle.composables.specs.TrackFacts.{Holds, left_reach, right_reach}
use Rattle.dissolves.specs.Pieces.{frames_from}

abbrev pub first_of : List ItemView → Option ItemView
first_of [] = None
first_of (v ∷ vs) = Some v

-- the item or gap before the one with an index
abbrev pub item_before : List ItemView → ℕ → Option ItemView
item_before vs zero = None
item_before vs (suc i) = slice_get vs i

abbrev pub mark_of : Option ItemView → Option Mark
mark_of None = None
mark_of (Some v) = v.mark

-- the b frames of a dissolve from its cut on, between what goes on to the left of it and what begins there
abbrev pub mix_after : Side What → Side What → Option Mark → List (Frame What)
mix_after left right None = []
mix_after left right (Some m) = frames_from (frame.Mix left right (m.a + 1) (m.a + m.b + 1)) m.b

abbrev pub head_frames : Option ItemView → ItemView → List (Frame What)
head_frames None v = []
head_frames (Some l) v = mix_after (later_side l.first l.len) v.first v.mark

-- the a frames of a dissolve before its cut, at the end of an item or gap
abbrev pub mix_before : ItemView → Side What → Option Mark → List (Frame What)
mix_before v right None = []
mix_before v right (Some m) = frames_from (frame.Mix (later_side v.first (v.len - m.a)) (earlier_side right m.a) 1 (m.a + m.b + 1)) m.a

abbrev pub tail_frames : ItemView → Option ItemView → List (Frame What)
tail_frames v None = []
tail_frames v (Some r) = mix_before v r.first r.mark

-- its frames but for this many at its head and at its tail
abbrev pub own_frames : ItemView → ℕ → ℕ → List (Frame What)
own_frames v head tail = frames_from (frame_of (later_side v.first head)) (v.len - head - tail)

-- what is shown of an item or gap between those before and after it
abbrev pub item_frames : Option ItemView → ItemView → Option ItemView → List (Frame What)
item_frames before v after = head_frames before v ++ own_frames v (right_reach v.mark) (left_reach (mark_of after)) ++ tail_frames v after

-- what is shown of items and gaps
abbrev pub frames_shown : Option ItemView → List ItemView → List (Frame What)
frames_shown before [] = []
frames_shown before (v ∷ vs) = item_frames before v (first_of vs) ++ frames_shown (Some v) vs

-- an item or gap before a cut with this mark, and none before the first cell, which has no mark
abbrev pub HoldsBefore : Option ItemView → Option Mark → Type 0
HoldsBefore None mark = mark ≡ None
HoldsBefore (Some v) mark = Holds v mark

-- an item or gap after a cut has what its mark shows of it before its first frame
abbrev pub SideHasFront : Side What → ℕ → Type 0
SideHasFront side.Dark n = Unit {0}
SideHasFront (side.Pic what source) n = n ≤ source

abbrev pub HasFront : Option ItemView → Type 0
HasFront None = Unit {0}
HasFront (Some v) = SideHasFront v.first (left_reach v.mark)

-- the numbers of a dissolve are below 2 ^ 32
abbrev pub MarkIsNumbered : Option Mark → Type 0
MarkIsNumbered None = Unit {0}
MarkIsNumbered (Some m) = m.a + m.b + 1 < 2 ^ 32

-- an item or gap with those before and after it, as they stand on a track
pub record Between (before : Option ItemView) (v : ItemView) (after : Option ItemView) : Type 0 where
  pub held : HoldsBefore before v.mark
  pub holds : Holds v (mark_of after)
  pub front : HasFront after
  pub head : MarkIsNumbered v.mark
  pub tail : MarkIsNumbered (mark_of after)

abbrev pub EachBetween : Option ItemView → List ItemView → Type 0
EachBetween before [] = Unit {0}
EachBetween before (v ∷ vs) = Between before v (first_of vs) × EachBetween (Some v) vs
