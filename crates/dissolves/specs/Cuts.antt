-- A cut of a track, with the items or gaps at its sides, and the room that they have for a dissolve.
use Rattle.std.specs.Prelude.{◌≡◌, ℕ, ◌+◌, Bool, true, false, not, ◌&&◌, List, [], ◌∷◌, ◌++◌, Option, Some, None, nat_le, nat_eq, length, take, drop, if◌then◌else◌}
use Rattle.frame_meaning.specs.declared.cells.What.{What}
use Rattle.frame_meaning.specs.declared.cells.What.TheVariants.{Media, Nest}
use Rattle.frame_meaning.specs.declared.cells.Mark.{Mark}
use Rattle.frame_meaning.specs.declared.cells.Cell.{Cell}
use Rattle.frame_meaning.specs.declared.frames.Side.{Side}
use Rattle.frame_meaning.specs.declared.frames.Side.TheVariants.{Dark, Pic}
use Rattle.frame_meaning.specs.Render.{cell_at}
use Rattle.composables.specs.declared.items.ItemView.{ItemView}
use Rattle.composables.specs.declared.media.Table.{Table}
use Rattle.composables.specs.declared.refusals.Refusal.{Refusal}
use Rattle.composables.specs.declared.refusals.Refusal.TheVariants.{EmptyRange, NotACut, DissolveRoom}
use Rattle.composables.specs.declared.refusals.Which.TheVariants.{Left, Right}
use Rattle.composables.specs.Bounds.{bounds_of}
use Rattle.composables.specs.Items.{items_of}
use Rattle.composables.specs.Joined.{frames_in}
use Rattle.composables.specs.Ranges.{is_cut}
use Rattle.composables.specs.TrackFacts.{first_mark, left_reach, right_reach}
use Rattle.dissolves.specs.declared.cuts.Cut.{Cut}

-- a nest has no dissolve at its ends
abbrev pub is_nest : Side What → Bool
is_nest Dark = false
is_nest (Pic (Media m) s) = false
is_nest (Pic (Nest j) s) = true

-- the source frames [s - before, s + len) lie in a range
abbrev pub lie_in : Option (ℕ × ℕ) → ℕ → ℕ → ℕ → Bool
lie_in None s before len = false
lie_in (Some (from, to)) s before len = nat_le (from + before) s && nat_le (s + len) to

-- what a side shows has len source frames from its first on, and this many before it
abbrev pub has_frames : Table → Side What → ℕ → ℕ → Bool
has_frames table Dark before len = true
has_frames table (Pic what s) before len = lie_in (bounds_of table what) s before len

-- an item or gap has room for a dissolve at its end: the frames before the cut lie in it, behind those of the dissolve
-- at its head, and its thing has the frames after the cut too
abbrev pub room_left : Table → ItemView → Mark → Bool
room_left table v m =
    (not (is_nest v.first) && nat_le (right_reach v.mark + m.a) v.len) && has_frames table v.first 0 (v.len + m.b)

-- and for one at its head: the frames after the cut lie in it, before those of the dissolve at its end, and its thing
-- has the frames before the cut too
abbrev pub room_right : Table → ItemView → Option Mark → Mark → Bool
room_right table v tail m =
    (not (is_nest v.first) && nat_le (m.b + left_reach tail) v.len) && has_frames table v.first m.a v.len

-- the side of a cut that has no room for a dissolve, the left one first
abbrev pub room_refusal : Table → ItemView → ItemView → Option Mark → Mark → Option Refusal
room_refusal table l r tail m =
    if room_left table l m
    then (if room_right table r tail m then None else Some (DissolveRoom Right))
    else Some (DissolveRoom Left)

-- the same between the items and gaps before a cut, of which the last ends there, and those behind it
abbrev pub room_between : Table → List ItemView → List ItemView → Mark → Option Refusal
room_between table [] rs m = Some (DissolveRoom Left)
room_between table (l ∷ []) [] m = Some (DissolveRoom Right)
room_between table (l ∷ []) (r ∷ rs) m = room_refusal table l r (first_mark rs) m
room_between table (u ∷ l ∷ ls) rs m = room_between table (l ∷ ls) rs m

-- why a dissolve can't stand at a place of a track of these cells, if it can't
abbrev pub dissolve_refusal : Table → List Cell → ℕ → Mark → Option Refusal
dissolve_refusal table cells p m =
    if nat_eq (m.a + m.b) 0
    then Some EmptyRange
    else (if is_cut cells p
    then room_between table (items_of (take p cells)) (items_of (drop p cells)) m
    else Some (NotACut p))

-- neither a cut nor a mark stands at a place
pub record IsNoCut (cells : List Cell) (p : ℕ) : Type 0 where
  pub none : is_cut cells p ≡ false
  pub bare : (cell_at cells p).mark ≡ None

-- a cut at a place, with what stands at its sides
pub record IsCutAt (cells : List Cell) (p : ℕ) (c : Cut) : Type 0 where
  pub before : List ItemView
  pub behind : List ItemView
  pub all : items_of cells ≡ before ++ c.left ∷ c.right ∷ behind
  pub place : p ≡ frames_in before + c.left.len
  pub index : c.index ≡ length before + 1
  pub tail : c.tail ≡ first_mark behind
