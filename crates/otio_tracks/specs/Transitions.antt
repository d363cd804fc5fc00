-- Transitions: a dissolve between two items that follow one another.
use Rattle.std.specs.Prelude.{ℕ, ◌+◌, ℤ, pos, int_lt, nat_eq, nat_le, nat_lt, unsigned_abs, Bool, true, false, ◌&&◌, ◌||◌, Option, Some, None, Ok, codes, bytes_eq, if◌then◌else◌}
use Rattle.frame_meaning.specs.declared.cells.Mark.{Mark}
use Rattle.frame_meaning.specs.declared.cells.What.{What}
use Rattle.frame_meaning.specs.declared.frames.Side.{Side}
use Rattle.frame_meaning.specs.declared.frames.Side.TheVariants.{Dark, Pic}
use Rattle.json_tokens.specs.Reading.{◌>>=◌}
use Rattle.json_tree.specs.Tree.{Tree}
use Rattle.json_tree.specs.Parts.{place_of}
use Rattle.otio_tracks.specs.declared.faults.DocCode.TheVariants.{O3, O8, O9, O15}
use Rattle.otio_tracks.specs.declared.parts.Part.{Part}
use Rattle.otio_tracks.specs.declared.transitions.Waiting.{Waiting}
use Rattle.otio_tracks.specs.Reading.{Read, refuse}
use Rattle.otio_tracks.specs.Values.{needed, text_read}
use Rattle.otio_tracks.specs.Times.{frame_read}
use Rattle.otio_tracks.specs.Parts.{is_gap, is_nest}

-- ---- what its members say

-- how far it reaches to the left of its cut, and to the right
abbrev pub offsets_if : ℤ → ℕ → ℤ → ℕ → Read Mark
offsets_if a left b right =
    if int_lt a (pos 0) then refuse O9 left
    else if int_lt b (pos 0) then refuse O9 right
    else Ok (record { a = unsigned_abs a; b = unsigned_abs b })

unfoldable pub offsets_read : ℕ × ℕ → Tree → Read Mark
offsets_read rate t = do
  before ← needed (codes "in_offset") t
  a ← frame_read rate before
  after ← needed (codes "out_offset") t
  b ← frame_read rate after
  offsets_if a (place_of before) b (place_of after)

unfoldable pub transition_read : ℕ × ℕ → Tree → Read Mark
transition_read rate t = do
  kind ← needed (codes "transition_type") t
  name ← text_read kind
  if bytes_eq name (codes "SMPTE_Dissolve") then offsets_read rate t else refuse O3 (place_of kind)

-- ---- its room

abbrev pub right_reach : Option Mark → ℕ
right_reach None = 0
right_reach (Some m) = m.b

-- the thing shown has so many source frames before the item's first, or after its last
abbrev pub side_reaches_back : Side What → ℕ → ℕ → Bool
side_reaches_back Dark from n = true
side_reaches_back (Pic what source) from n = nat_le (from + n) source

abbrev pub reaches_back : Part → ℕ → Bool
reaches_back p n = side_reaches_back p.first p.from n

abbrev pub side_reaches_on : Side What → ℕ → ℕ → ℕ → Bool
side_reaches_on Dark len to n = true
side_reaches_on (Pic what source) len to n = nat_le (source + len + n) to

abbrev pub reaches_on : Part → ℕ → Bool
reaches_on p n = side_reaches_on p.first p.len p.to n

-- the dissolve lies within the two items and does not meet the one before the left item
abbrev pub has_room : Part → Part → Mark → Bool
has_room left right m = nat_le (right_reach left.mark + m.a) left.len && (nat_le m.b right.len && (reaches_on left m.b && reaches_back right m.a))

abbrev pub has_room_behind : Option Part → Part → Mark → Bool
has_room_behind None right m = false
has_room_behind (Some left) right m = has_room left right m

-- an item goes on from the one kept last, as a gap does from a gap: two gaps that meet are one
abbrev pub joins : Option Part → Part → Bool
joins None next = false
joins (Some last) next = is_gap last && is_gap next

-- an item that was read has frames of its own, or is a gap that goes on from one
abbrev pub has_frames : Option Part → Part → Bool
has_frames last before = nat_lt 0 before.len || joins last before

-- Offsets of 0 are no dissolve. An item without frames has no room for one.
abbrev pub mark_between : Option Part → Part → Part → Mark → ℕ → Read (Option Mark)
mark_between last before next m at =
    if nat_eq m.a 0 && nat_eq m.b 0 then Ok None
    else if (has_frames last before && nat_lt 0 next.len) && has_room_behind last next m then Ok (Some m)
    else refuse O9 at

-- ---- its place

abbrev pub dissolve_behind : Option Part → Part → Waiting → Part → Read (Option Mark)
dissolve_behind last before w next =
    if w.crowded || (is_gap before && is_gap next) then refuse O8 w.at
    else if is_nest before || is_nest next then refuse O15 w.at
    else (w.offsets >>= λ m. mark_between last before next m w.at)

-- The dissolve between the items before and after a transition; last is the item before it with the gaps that it
-- goes on from, as it is kept.
unfoldable pub dissolve_between : Option Part → Option Part → Waiting → Part → Read (Option Mark)
dissolve_between last None w next = refuse O8 w.at
dissolve_between last (Some before) w next = dissolve_behind last before w next
