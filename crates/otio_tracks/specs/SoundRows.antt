-- What a row keeps, so that its items and gaps are those of a track.
use Rattle.std.specs.Prelude.{◌≡◌, ◌+◌, ◌<◌, IsTrue, false, List, [], Option, Some, None, IfSome}
use Rattle.frame_meaning.specs.declared.cells.Mark.{Mark}
use Rattle.otio_tracks.specs.declared.parts.Part.{Part}
use Rattle.otio_tracks.specs.Parts.{is_gap, is_nest}
use Rattle.otio_tracks.specs.Transitions.{has_room, joins}
use Rattle.otio_tracks.specs.Rows.{RowState, all_kept}
use Rattle.otio_tracks.specs.SoundParts.{AreSoundParts}

-- the item kept last is the one that was read last, or a gap that it made longer
abbrev pub IsLast : Option Part → Part → Type 0
IsLast None before = ⊥
IsLast (Some last) before = (is_gap last ≡ is_gap before) × (is_nest last ≡ is_nest before)

-- where none is kept last there are none
abbrev pub IsStart : List Part → Option Part → Type 0
IsStart done None = done ≡ []
IsStart done (Some p) = Unit {0}

pub record IsSoundRow (row : RowState) : Type 0 where
  pub start : IsStart row.done row.last
  pub parts : AreSoundParts (all_kept row.done row.last)
  pub last : IfSome row.before (λ before. 0 < before.len → IsLast row.last before)

-- a dissolve before the next item has room on both sides
abbrev pub HasRoom : Option Part → Part → Mark → Type 0
HasRoom None next m = ⊥
HasRoom (Some last) next m = IsTrue (has_room last next m) × (is_nest last ≡ false) × (is_nest next ≡ false)

pub record FitsMark (row : RowState) (next : Part) (m : Mark) : Type 0 where
  pub mark_filled : 0 < m.a + m.b
  pub filled : 0 < next.len
  pub apart : joins row.last next ≡ false
  pub room : HasRoom row.last next m

abbrev pub FitsBefore : RowState → Part → Option Mark → Type 0
FitsBefore row next None = Unit {0}
FitsBefore row next (Some m) = FitsMark row next m
