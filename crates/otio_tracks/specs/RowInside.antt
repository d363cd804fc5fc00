-- A row as the code keeps it.
use Rattle.otio_tracks.specs.declared.rows.Row.TheInside.{Inside}
use Rattle.otio_tracks.specs.Rows.{RowState}
use Rattle.otio_tracks.specs.SoundRows.{IsSoundRow}

abbrev pub row_of : Inside → RowState
row_of r = record { done = r.done.items; last = r.last; before = r.before; waiting = r.waiting }

abbrev pub IsRow : Inside → Type 0
IsRow r = IsSoundRow (row_of r)
