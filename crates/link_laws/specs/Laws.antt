-- What keeps the tracks of a room together: every edit of one track, and links made and taken away.
use Rattle.composables.specs.declared.media.Table.{Table}
use Rattle.composables.specs.declared.calls.Dissolve.{Dissolve}
use Rattle.composables.specs.declared.calls.Extract.{Extract}
use Rattle.composables.specs.declared.calls.Fill.{Fill}
use Rattle.composables.specs.declared.calls.Insert.{Insert}
use Rattle.composables.specs.declared.calls.Link3.{Link3}
use Rattle.composables.specs.declared.calls.Overwrite.{Overwrite}
use Rattle.composables.specs.declared.calls.Remove.{Remove}
use Rattle.composables.specs.declared.calls.Ripple.{Ripple}
use Rattle.composables.specs.declared.calls.Roll.{Roll}
use Rattle.composables.specs.declared.calls.Slice.{Slice}
use Rattle.composables.specs.declared.calls.Trim.{Trim}
use Rattle.composables.specs.declared.calls.Undissolve.{Undissolve}
use Rattle.composables.specs.declared.calls.Unlink.{Unlink}
use Rattle.dissolves.specs.Marking.{dissolve_named, undissolve_named}
use Rattle.edit_insert.specs.Edits.{extract_named, insert_named, overwrite_named, remove_named, slice_named}
use Rattle.edit_insert.specs.Fills.{fill_named}
use Rattle.edit_roll.specs.Rolling.{roll_named}
use Rattle.edit_trim.specs.Rippling.{ripple_named}
use Rattle.edit_trim.specs.Trimming.{trim_named}
use Rattle.link_groups.specs.Linking.{link_named, unlink_named}
use Rattle.link_laws.specs.Rooms.{KeepsTogether}

-- items put into one track, taken out of it, and cut in two
pub record PuttingInKeepsTogether : Type 0 where
  pub overwrite : (table : Table) (c : Overwrite) → KeepsTogether table (λ named. overwrite_named table named c)
  pub fill : (table : Table) (c : Fill) → KeepsTogether table (λ named. fill_named table named c)
  pub remove : (table : Table) (c : Remove) → KeepsTogether table (λ named. remove_named named c)
  pub slice : (table : Table) (c : Slice) → KeepsTogether table (λ named. slice_named named c)

-- items put into a track and taken out of it, where what is behind them moves on all named tracks, and links are split
pub record ShiftingKeepsTogether : Type 0 where
  pub insert : (table : Table) (c : Insert) → KeepsTogether table (λ named. insert_named table named c)
  pub extract : (table : Table) (c : Extract) → KeepsTogether table (λ named. extract_named named c)

-- an end of an item moved, with what is behind it on all named tracks
abbrev pub RippleKeepsTogether : Type 0
RippleKeepsTogether = (table : Table) (c : Ripple) → KeepsTogether table (λ named. ripple_named table named c)

-- an end of an item, and a cut, moved
pub record MovingAnEndKeepsTogether : Type 0 where
  pub trim : (table : Table) (c : Trim) → KeepsTogether table (λ named. trim_named table named c)
  pub roll : (table : Table) (c : Roll) → KeepsTogether table (λ named. roll_named table named c)

-- dissolves
pub record DissolvingKeepsTogether : Type 0 where
  pub dissolve : (table : Table) (c : Dissolve) → KeepsTogether table (λ named. dissolve_named table named c)
  pub undissolve : (table : Table) (c : Undissolve) → KeepsTogether table (λ named. undissolve_named named c)

-- a link taken from an item
abbrev pub UnlinkingKeepsTogether : Type 0
UnlinkingKeepsTogether = (table : Table) (c : Unlink) → KeepsTogether table (λ named. unlink_named named c)

-- items of one offset that get a new link
abbrev pub LinkingKeepsTogether : Type 0
LinkingKeepsTogether = (table : Table) (c : Link3) → KeepsTogether table (λ named. link_named named c)
