-- The tracks that a room can have, and those that its history can begin with.
use Rattle.std.specs.Prelude.{◌≡◌, ◌<◌, ◌≤◌, ℕ, List, All, length, map}
use Rattle.composables.specs.declared.media.Table.{Table}
use Rattle.composables.specs.Good.{AllUnlinked, IsGood}
use Rattle.composables.specs.Items.{items_of}
use Rattle.composables.specs.TrackState.{TrackState}
use Rattle.room_core.specs.Parts.{AreGood, numbers}
use Rattle.track_laws.specs.Goods.{IsBounded}
use Rattle.edit_calls.specs.declared.asks.Call.{Call}
use Rattle.edit_apply.specs.Apply.{names_of, track_count}

-- no item of the track is linked; a room is opened so
abbrev pub IsUnlinked : TrackState → Type 0
IsUnlinked t = AllUnlinked (items_of t.cells)

-- a track of a room with this table: it is good in the table, and has its place in the room for its number
pub record IsTrackOf (table : Table) (number : ℕ) (t : TrackState) : Type 0 where
  pub good : IsGood table t
  pub number_is : t.number ≡ number

-- the tracks are those that a call names
abbrev pub AreThoseNamed : Call → List TrackState → Type 0
AreThoseNamed c named = map (λ (t : TrackState). t.number) named ≡ names_of c

-- Tracks that a history can begin with: those of the table, in order, from 1 to 32; they have given away at most 65,536
-- item numbers and no link number, and have no links. The source frames of each thing of the table end by 2^32.
pub record IsOpening (table : Table) (tracks : List TrackState) : Type 0 where
  pub some : 0 < length table.kinds
  pub most : length table.kinds ≤ 32
  pub bounded : IsBounded table
  pub good : AreGood (IsTrackOf table) (numbers 0 (track_count table)) tracks
  pub items : All (λ (t : TrackState). t.next_item ≤ 65536) tracks
  pub links : All (λ (t : TrackState). t.next_link ≡ 0) tracks
  pub unlinked : All IsUnlinked tracks
