-- What a room of cuts is at any point of its history: what the edits come to that are left.
use Rattle.std.specs.Prelude.{◌≡◌, List, Some}
use Rattle.composables.specs.declared.media.Table.{Table}
use Rattle.composables.specs.TrackState.{TrackState}
use Rattle.cut_steps.specs.CutSteps.{CutStep, KeptTrack, fresh_tracks, left_edits, stepping}
use Rattle.edit_apply.specs.Apply.{editing}
use Rattle.edit_apply.specs.RoomTracks.{IsOpening}
use Rattle.room_core.specs.History.{IsLegal, replay}
use Rattle.room_core.specs.Whole.{whole}
use Rattle.room_core.specs.declared.entry.Entry.{Entry}
use Rattle.take_back.specs.Parts.{nows}

-- the tracks after some steps are those that the edits come to that are left
abbrev pub CutsAreLeft : Type 0
CutsAreLeft =
    (table : Table) (tracks : List TrackState) (entries : List (Entry CutStep)) (kept : List KeptTrack)
    → IsOpening table tracks → replay (whole (stepping table)) (fresh_tracks tracks) entries ≡ Some kept
    → replay (whole (editing table)) tracks (left_edits entries) ≡ Some (nows kept)

-- what is left of a legal history is one
abbrev pub LeftIsLegal : Type 0
LeftIsLegal =
    (table : Table) (tracks : List TrackState) (entries : List (Entry CutStep)) (kept : List KeptTrack)
    → IsOpening table tracks → IsLegal (whole (stepping table)) (fresh_tracks tracks) entries
    → replay (whole (stepping table)) (fresh_tracks tracks) entries ≡ Some kept
    → IsLegal (whole (editing table)) tracks (left_edits entries)
