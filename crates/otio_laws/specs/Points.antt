-- A cut at a point of the history of a room: it is a sound one, so what is written of it is read again.
use Rattle.std.specs.Prelude.{ℕ, List, Option, IsSomeAnd, take}
use Rattle.composables.specs.TrackState.{TrackState}
use Rattle.room_core.specs.declared.entry.Entry.{Entry}
use Rattle.room_core.specs.History.{IsLegal, replay}
use Rattle.room_core.specs.Whole.{whole}
use Rattle.edit_calls.specs.declared.asks.Call.{Call}
use Rattle.edit_apply.specs.Apply.{editing}
use Rattle.otio_tracks.specs.ReelTexts.{AreTexts}
use Rattle.otio_json.specs.Soundness.{IsSoundOpening}
use Rattle.otio_json.specs.declared.opening.Opening.{Opening}
use Rattle.otio_laws.specs.Meanings.{IsReadAgain}
use Rattle.otio_laws.specs.SoundCuts.{IsSoundCut}

-- the tracks after the first n entries, and the cut that they are
abbrev pub tracks_at : Opening → List (Entry Call) → ℕ → Option (List TrackState)
tracks_at o entries n = replay (whole (editing o.table)) o.tracks (take n entries)

abbrev pub cut_of : Opening → List TrackState → Opening
cut_of o tracks = record o { tracks = tracks }

abbrev pub IsHistoryOf : Opening → List (Entry Call) → Type 0
IsHistoryOf o entries = IsLegal (whole (editing o.table)) o.tracks entries

-- at every point of a legal history of what a document describes, or a plain room begins with, there is a sound cut
abbrev pub PointsAreSoundCuts : Type 0
PointsAreSoundCuts = (o : Opening) (entries : List (Entry Call)) (n : ℕ) → IsSoundOpening o → IsHistoryOf o entries
    → IsSomeAnd (tracks_at o entries n) (λ tracks. IsSoundCut (cut_of o tracks))

-- and what is written there is read again
abbrev pub PointsAreReadAgain : Type 0
PointsAreReadAgain = (o : Opening) (entries : List (Entry Call)) (n : ℕ) → IsSoundOpening o → AreTexts o.table.reels → IsHistoryOf o entries
    → IsSomeAnd (tracks_at o entries n) (λ tracks. IsReadAgain (cut_of o tracks))
