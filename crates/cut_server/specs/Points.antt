-- The cut at a point of a room's history, edits taken back among it: it is a sound one, and what is written of it is read
-- again.
use Rattle.std.specs.Prelude.{ℕ, ◌<◌, List, Option, IsSomeAnd, length, take}
use Rattle.cut_steps.specs.CutSteps.{KeptTrack, fresh_tracks, stepping}
use Rattle.otio_json.specs.Soundness.{IsSoundOpening}
use Rattle.otio_json.specs.declared.opening.Opening.{Opening}
use Rattle.otio_laws.specs.Meanings.{IsReadAgain}
use Rattle.otio_laws.specs.Points.{cut_of}
use Rattle.otio_laws.specs.SoundCuts.{IsSoundCut}
use Rattle.otio_tracks.specs.ReelTexts.{AreTexts}
use Rattle.room_core.specs.History.{replay}
use Rattle.room_core.specs.Whole.{whole}
use Rattle.station_sessions.specs.Rooms.{History, IsLegalIn}
use Rattle.take_back.specs.Parts.{nows}

-- the tracks after the first n entries, each with what it was before its last edit
abbrev pub kept_at : Opening → History → ℕ → Option (List KeptTrack)
kept_at o h n = replay (whole (stepping o.table)) (fresh_tracks o.tracks) (take n h)

-- at every point of a room's history there is a sound cut
abbrev pub RoomsAreSoundCuts : Type 0
RoomsAreSoundCuts = (o : Opening) (h : History) (n : ℕ) → IsSoundOpening o → 0 < length o.tracks → IsLegalIn o h
    → IsSomeAnd (kept_at o h n) (λ kept. IsSoundCut (cut_of o (nows kept)))

-- and what is written there is read again
abbrev pub RoomsAreReadAgain : Type 0
RoomsAreReadAgain = (o : Opening) (h : History) (n : ℕ) → IsSoundOpening o → 0 < length o.tracks → AreTexts o.table.reels → IsLegalIn o h
    → IsSomeAnd (kept_at o h n) (λ kept. IsReadAgain (cut_of o (nows kept)))
