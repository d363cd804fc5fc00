-- What the journal of a room is once its sessions have ended, and what the room's tracks are at each point of it.
use Rattle.std.specs.Prelude.{ℕ, List, All, IsSomeAnd}
use Rattle.cut_steps.specs.CutSteps.{fresh_tracks}
use Rattle.take_back.specs.Parts.{nows}
use Rattle.composables.specs.TrackState.{TrackState}
use Rattle.composables.specs.declared.media.Table.{Table}
use Rattle.composables.specs.Good.{IsGood}
use Rattle.composables.specs.Roomy.{IsRoomy}
use Rattle.link_laws.specs.Together.{Together}
use Rattle.otio_json.specs.declared.opening.Opening.{Opening}
use Rattle.journal_text.specs.Journals.{HasText}
use Rattle.station_sessions.specs.Rooms.{History, IsLegalIn, room_of, setting_of}
use Rattle.station_sessions.specs.Transcript.{state_at}
use Rattle.served_rooms.specs.Stations.{AreOfStations}

-- What the tracks of a room are: linked items keep one offset, on all tracks at once; each track is good in the room's
-- table; and none is near the end of its numbers.
pub record AreSoundTracks (table : Table) (tracks : List TrackState) : Type 0 where
  pub together : Together tracks
  pub good : All (λ t. IsGood table t) tracks
  pub roomy : All IsRoomy tracks

-- so they are at every point: after the first n entries, for each n
abbrev pub StaySound : Opening → History → Type 0
StaySound o h = (n : ℕ) → IsSomeAnd (state_at (room_of (setting_of o)) (fresh_tracks o.tracks) h n) (λ kept. AreSoundTracks o.table (nows kept))

-- The journal is a legal serial history of the opening with entries of these stations alone. It has a text, which is read
-- again as this journal. The tracks are sound at every point of it.
pub record IsJournalOf (o : Opening) (stations : ℕ) (h : History) : Type 0 where
  pub legal : IsLegalIn o h
  pub seated : AreOfStations stations h
  pub text : HasText h
  pub sound : StaySound o h
