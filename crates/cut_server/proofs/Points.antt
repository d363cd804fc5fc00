-- The cut at a point of a room's history is what the edits come to that are left there.
use Rattle.std.proofs.Common.{◌≡◌, ℕ, zero, suc, ◌<◌, ◌≤◌, List, [], ◌∷◌, Option, Some, None, IsSome, IsSomeAnd, length, take, refl, sym, subst, arith}
use Rattle.std.proofs.Math.Seq.{take-length}
use Rattle.cut_room.proofs.Journals.{front_applies}
use Rattle.cut_steps.proofs.Left.{cuts_are_left, left_is_legal}
use Rattle.cut_steps.specs.CutSteps.{KeptTrack, fresh_tracks, left_edits, stepping}
use Rattle.command_files.proofs.Openings.{sound_opens}
use Rattle.composables.specs.TrackState.{TrackState}
use Rattle.edit_apply.specs.Apply.{editing}
use Rattle.otio_json.specs.Soundness.{IsSoundOpening}
use Rattle.otio_json.specs.declared.opening.Opening.{Opening}
use Rattle.otio_laws.specs.Meanings.{IsReadAgain}
use Rattle.otio_laws.specs.Points.{cut_of, tracks_at}
use Rattle.otio_laws.specs.SoundCuts.{IsSoundCut}
use Rattle.otio_laws.proofs.Points.{points_are_read_again, points_are_sound_cuts}
use Rattle.otio_tracks.specs.ReelTexts.{AreTexts}
use Rattle.room_core.specs.History.{IsLegal, replay}
use Rattle.room_core.specs.Whole.{whole}
use Rattle.served_rooms.proofs.Sound.{comes_to, front_legal}
use Rattle.station_sessions.specs.Rooms.{History, IsLegalIn}
use Rattle.take_back.specs.Parts.{nows}
use Rattle.cut_server.specs.Points.{RoomsAreReadAgain, RoomsAreSoundCuts, kept_at}

-- of what is left the whole is there at its own length
there : (P : List TrackState → Type 0) (found : Option (List TrackState)) (tracks : List TrackState) → found ≡ Some tracks → IsSomeAnd found P → P tracks
there P found tracks is holds = subst (λ (f : Option (List TrackState)). IsSomeAnd f P) is holds

module _ (o : Opening) (h : History) (n : ℕ) (sound : IsSoundOpening o) (some : 0 < length o.tracks) (legal : IsLegalIn o h) (P : List TrackState → Type 0)
    (holds : (entries : List _) → IsLegal (whole (editing o.table)) o.tracks entries → IsSomeAnd (tracks_at o entries (length entries)) P) where
  at_kept : (kept : List KeptTrack) → kept_at o h n ≡ Some kept → P (nows kept)
  at_kept kept comes =
      let opens = sound_opens o sound some in
      let front = front_legal o h n kept legal comes in
      let edits = left_edits (take n h) in
      let all = take-length edits in
      let left = cuts_are_left o.table o.tracks (take n h) kept opens comes in
      let found : tracks_at o edits (length edits) ≡ Some (nows kept) = subst (λ es. replay (whole (editing o.table)) o.tracks es ≡ Some (nows kept)) (sym all) left in
      there P (tracks_at o edits (length edits)) (nows kept) found (holds edits (left_is_legal o.table o.tracks (take n h) kept opens front comes))

  pub at_point : IsSomeAnd (kept_at o h n) (λ kept. P (nows kept))
  at_point = by (kept_at o h n) refl where
    by : (found : Option (List KeptTrack)) → kept_at o h n ≡ found → IsSomeAnd found (λ kept. P (nows kept))
    by None e =
        let all = comes_to (replay (whole (stepping o.table)) (fresh_tracks o.tracks) h) legal.applies in
        absurd (front_applies (whole (stepping o.table)) (fresh_tracks o.tracks) all.0 h n all.1 e)
    by (Some kept) e = at_kept kept e

pub rooms_are_sound_cuts : RoomsAreSoundCuts
rooms_are_sound_cuts o h n sound some legal =
    at_point o h n sound some legal (λ tracks. IsSoundCut (cut_of o tracks)) (λ entries is. points_are_sound_cuts o entries (length entries) sound is)

pub rooms_are_read_again : RoomsAreReadAgain
rooms_are_read_again o h n sound some texts legal =
    at_point o h n sound some legal (λ tracks. IsReadAgain (cut_of o tracks)) (λ entries is. points_are_read_again o entries (length entries) sound texts is)
