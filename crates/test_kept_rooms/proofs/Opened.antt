-- A room of two empty tracks can be opened.
use Rattle.std.proofs.Common.{◌≡◌, ℕ, ◌<◌, length, sym, subst, arith}
use Rattle.std.proofs.lemmas.List.FromFn.{length-map-range_with_len}
use Rattle.command_files.proofs.Openings.{sound_opens}
use Rattle.cut_steps.proofs.Left.{can_open}
use Rattle.cut_steps.specs.CutSteps.{fresh_tracks}
use Rattle.take_back.specs.Parts.{CanOpen}
use Rattle.edit_apply.specs.RoomTracks.{IsOpening}
use Rattle.otio_json.specs.Openings.{empty_track, plain_opening}
use Rattle.otio_json.specs.Soundness.{IsSoundOpening}
use Rattle.otio_json.specs.declared.opening.Opening.{Opening}

two_tracks : (o : Opening) → o ≡ plain_opening 2 1 → 0 < length o.tracks
two_tracks o is =
    let some : 0 < length (plain_opening 2 1).tracks = omega (arith, length-map-range_with_len empty_track 0 2) in
    subst (λ (x : Opening). 0 < length x.tracks) (sym is) some

pub two_open : (o : Opening) → o ≡ plain_opening 2 1 → IsSoundOpening o → CanOpen (IsOpening o.table) (fresh_tracks o.tracks)
two_open o is sound = can_open o.table o.tracks (sound_opens o sound (two_tracks o is))
