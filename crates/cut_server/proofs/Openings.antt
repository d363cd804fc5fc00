-- A plain room has a track.
use Rattle.std.proofs.Common.{◌≡◌, ℕ, ◌<◌, ◌≤◌, length, sym, arith, subst}
use Rattle.std.proofs.lemmas.List.FromFn.{length-map-range_with_len}
use Rattle.otio_json.specs.declared.opening.Opening.{Opening}
use Rattle.otio_json.specs.Openings.{plain_opening, empty_track}
use Rattle.command_words.specs.Commands.{least_tracks}

pub plain_some : (o : Opening) (tracks reels : ℕ) → least_tracks ≤ tracks → o ≡ plain_opening tracks reels → 0 < length o.tracks
plain_some o tracks reels least is =
    let count = length-map-range_with_len empty_track 0 tracks in
    let some : 0 < length (plain_opening tracks reels).tracks = omega (arith, count, least) in
    subst (λ (x : Opening). 0 < length x.tracks) (sym is) some
