use Rattle.std.proofs.Common.{◌≡◌, map}
use Rattle.std.specs.List.{range_with_len}
use Rattle.otio_json.specs.Openings.{empty_track}
use Rattle.otio_json.proofs.opening.empty_tracks.Given as goal

abbrev pub invariant-loop-number : goal.invariant-loop-number
invariant-loop-number l = l.tracks ≡ map empty_track (range_with_len 0 l.number)
