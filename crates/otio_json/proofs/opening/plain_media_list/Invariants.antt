use Rattle.std.proofs.Common.{◌≡◌, map}
use Rattle.std.specs.List.{range_with_len}
use Rattle.otio_json.specs.Openings.{plain_media}
use Rattle.otio_json.proofs.opening.plain_media_list.Given as goal

abbrev pub invariant-loop-reel : goal.invariant-loop-reel
invariant-loop-reel l = l.media ≡ map plain_media (range_with_len 0 l.reel)
