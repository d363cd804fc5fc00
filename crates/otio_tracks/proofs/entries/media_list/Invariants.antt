use Rattle.std.proofs.Common.{◌≡◌, ◌++◌, drop, map}
use Rattle.otio_tracks.specs.Clips.{media_of}
use Rattle.otio_tracks.proofs.entries.media_list.Given as goal

abbrev pub invariant-loop-key : goal.invariant-loop-key
invariant-loop-key l = l.media ++ map media_of (drop l.key-index l.keys) ≡ map media_of l.keys
