use Rattle.std.proofs.Common.{◌≡◌, ◌+◌, drop}
use Rattle.otio_tracks.specs.Rows.{frames_in_all}
use Rattle.otio_tracks.proofs.building.frames_in.Given as goal

abbrev pub invariant-loop-part : goal.invariant-loop-part
invariant-loop-part l = l.frames + frames_in_all (drop l.part-index l.parts) ≡ frames_in_all l.parts
