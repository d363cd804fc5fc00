use Rattle.std.proofs.Common.{ap, arith}
use Rattle.otio_tracks.specs.Rows.{row_frames}
use Rattle.otio_tracks.proofs.RowFrames.{kept_frames}
use Rattle.otio_tracks.proofs.rows.Row.add.Goals as goal

pub returns-clause-frames : goal.returns-clause-frames
returns-clause-frames c = omega (arith, ap row_frames c.in_ok-keep.ensures.ok, kept_frames c.args.self.now c.args.next.now c.in_ok-mark.mark, c.requires.short)
