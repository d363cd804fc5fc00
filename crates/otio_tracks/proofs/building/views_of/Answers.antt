use Rattle.std.proofs.Common.{None, arith}
use Rattle.frame_meaning.specs.declared.frames.Side.TheVariants.{Dark}
use Rattle.otio_tracks.proofs.RowFrames.{len_below}
use Rattle.otio_tracks.proofs.building.views_of.Goals as goal

pub view_of-requires : goal.view_of-requires
view_of-requires c = omega (arith, len_below c.args.parts.now c.loop-part.part-index (record { first = Dark; len = 0; mark = None; from = 0; to = 0 }) c.loop-part-test.true, c.requires.frames)
