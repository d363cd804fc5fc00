use Rattle.std.proofs.Common.{arith}
use Rattle.edit_splice.proofs.Keeping.{new-weaker}
use Rattle.test_splices.proofs.playing.play.Goals as goal

pub track_of-requires-2-clause-new : goal.track_of-requires-2-clause-new
track_of-requires-2-clause-new g c = new-weaker 4 0 c.args.views.now (omega arith) c.requires.new
