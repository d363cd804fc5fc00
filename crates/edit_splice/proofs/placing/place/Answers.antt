use Rattle.std.proofs.Common.{arith}
use Rattle.edit_splice.proofs.Keeping.{kept_spliced}
use Rattle.edit_splice.proofs.placing.place.Goals as goal

pub splice_within-requires-clause-kept : goal.splice_within-requires-clause-kept
splice_within-requires-clause-kept g c few =
    kept_spliced c.args.keep c.args.track.now c.args.x c.args.y c.args.items.now c.requires.kept c.requires.order c.requires.within c.requires.new
    (omega (arith, c.requires.frames, c.requires.short, c.requires.order, c.requires.within))
