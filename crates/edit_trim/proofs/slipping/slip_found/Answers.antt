use Rattle.edit_trim.proofs.Slipped.{no-dark}
use Rattle.edit_trim.proofs.slipping.slip_found.Goals as goal

pub unreachable-requires : goal.unreachable-requires
unreachable-requires c =
    no-dark c.args.table.now c.args.track.now c.args.found.index c.args.call.now.item c.args.found.view c.requires.good
    c.requires.read c.requires.has c.in_default.is
