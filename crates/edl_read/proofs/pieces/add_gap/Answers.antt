use Rattle.std.proofs.Common.{◌-◌, sym}
use Rattle.edl_read.proofs.EventFrames.{dark_later}
use Rattle.edl_read.proofs.pieces.add_gap.Goals as goal

pub append_piece-requires-clause-piece : goal.append_piece-requires-clause-piece
append_piece-requires-clause-piece c some = sym (dark_later (c.args.to - c.args.at - 1))
