use Rattle.std.proofs.Common.{arith}
use Rattle.room_ports.proofs.Piecewise.{reads_piece}
use Rattle.room_ports.proofs.pieces.PieceReader.read.Goals as goal

pub returns-then-self-piece : goal.returns-then-self-piece
returns-then-self-piece c =
    reads_piece c.loop-self.self-inside.pieces.items _ _ c.index.result.now _ _ _ _ _ _ _
    (omega (arith, c.loop-self-test.true, c.len.ensures, c.loop-self.self-inside.pieces.ok)) c.index.ensures c.as_slice-piece.ensures.value c.if-self-piece.true c.split_at.ensures.back
    c.loop-self.invariant.left c.loop-self.invariant.buffer c.min-n.ensures c.copy_from_slice.ensures.after
