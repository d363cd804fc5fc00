use Rattle.std.proofs.Common.{◌≡◌, ◌-◌, vec_len}
use Rattle.room_ports.specs.Pieces.{without_empty, left_from}
use Rattle.room_ports.proofs.pieces.PieceReader.read.Given as goal

abbrev pub invariant-loop-self : goal.invariant-loop-self
invariant-loop-self l = record {
  left : without_empty (left_from l.self-inside.pieces.items l.self-inside.piece l.self-inside.at) ≡ without_empty l.fn.self;
  buffer : l.into ≡ l.fn.into;
}

abbrev pub decreases-loop-self : goal.decreases-loop-self
decreases-loop-self l = vec_len l.self-inside.pieces - l.self-inside.piece
