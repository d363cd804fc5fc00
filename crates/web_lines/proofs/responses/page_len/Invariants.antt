use Rattle.std.proofs.Common.{◌≡◌, ◌+◌, drop, length}
use Rattle.web_lines.specs.Responses.{page_bytes}
use Rattle.web_lines.proofs.responses.page_len.Given as goal

abbrev pub invariant-loop-piece : goal.invariant-loop-piece
invariant-loop-piece l = l.len + length (page_bytes (drop l.piece-index l.pieces)) ≡ length (page_bytes l.pieces)
