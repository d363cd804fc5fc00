use Rattle.std.proofs.Common.{◌≡◌, ◌++◌, drop}
use Rattle.web_lines.specs.Responses.{page_bytes}
use Rattle.web_lines.proofs.responses.add_page.Given as goal

abbrev pub invariant-loop-piece : goal.invariant-loop-piece
invariant-loop-piece l = l.out.items ++ page_bytes (drop l.piece-index l.pieces) ≡ l.fn.out.items ++ page_bytes l.pieces
