use Rattle.std.proofs.Common.{◌≡◌, ◌++◌, [], Some, map, drop}
use Rattle.std.specs.Option.{option_map}
use Rattle.line_words.specs.Pieces.{lines_in_pieces}
use Rattle.test_words.proofs.lines.kept_lines.Given as goal

abbrev pub invariant-loop-piece : goal.invariant-loop-piece
invariant-loop-piece l =
    map (option_map (λ bytes. bytes.items)) l.lines.items ++ lines_in_pieces l.reader.pending (map (λ piece. piece.now) (drop l.piece-index l.pieces))
    ≡ lines_in_pieces (Some []) (map (λ piece. piece.now) l.pieces)
