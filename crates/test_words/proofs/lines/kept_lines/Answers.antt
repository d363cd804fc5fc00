use Rattle.std.proofs.Common.{◌≡◌, ◌++◌, [], List, ℕ, map, drop, sym, ap, ◌∙◌, arith}
use Rattle.std.proofs.lemmas.List.{drop_all}
use Rattle.line_words.specs.Lines.{Line, last_line}
use Rattle.line_words.specs.Pieces.{lines_in_pieces}
use Rattle.line_words.proofs.PieceLaws.{lines_in_pieces_lem}
use Rattle.test_words.proofs.lines.kept_lines.Goals as goal

all_kept : (old new told all : List Line) (p : Line) (rest : List (List ℕ)) → new ≡ old ++ told → told ≡ last_line p → rest ≡ [] → old ++ lines_in_pieces p rest ≡ all → new ≡ all
all_kept old new told all p rest n t r h = n ∙ (ap (λ ls. old ++ ls) (t ∙ sym (ap (lines_in_pieces p) r)) ∙ h)

pub returns : goal.returns
returns c =
    let none = drop_all c.loop-piece.piece-index c.args.pieces.now (omega arith) in
    all_kept _ _ _ _ c.loop-piece.reader.pending (map (λ piece. piece.now) (drop c.loop-piece.piece-index c.args.pieces.now)) c.in_ok-keep_line.ensures c.finish-line.ensures.lines (ap (map (λ piece. piece.now)) none) c.loop-piece.invariant
    ∙ lines_in_pieces_lem (map (λ piece. piece.now) c.args.pieces.now)
