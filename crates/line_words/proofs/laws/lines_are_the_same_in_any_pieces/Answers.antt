use Rattle.line_words.proofs.PieceLaws.{lines_in_pieces_lem}
use Rattle.line_words.proofs.laws.lines_are_the_same_in_any_pieces.Goals as goal

pub returns : goal.returns
returns c = lines_in_pieces_lem
