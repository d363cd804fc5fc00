use Rattle.std.proofs.Common.{rules}
use Rattle.line_table.proofs.RowWords.{four_words}
use Rattle.line_table.proofs.reading.dissolve.Goals as goal

pub returns-in_err-a-in-len4-clause-read : goal.returns-in_err-a-in-len4-clause-read
returns-in_err-a-in-len4-clause-read c = let words = four_words c.args.words.now c.in-len4.len_at_least c.in-len4.len_below in rw words (search rules)
