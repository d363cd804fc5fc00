use Rattle.std.proofs.Common.{rules}
use Rattle.line_table.proofs.RowWords.{five_words}
use Rattle.line_table.proofs.reading.ripple.Goals as goal

pub returns-in_err-track-in-len5-clause-read : goal.returns-in_err-track-in-len5-clause-read
returns-in_err-track-in-len5-clause-read c = let words = five_words c.args.words.now c.in-len5.len_at_least c.in-len5.len_below in rw words (search rules)

pub returns-in_err-item-in-len5-clause-read : goal.returns-in_err-item-in-len5-clause-read
returns-in_err-item-in-len5-clause-read c = let words = five_words c.args.words.now c.in-len5.len_at_least c.in-len5.len_below in rw words (search rules)

pub returns-in_err-end-in-len5-clause-read : goal.returns-in_err-end-in-len5-clause-read
returns-in_err-end-in-len5-clause-read c = let words = five_words c.args.words.now c.in-len5.len_at_least c.in-len5.len_below in rw words (search rules)

pub returns-in_err-by-in-len5-clause-read : goal.returns-in_err-by-in-len5-clause-read
returns-in_err-by-in-len5-clause-read c = let words = five_words c.args.words.now c.in-len5.len_at_least c.in-len5.len_below in rw words (search rules)
