use Rattle.std.proofs.Common.{rules}
use Rattle.edl_lines.proofs.RowWords.{nine_words}
use Rattle.edl_lines.proofs.event_line.line_of_words.Goals as goal

pub returns-in-len9-clause-read : goal.returns-in-len9-clause-read
returns-in-len9-clause-read c = let words = nine_words c.args.words.now c.in-len9.len_at_least c.in-len9.len_below in rw words (search rules)
