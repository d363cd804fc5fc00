use Rattle.std.proofs.Common.{◌∙◌, arith}
use Rattle.command_words.proofs.RecordWords.{cut_at, no_cut}
use Rattle.command_words.proofs.records.is_cut.Goals as goal

pub returns-then-at-count : goal.returns-then-at-count
returns-then-at-count c = c.eq.ensures ∙ cut_at c.args.words.now c.args.at c.word.result.now c.word.ensures

pub returns : goal.returns
returns c = no_cut c.args.words.now c.args.at (omega (arith, c.count.ensures, c.if-at-count.false))
