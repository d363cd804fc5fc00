use Rattle.std.proofs.Common.{sym, ◌∙◌}
use Rattle.line_table.proofs.LikelyFirst.{none_likely}
use Rattle.line_table.proofs.first_words.FirstWord.of_word.Goals as goal

pub returns-else-eq : goal.returns-else-eq
returns-else-eq c = none_likely c.args.word.now c.text.result.now c.in-Some.first _ _ _ (sym c.likely.ensures ∙ c.in-Some.is) c.text.ensures (sym c.eq.ensures ∙ c.if-eq.false)
