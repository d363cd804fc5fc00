use Rattle.std.proofs.Common.{◌∙◌, sym, arith}
use Rattle.line_words.proofs.BeginLaws.{filled}
use Rattle.line_words.proofs.WordLaws.{words_of-next}
use Rattle.line_words.proofs.next.next_word.Goals as goal

pub returns-clause-words : goal.returns-clause-words
returns-clause-words c =
    sym (c.blanks_end-start.ensures.words ∙ c.begun_end.ensures.words)
    ∙ words_of-next c.args.line.now c.blanks_end-start.result c.word_end.result (filled c.args.line.now _ _ c.word_end.ensures.begins c.if-start-line.false (c.blanks_end-start.ensures.ends c.if-start-line.false) c.word_end.ensures.ends) (omega (arith, c.word_end.ensures.within, c.if-start-line.false)) c.word_end.ensures.no_blank c.word_end.ensures.ends
