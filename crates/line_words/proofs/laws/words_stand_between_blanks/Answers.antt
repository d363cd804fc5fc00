use Rattle.line_words.proofs.WordLaws.{words_of-blank, words_of-word, words_of-last}
use Rattle.line_words.proofs.laws.words_stand_between_blanks.Goals as goal

pub returns-clause-blank : goal.returns-clause-blank
returns-clause-blank c = words_of-blank

pub returns-clause-word : goal.returns-clause-word
returns-clause-word c = words_of-word

pub returns-clause-last : goal.returns-clause-last
returns-clause-last c = words_of-last
