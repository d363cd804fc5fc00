use Rattle.json_laws.proofs.Tokens.{texts_read, texts_spelled}
use Rattle.json_laws.proofs.laws.texts_are_those_of_the_grammar.Goals as goal

pub returns-clause-spelled : goal.returns-clause-spelled
returns-clause-spelled c = texts_spelled

pub returns-clause-read : goal.returns-clause-read
returns-clause-read c = texts_read
