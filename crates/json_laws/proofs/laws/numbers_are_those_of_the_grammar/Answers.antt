use Rattle.json_laws.proofs.Tokens.{numbers_read, numbers_spelled}
use Rattle.json_laws.proofs.laws.numbers_are_those_of_the_grammar.Goals as goal

pub returns-clause-spelled : goal.returns-clause-spelled
returns-clause-spelled c = numbers_spelled

pub returns-clause-read : goal.returns-clause-read
returns-clause-read c = numbers_read
