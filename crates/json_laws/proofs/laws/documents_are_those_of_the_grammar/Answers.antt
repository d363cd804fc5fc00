use Rattle.json_laws.proofs.Documents.{documents_read, documents_refused}
use Rattle.json_laws.proofs.laws.documents_are_those_of_the_grammar.Goals as goal

pub returns-clause-read : goal.returns-clause-read
returns-clause-read c = documents_read

pub returns-clause-refused : goal.returns-clause-refused
returns-clause-refused c = documents_refused
