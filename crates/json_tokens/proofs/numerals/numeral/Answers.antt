use Rattle.json_tokens.proofs.NumeralLaws.{some_kept, none_kept}
use Rattle.json_tokens.proofs.numerals.numeral.Goals as goal

pub returns-clause-found : goal.returns-clause-found
returns-clause-found c = some_kept c.args.text.now c.whole_text.result c.whole_text.ensures

pub returns-clause-none : goal.returns-clause-none
returns-clause-none c = none_kept c.args.text.now c.whole_text.result c.whole_text.ensures
