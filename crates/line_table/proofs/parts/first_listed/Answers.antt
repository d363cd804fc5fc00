use Rattle.std.proofs.Common.{rules, sym, ◌∙◌}
use Rattle.line_table.specs.Spelling.{is_comma}
use Rattle.line_table.proofs.ListWords.{split_some, split_none}
use Rattle.line_table.proofs.parts.first_listed.Goals as goal

pub returns-in-Some-clause-words : goal.returns-in-Some-clause-words
returns-in-Some-clause-words c = let split = split_some is_comma c.args.list.now c.in-Some.at (sym c.comma_at.ensures.at ∙ c.in-Some.is) in search rules

pub returns-in-None-clause-words : goal.returns-in-None-clause-words
returns-in-None-clause-words c = let split = split_none is_comma c.args.list.now (sym c.comma_at.ensures.at ∙ c.in-None.is) in search rules
