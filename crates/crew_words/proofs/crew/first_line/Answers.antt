use Rattle.std.proofs.Common.{◌∙◌, sym}
use Rattle.line_words.specs.Lines.{is_lf}
use Rattle.crew_words.proofs.Reading.{split_none, split_some}
use Rattle.crew_words.proofs.crew.first_line.Goals as goal

pub returns-in-Some-clause-lines : goal.returns-in-Some-clause-lines
returns-in-Some-clause-lines c =
    rw (c.split_at.ensures.front, c.split_at-in-Some.ensures.back) (split_some is_lf c.args.text.now _ (sym c.lf_at.ensures.at ∙ c.in-Some.is))

pub returns-in-None-clause-lines : goal.returns-in-None-clause-lines
returns-in-None-clause-lines c = split_none is_lf c.args.text.now (sym c.lf_at.ensures.at ∙ c.in-None.is)
