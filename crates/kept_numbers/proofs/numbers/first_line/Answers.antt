use Rattle.std.proofs.Common.{sym, ◌∙◌}
use Rattle.line_words.specs.Lines.{is_lf}
use Rattle.line_table.proofs.ListWords.{none_passes}
use Rattle.journal_text.proofs.JournalSteps.{cut_at}
use Rattle.kept_numbers.proofs.numbers.first_line.Goals as goal

pub returns-in-None : goal.returns-in-None
returns-in-None c = none_passes is_lf c.args.text.now (sym c.lf_at.ensures.at ∙ c.in-None.is)

pub returns : goal.returns
returns c =
    rw (c.split_at.ensures.front, c.split_at-2.ensures.back)
    (cut_at c.args.text.now c.in-Some.at (sym c.lf_at.ensures.at ∙ c.in-Some.is))
