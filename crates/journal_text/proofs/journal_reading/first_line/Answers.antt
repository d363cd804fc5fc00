use Rattle.std.proofs.Common.{sym, ◌∙◌}
use Rattle.line_words.specs.Lines.{is_lf}
use Rattle.journal_text.proofs.JournalSteps.{cut_at}
use Rattle.line_table.proofs.ListWords.{none_passes}
use Rattle.journal_text.proofs.journal_reading.first_line.Goals as goal

pub returns-in_err-at : goal.returns-in_err-at
returns-in_err-at c = rw c.from_residual.ensures (none_passes is_lf c.args.text.now (sym c.lf_at.ensures.at ∙ c.in_err-at.was))

pub returns : goal.returns
returns c =
    let cut = cut_at c.args.text.now c.in_ok-at.at (sym c.lf_at.ensures.at ∙ c.in_ok-at.was) in
    rw c.split_at.ensures.back cut
