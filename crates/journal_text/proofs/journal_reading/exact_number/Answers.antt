use Rattle.std.proofs.Common.{sym, ◌∙◌}
use Rattle.journal_text.proofs.JournalSteps.{other_number, no_number, differ}
use Rattle.journal_text.proofs.journal_reading.exact_number.Goals as goal

pub returns-in-Err : goal.returns-in-Err
returns-in-Err c = no_number c.args.word.now c.in-Err.field-0 (sym c.in-Err.ensures)

pub returns-else-eq : goal.returns-else-eq
returns-else-eq c = other_number c.args.word.now c.in-Ok.read (sym c.in-Ok.ensures)
    (λ same. differ c.as_bytes.result.now c.args.word.now (sym c.eq.ensures ∙ c.if-eq.false) (c.as_bytes.ensures.value ∙ c.format.ensures.text ∙ same))
