use Rattle.std.proofs.Common.{◌≡◌, inl, inr, arith}
use Rattle.journal_text.proofs.JournalSteps.{wrong_told}
use Rattle.journal_text.proofs.journal_reading.read_journal.Goals as goal
use Rattle.journal_text.proofs.journal_reading.read_journal.Goals.{then-count-len-via-then-count-len, then-count-len-via-else-count-len+then-len}

pub returns-then-count-len-clause-refused : goal.returns-then-count-len-clause-refused
returns-then-count-len-clause-refused c =
    let length_is = c.in_ok-entries.entries.ok in
    rw c.refused-then-count-len.ensures (elim c.then-count-len.branch [
      | then-count-len-via-then-count-len w ↦ wrong_told c.args.bytes.now c.in-Some.found.1.now c.in-Some.found.0 c.in_ok-entries.entries.items c.in-Some.ensures.0 c.in-Some.ensures.1 c.in_ok-entries.ensures.read
          (inl (λ same. let again : c.in-Some.found.0 ≡ c.len.result = omega (arith, same, c.len.ensures) in w.if-count-len.true again))
      | then-count-len-via-else-count-len+then-len w ↦ wrong_told c.args.bytes.now c.in-Some.found.1.now c.in-Some.found.0 c.in_ok-entries.entries.items c.in-Some.ensures.0 c.in-Some.ensures.1 c.in_ok-entries.ensures.read
          (inr (omega (arith, w.if-count-len.false, w.if-len.true, w.len-else-count-len.ensures, c.len.ensures)))
    ])
