use Rattle.std.proofs.Common.{◌∙◌, length, sym, subst, ap, arith, inr}
use Rattle.journal_file.specs.Reading.{HasGateAt}
use Rattle.journal_file.proofs.Files.{copied_same}
use Rattle.journal_file.proofs.reading.records_in.Goals as goal

pub returns-then-count-gt-MOST_RECORDS-clause-fault : goal.returns-then-count-gt-MOST_RECORDS-clause-fault
returns-then-count-gt-MOST_RECORDS-clause-fault c =
    let k = c.in_ok-count.ensures.kept in
    (c.if-count-gt-MOST_RECORDS.true, (k.lines, inr (c.requires.long, k.gate.has), k.counts))

pub returns-clause-kept : goal.returns-clause-kept
returns-clause-kept c =
    let k = c.in_ok-count.ensures.kept in
    let same = copied_same c.args.bytes.now k.lines c.in_ok-records.records.items c.in_ok-count.gate c.in_ok-records.field-0-1.now k.gate
    c.in_ok-records.ensures.lines (sym c.split_at.ensures.back ∙ c.in_ok-records.ensures.parts)
    c.in_ok-records.ensures.no_more in
    subst (λ ls. HasGateAt c.args.bytes.now ls c.in_ok-count.gate) same k.gate

pub returns-clause-few : goal.returns-clause-few
returns-clause-few c =
    let k = c.in_ok-count.ensures.kept in
    let same = copied_same c.args.bytes.now k.lines c.in_ok-records.records.items c.in_ok-count.gate c.in_ok-records.field-0-1.now k.gate
    c.in_ok-records.ensures.lines (sym c.split_at.ensures.back ∙ c.in_ok-records.ensures.parts)
    c.in_ok-records.ensures.no_more in
    omega (arith, k.counts, ap length same, c.if-count-gt-MOST_RECORDS.false)
