use Rattle.std.proofs.Common.{◌∙◌, sym, arith}
use Rattle.journal_file.proofs.Lines.{no_feed_all, no_feed_no_line, is_line_at, ends_there}
use Rattle.journal_file.proofs.reading.first_line.Goals as goal

pub returns-in-None-clause-none : goal.returns-in-None-clause-none
returns-in-None-clause-none c = λ _ line after is e. no_feed_no_line c.args.bytes.now line after
    (no_feed_all c.args.bytes.now (sym c.lf_at.ensures.at ∙ c.in-None.is)) e

pub returns-then-end-eq0-clause-none : goal.returns-then-end-eq0-clause-none
returns-then-end-eq0-clause-none c = λ _ line after is e.
    let n = ends_there c.args.bytes.now c.in-Some.end (sym c.lf_at.ensures.at ∙ c.in-Some.is) line after is e in
    absurd (omega (arith, n, is.some, c.if-end-eq0.true))

pub returns-then-end-gt-MOST_LINE-clause-none : goal.returns-then-end-gt-MOST_LINE-clause-none
returns-then-end-gt-MOST_LINE-clause-none c = λ _ line after is e.
    let n = ends_there c.args.bytes.now c.in-Some.end (sym c.lf_at.ensures.at ∙ c.in-Some.is) line after is e in
    absurd (omega (arith, n, is.most, c.if-end-gt-MOST_LINE.true))

pub returns-clause-some : goal.returns-clause-some
returns-clause-some c =
    rw (c.split_at.ensures.front, c.split_at-2.ensures.back, c.split_at.ensures.back)
    (is_line_at c.args.bytes.now c.in-Some.end (sym c.lf_at.ensures.at ∙ c.in-Some.is) c.in-Some.ensures.within
    (omega (arith, c.if-end-eq0.false)) (omega (arith, c.if-end-gt-MOST_LINE.false)))
