use Rattle.std.proofs.Common.{arith, inr, get_or, refl}
use Rattle.line_words.specs.Lines.{is_lf}
use Rattle.seat_lines.proofs.Fronts.{at_most_more, found_all, found_begins, found_next, found_within, strictly}
use Rattle.seat_lines.proofs.cut.first_lines.Goals as goal

pub loop-at-init : goal.loop-at-init
loop-at-init c = record { within = omega arith; most = omega arith; found = found_begins c.args.text.now }

pub returns-then-front-most-clause-lines : goal.returns-then-front-most-clause-lines
returns-then-front-most-clause-lines c =
    found_within c.args.text.now c.loop-at.at c.args.may c.loop-at.front.lines c.loop-at.front.bytes (omega arith) c.loop-at.invariant.found

pub loop-at-preserved : goal.loop-at-preserved
loop-at-preserved c =
    let byte = get_or c.args.text.now c.loop-at.at 0 in
    record {
      within = omega arith;
      most =
          at_most_more (is_lf byte) c.loop-at.front.lines c.with_byte-front.result.lines c.args.most c.with_byte-front.ensures.lines
          (strictly c.loop-at.front.lines c.args.most c.loop-at.invariant.most c.if-front-most.false);
      found =
          found_next c.args.text.now c.loop-at.at c.loop-at.front.lines c.loop-at.front.bytes c.with_byte-front.result.lines c.with_byte-front.result.bytes
          byte (omega arith) refl c.with_byte-front.ensures.lines c.with_byte-front.ensures.bytes c.loop-at.invariant.found;
    }

pub returns-clause-lines : goal.returns-clause-lines
returns-clause-lines c =
    found_within c.args.text.now c.loop-at.at c.args.may c.loop-at.front.lines c.loop-at.front.bytes (omega arith) c.loop-at.invariant.found

pub returns-clause-all : goal.returns-clause-all
returns-clause-all c =
    inr (inr (found_all c.args.text.now c.loop-at.at c.args.may c.loop-at.front.lines c.loop-at.front.bytes c.loop-at.invariant.within c.loop-at-test.false
    c.loop-at.invariant.found))
