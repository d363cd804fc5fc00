use Rattle.std.proofs.Common.{◌≡◌, ◌∙◌, [], Ok, arith}
use Rattle.std.specs.List.{slice_split}
use Rattle.line_words.specs.Lines.{is_lf}
use Rattle.crew_words.specs.Crews.{IsNoCrew, line_read}
use Rattle.crew_words.specs.declared.crew.CrewFault.{CrewFault}
use Rattle.crew_words.proofs.Reading.{first_err, first_ok, when_err, when_ok}
use Rattle.crew_words.proofs.crew.Crew.read_lines.Goals as goal

pub loop-line-preserved : goal.loop-line-preserved
loop-line-preserved c = record {
  small = omega (arith, c.in-Some.ensures.shorter);
  same =
      c.loop-line.invariant.same
      ∙ first_ok c.loop-line.self c.read_line.new.self c.loop-line.number c.in-Some.line.now (slice_split is_lf c.in-Some.after.now) _
      c.in-Some.ensures.lines c.in-Ok.ensures.ok;
}

pub returns-in-Err-clause-err : goal.returns-in-Err-clause-err
returns-in-Err-clause-err c =
    rw c.loop-line.invariant.same
    (first_err c.loop-line.self c.loop-line.number c.in-Some.line.now (slice_split is_lf c.in-Some.after.now) _ c.in-Err.fault
    c.in-Some.ensures.lines c.in-Err.ensures.err)

pub returns-clause-ok : goal.returns-clause-ok
returns-clause-ok c =
    rw c.loop-line.invariant.same
    (when_ok c.read_line-2.result _ _
    (λ (ok : line_read c.loop-line.self c.loop-line.number c.loop-line.rest.now ≡ Ok c.read_line-2.new.self).
    first_ok c.loop-line.self c.read_line-2.new.self c.loop-line.number c.loop-line.rest.now [] _ c.in_default.ensures.lines ok)
    c.read_line-2.ensures.ok)

pub returns-clause-err : goal.returns-clause-err
returns-clause-err c =
    rw c.loop-line.invariant.same
    (when_err c.read_line-2.result _ _
    (λ (fault : CrewFault) (err : IsNoCrew (line_read c.loop-line.self c.loop-line.number c.loop-line.rest.now) fault).
    first_err c.loop-line.self c.loop-line.number c.loop-line.rest.now [] _ fault c.in_default.ensures.lines err)
    c.read_line-2.ensures.err)
