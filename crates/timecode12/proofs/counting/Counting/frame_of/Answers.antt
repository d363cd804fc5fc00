use Rattle.std.proofs.Common.{refl, sym, ◌∙◌}
use Rattle.timecode12.specs.Places.{frame_value}
use Rattle.timecode12.proofs.Told.{no_large, no_dropped, told_frame}
use Rattle.timecode12.proofs.counting.Counting.frame_of.Goals as goal

pub returns-then-has_large_field-clause-ok : goal.returns-then-has_large_field-clause-ok
returns-then-has_large_field-clause-ok c = λ frame.
    ((λ e. cc), (λ found. absurd (no_large c.args.self.now c.args.label.now frame found (c.has_large_field.ensures.fact.0 c.if-has_large_field.true))))

pub returns-then-is_dropped-clause-ok : goal.returns-then-is_dropped-clause-ok
returns-then-is_dropped-clause-ok c = λ frame.
    ((λ e. cc), (λ found. absurd (no_dropped c.args.self.now c.args.label.now frame found (c.is_dropped.ensures.fact.0 c.if-is_dropped.true))))

pub returns-clause-ok : goal.returns-clause-ok
returns-clause-ok c =
    told_frame c.args.self.now c.units.result.numbers c.units.result.dropped c.frame_at.result c.args.label.now c.units.ensures.numbers c.units.ensures.dropped
    (λ large. let yea = c.has_large_field.ensures.fact.1 large in let nay = c.if-has_large_field.false in cc)
    (λ dropped. let yea = c.is_dropped.ensures.fact.1 dropped in let nay = c.if-is_dropped.false in cc)
    c.frame_at.ensures

pub returns-then-has_large_field-clause-value : goal.returns-then-has_large_field-clause-value
unfolding frame_value
returns-then-has_large_field-clause-value c = rw (sym c.has_large_field.ensures.test ∙ c.if-has_large_field.true) refl

pub returns-then-is_dropped-clause-value : goal.returns-then-is_dropped-clause-value
unfolding frame_value
returns-then-is_dropped-clause-value c =
    rw (sym c.has_large_field.ensures.test ∙ c.if-has_large_field.false, sym c.is_dropped.ensures.test ∙ c.if-is_dropped.true) refl

pub returns-clause-value : goal.returns-clause-value
unfolding frame_value
returns-clause-value c =
    rw (sym c.has_large_field.ensures.test ∙ c.if-has_large_field.false, sym c.is_dropped.ensures.test ∙ c.if-is_dropped.false, c.frame_at.ensures, c.units.ensures.numbers, c.units.ensures.dropped) refl
