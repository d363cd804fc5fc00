use Rattle.std.proofs.Common.{rules}
use Rattle.ratio_time.proofs.Exactly.{told_ok, told_value, told_not_on_frame, told_too_far, told_frame, told_far, told_between}
use Rattle.ratio_time.proofs.time.RationalTime.frames_at.Goals as goal

pub returns-then-ceiling_at-frame-clause-ok : goal.returns-then-ceiling_at-frame-clause-ok
returns-then-ceiling_at-frame-clause-ok c =
    told_ok c.args.self.now c.args.rate.now _ (told_between c.args.self.now c.args.rate.now _ _ c.ceiling_at.ensures c.floor_at-frame.ensures.rounded c.if-ceiling_at-frame.true)

pub returns-then-ceiling_at-frame-clause-not_on_frame : goal.returns-then-ceiling_at-frame-clause-not_on_frame
returns-then-ceiling_at-frame-clause-not_on_frame c =
    told_not_on_frame c.args.self.now c.args.rate.now _ (told_between c.args.self.now c.args.rate.now _ _ c.ceiling_at.ensures c.floor_at-frame.ensures.rounded c.if-ceiling_at-frame.true)

pub returns-then-ceiling_at-frame-clause-too_far : goal.returns-then-ceiling_at-frame-clause-too_far
returns-then-ceiling_at-frame-clause-too_far c =
    told_too_far c.args.self.now c.args.rate.now _ (told_between c.args.self.now c.args.rate.now _ _ c.ceiling_at.ensures c.floor_at-frame.ensures.rounded c.if-ceiling_at-frame.true)

pub returns-in-Ok-clause-ok : goal.returns-in-Ok-clause-ok
returns-in-Ok-clause-ok c =
    told_ok c.args.self.now c.args.rate.now _ (told_frame c.args.self.now c.args.rate.now c.ceiling_at.result c.floor_at-frame.result c.in-Ok.frame (search rules) (search rules) c.ceiling_at.ensures c.floor_at-frame.ensures.rounded c.if-ceiling_at-frame.false c.in-Ok.ensures.near.0 c.in-Ok.ensures.near.1)

pub returns-in-Ok-clause-too_far : goal.returns-in-Ok-clause-too_far
returns-in-Ok-clause-too_far c =
    told_too_far c.args.self.now c.args.rate.now _ (told_frame c.args.self.now c.args.rate.now c.ceiling_at.result c.floor_at-frame.result c.in-Ok.frame (search rules) (search rules) c.ceiling_at.ensures c.floor_at-frame.ensures.rounded c.if-ceiling_at-frame.false c.in-Ok.ensures.near.0 c.in-Ok.ensures.near.1)

pub returns-in-Err-clause-ok : goal.returns-in-Err-clause-ok
returns-in-Err-clause-ok c =
    told_ok c.args.self.now c.args.rate.now _ (told_far c.args.self.now c.args.rate.now c.ceiling_at.result c.floor_at-frame.result (search rules) (search rules) c.ceiling_at.ensures c.floor_at-frame.ensures.rounded c.if-ceiling_at-frame.false c.in-Err.ensures.too_far)

pub returns-then-ceiling_at-frame-clause-value : goal.returns-then-ceiling_at-frame-clause-value
returns-then-ceiling_at-frame-clause-value c =
    told_value c.args.self.now c.args.rate.now _ (told_between c.args.self.now c.args.rate.now _ _ c.ceiling_at.ensures c.floor_at-frame.ensures.rounded c.if-ceiling_at-frame.true)

pub returns-in-Ok-clause-value : goal.returns-in-Ok-clause-value
returns-in-Ok-clause-value c =
    told_value c.args.self.now c.args.rate.now _ (told_frame c.args.self.now c.args.rate.now c.ceiling_at.result c.floor_at-frame.result c.in-Ok.frame (search rules) (search rules) c.ceiling_at.ensures c.floor_at-frame.ensures.rounded c.if-ceiling_at-frame.false c.in-Ok.ensures.near.0 c.in-Ok.ensures.near.1)

pub returns-in-Err-clause-value : goal.returns-in-Err-clause-value
returns-in-Err-clause-value c =
    told_value c.args.self.now c.args.rate.now _ (told_far c.args.self.now c.args.rate.now c.ceiling_at.result c.floor_at-frame.result (search rules) (search rules) c.ceiling_at.ensures c.floor_at-frame.ensures.rounded c.if-ceiling_at-frame.false c.in-Err.ensures.too_far)
