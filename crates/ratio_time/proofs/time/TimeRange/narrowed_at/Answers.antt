use Rattle.std.proofs.Common.{rules, Ok, to_z, of_z, w64}
use Rattle.ratio_time.proofs.Exactly.{narrows_ok, narrows_value, narrows_too_far, narrows_range, narrows_far}
use Rattle.ratio_time.proofs.time.TimeRange.narrowed_at.Goals as goal

pub returns-in_err-near-clause-ok : goal.returns-in_err-near-clause-ok
returns-in_err-near-clause-ok c =
    narrows_ok c.args.self.now c.args.rate.now _
    (narrows_far c.args.self.now c.args.rate.now c.ceiling_at-from.result c.floor_at.result c.floor_at-2.result c.from_residual.result (search rules) c.floor_at.ensures.size c.floor_at-2.ensures.size c.ceiling_at-from.ensures c.floor_at.ensures.rounded c.floor_at-2.ensures.rounded c.from_residual.ensures.0 (λ near. c.in_err-near.ensures.too_far near.0))

pub returns-in_err-near-clause-too_far : goal.returns-in_err-near-clause-too_far
returns-in_err-near-clause-too_far c =
    narrows_too_far c.args.self.now c.args.rate.now _
    (narrows_far c.args.self.now c.args.rate.now c.ceiling_at-from.result c.floor_at.result c.floor_at-2.result c.from_residual.result (search rules) c.floor_at.ensures.size c.floor_at-2.ensures.size c.ceiling_at-from.ensures c.floor_at.ensures.rounded c.floor_at-2.ensures.rounded c.from_residual.ensures.0 (λ near. c.in_err-near.ensures.too_far near.0))

pub returns-in_err-near-2-clause-ok : goal.returns-in_err-near-2-clause-ok
returns-in_err-near-2-clause-ok c =
    narrows_ok c.args.self.now c.args.rate.now _
    (narrows_far c.args.self.now c.args.rate.now c.ceiling_at-from.result c.floor_at.result c.floor_at-2.result c.from_residual-in_err-near-2.result (search rules) c.floor_at.ensures.size c.floor_at-2.ensures.size c.ceiling_at-from.ensures c.floor_at.ensures.rounded c.floor_at-2.ensures.rounded c.from_residual-in_err-near-2.ensures.0 (λ near. c.in_err-near-2.ensures.too_far near.1))

pub returns-in_err-near-2-clause-too_far : goal.returns-in_err-near-2-clause-too_far
returns-in_err-near-2-clause-too_far c =
    narrows_too_far c.args.self.now c.args.rate.now _
    (narrows_far c.args.self.now c.args.rate.now c.ceiling_at-from.result c.floor_at.result c.floor_at-2.result c.from_residual-in_err-near-2.result (search rules) c.floor_at.ensures.size c.floor_at-2.ensures.size c.ceiling_at-from.ensures c.floor_at.ensures.rounded c.floor_at-2.ensures.rounded c.from_residual-in_err-near-2.ensures.0 (λ near. c.in_err-near-2.ensures.too_far near.1))

pub returns-clause-ok : goal.returns-clause-ok
returns-clause-ok c =
    narrows_ok c.args.self.now c.args.rate.now _
    (narrows_range c.args.self.now c.args.rate.now c.ceiling_at-from.result c.floor_at.result c.floor_at-2.result c.in_ok-near.field-0 c.in_ok-near-2.field-0 (search rules) c.floor_at.ensures.size c.floor_at-2.ensures.size c.ceiling_at-from.ensures c.floor_at.ensures.rounded c.floor_at-2.ensures.rounded c.in_ok-near.ensures.near c.in_ok-near-2.ensures.near)

pub returns-clause-too_far : goal.returns-clause-too_far
returns-clause-too_far c =
    narrows_too_far c.args.self.now c.args.rate.now (Ok (to_z w64 (of_z w64 c.in_ok-near.field-0), to_z w64 (of_z w64 c.in_ok-near-2.field-0)))
    (narrows_range c.args.self.now c.args.rate.now c.ceiling_at-from.result c.floor_at.result c.floor_at-2.result c.in_ok-near.field-0 c.in_ok-near-2.field-0 (search rules) c.floor_at.ensures.size c.floor_at-2.ensures.size c.ceiling_at-from.ensures c.floor_at.ensures.rounded c.floor_at-2.ensures.rounded c.in_ok-near.ensures.near c.in_ok-near-2.ensures.near)

pub returns-in_err-near-clause-value : goal.returns-in_err-near-clause-value
returns-in_err-near-clause-value c =
    narrows_value c.args.self.now c.args.rate.now _
    (narrows_far c.args.self.now c.args.rate.now c.ceiling_at-from.result c.floor_at.result c.floor_at-2.result c.from_residual.result (search rules) c.floor_at.ensures.size c.floor_at-2.ensures.size c.ceiling_at-from.ensures c.floor_at.ensures.rounded c.floor_at-2.ensures.rounded c.from_residual.ensures.0 (λ near. c.in_err-near.ensures.too_far near.0))

pub returns-in_err-near-2-clause-value : goal.returns-in_err-near-2-clause-value
returns-in_err-near-2-clause-value c =
    narrows_value c.args.self.now c.args.rate.now _
    (narrows_far c.args.self.now c.args.rate.now c.ceiling_at-from.result c.floor_at.result c.floor_at-2.result c.from_residual-in_err-near-2.result (search rules) c.floor_at.ensures.size c.floor_at-2.ensures.size c.ceiling_at-from.ensures c.floor_at.ensures.rounded c.floor_at-2.ensures.rounded c.from_residual-in_err-near-2.ensures.0 (λ near. c.in_err-near-2.ensures.too_far near.1))

pub returns-clause-value : goal.returns-clause-value
returns-clause-value c =
    narrows_value c.args.self.now c.args.rate.now (Ok (to_z w64 (of_z w64 c.in_ok-near.field-0), to_z w64 (of_z w64 c.in_ok-near-2.field-0)))
    (narrows_range c.args.self.now c.args.rate.now c.ceiling_at-from.result c.floor_at.result c.floor_at-2.result c.in_ok-near.field-0 c.in_ok-near-2.field-0 (search rules) c.floor_at.ensures.size c.floor_at-2.ensures.size c.ceiling_at-from.ensures c.floor_at.ensures.rounded c.floor_at-2.ensures.rounded c.in_ok-near.ensures.near c.in_ok-near-2.ensures.near)
