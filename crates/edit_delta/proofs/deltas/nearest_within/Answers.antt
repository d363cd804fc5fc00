use Rattle.edit_delta.proofs.Clamping.{is-asked-later, is-end-later, is-end-earlier}
use Rattle.edit_delta.proofs.deltas.nearest_within.Goals as goal

pub returns-else-asked-earlier : goal.returns-else-asked-earlier
returns-else-asked-earlier c = is-end-earlier c.args.by c.args.earlier c.args.later c.unsigned_abs-asked.result c.ranges.by c.if-by-lt0.true c.unsigned_abs-asked.ensures.value c.if-asked-earlier.false c.unsigned_abs-asked.ensures.bound

pub returns-then-asked-later : goal.returns-then-asked-later
returns-then-asked-later c = is-asked-later c.args.by c.args.earlier c.args.later c.unsigned_abs-asked.result c.ranges.by c.if-by-lt0.false c.unsigned_abs-asked.ensures.value c.if-asked-later.true

pub returns-else-asked-later : goal.returns-else-asked-later
returns-else-asked-later c = is-end-later c.args.by c.args.earlier c.args.later c.unsigned_abs-asked.result c.ranges.by c.if-by-lt0.false c.unsigned_abs-asked.ensures.value c.if-asked-later.false c.unsigned_abs-asked.ensures.bound
