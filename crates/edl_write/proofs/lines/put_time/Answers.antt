use Rattle.std.proofs.Common.{refl}
use Rattle.edl_write.proofs.Labels.{two_digits}
use Rattle.edl_write.proofs.Texts.{no_label}
use Rattle.edl_write.proofs.lines.put_time.Goals as goal

pub label_text-requires-clause-fields : goal.label_text-requires-clause-fields
label_text-requires-clause-fields c = two_digits c.args.counting.now c.in-Ok.label c.args.frame c.in-Ok.ensures.label

pub returns-in-Err : goal.returns-in-Err
returns-in-Err c = no_label c.args.counting.now c.args.frame c.args.out.now.items (c.in-Err.ensures.past_day.0 refl)
