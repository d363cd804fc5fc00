use Rattle.audit_command.proofs.Along.{never_unfit}
use Rattle.audit_command.proofs.tells.go_to.Goals as goal

pub unreachable-requires : goal.unreachable-requires
unreachable-requires c =
    never_unfit c.args.room.now c.args.walk.now c.in-Err-Refused.field-0-0 c.requires.audited
    (rw c.in-Err-Refused.field-0-is at c.in-Err-Refused.ensures.fault)
