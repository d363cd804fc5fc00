use Rattle.std.proofs.Common.{sym, arith}
use Rattle.edit_apply.proofs.SetNames.{set-tracks}
use Rattle.edit_apply.proofs.naming.set_named.Goals as goal

pub returns-in-Many : goal.returns-in-Many
returns-in-Many c = rw c.in-Many.is (sym (set-tracks c.in-Many.tracks (omega arith)))
