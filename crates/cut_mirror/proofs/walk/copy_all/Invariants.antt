use Rattle.std.proofs.Common.{◌≡◌, ◌++◌, drop}
use Rattle.cut_mirror.proofs.walk.copy_all.Given as goal

abbrev pub invariant-loop-part : goal.invariant-loop-part
invariant-loop-part g l = l.copies.items ++ drop l.part-index l.parts ≡ l.parts
