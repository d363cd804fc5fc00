use Rattle.std.proofs.Common.{◌≡◌, ◌++◌, drop}
use Rattle.take_back.specs.Parts.{nows}
use Rattle.take_back.proofs.kept.nows_of.Given as goal

abbrev pub invariant-loop-part : goal.invariant-loop-part
invariant-loop-part g l = l.copies.items ++ nows (drop l.part-index l.parts) ≡ nows l.parts
