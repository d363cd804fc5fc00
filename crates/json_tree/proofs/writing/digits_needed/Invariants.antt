use Rattle.std.proofs.Common.{◌≡◌, ◌-◌}
use Rattle.json_tree.specs.Writing.{digits_needed}
use Rattle.json_tree.proofs.writing.digits_needed.Given as goal

abbrev pub invariant-loop-count : goal.invariant-loop-count
invariant-loop-count l = digits_needed l.number (18 - l.count) l.count ≡ digits_needed l.number 17 1
