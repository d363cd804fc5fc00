use Rattle.std.proofs.Common.{◌≡◌, take}
use Rattle.std.specs.List.{list_any}
use Rattle.link_groups.specs.Keys.{may_be}
use Rattle.link_groups.proofs.key_marks.may_be_any.Given as goal

abbrev pub invariant-loop-key : goal.invariant-loop-key
invariant-loop-key l = l.found ≡ list_any (may_be l.parts l.row) (take l.key-index l.keys)
