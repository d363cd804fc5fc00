use Rattle.std.proofs.Common.{◌≡◌, ◌≤◌, ◌+◌, drop, length}
use Rattle.part_sets.specs.Members.{members}
use Rattle.part_sets.proofs.Looking.{members_after}
use Rattle.take_back.specs.Parts.{first_not}
use Rattle.take_back.specs.Rules.{passes}
use Rattle.take_back.proofs.back.first_not.Given as goal

abbrev pub invariant-loop-number : goal.invariant-loop-number
invariant-loop-number g l = record {
  few : l.at ≤ l.number;
  as_many : l.at + length (members_after l.tracks l.number) ≡ length l.parts;
  first : first_not (passes l.rule) (members_after l.tracks l.number) (drop l.at l.parts) ≡ first_not (passes l.rule)
      (members l.tracks) l.parts;
}
