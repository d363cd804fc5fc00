use Rattle.std.proofs.Common.{◌≡◌, drop, map, option_map}
use Rattle.std.specs.Option.{option_or}
use Rattle.json_tree.specs.Tree.{last_named}
use Rattle.json_tree.specs.View.{tree_of, member_of}
use Rattle.json_tree.proofs.lookup.last_of.Given as goal

abbrev pub invariant-loop-member : goal.invariant-loop-member
invariant-loop-member l = option_or (last_named l.name (map member_of (drop l.member-index l.members))) (option_map (λ j. tree_of j.now) l.found) ≡ last_named l.name (map member_of l.members)
