use Rattle.std.proofs.Common.{◌≡◌, ℕ, true, ◌||◌}
use Rattle.std.specs.BTreeMap.{is_at}
use Rattle.std.specs.BTreeSet.{contains}
use Rattle.std.specs.List.{list_any}
use Rattle.link_groups.specs.Keys.{may_have, pair_key}
use Rattle.link_groups.specs.Splits.{key_cmp}
use Rattle.link_groups.proofs.meeting.keys_of.Given as goal

-- each key is marked, or is of a link that is left
abbrev pub invariant-loop-link : goal.invariant-loop-link
invariant-loop-link l = (q : ℕ × ℕ) → contains key_cmp l.links q ≡ true → (may_have l.marks (pair_key q) || list_any (is_at (key_cmp q)) l.link-iterator) ≡ true
