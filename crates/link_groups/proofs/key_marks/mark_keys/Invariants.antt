use Rattle.std.proofs.Common.{◌≡◌, ℕ, nat_eq, take, true}
use Rattle.std.specs.List.{list_any}
use Rattle.link_groups.specs.Keys.{may_be}
use Rattle.link_groups.proofs.key_marks.mark_keys.Given as goal

abbrev pub invariant-loop-key : goal.invariant-loop-key
invariant-loop-key l = record {
  grows : (k : ℕ) → may_be l.parts l.fn.row k ≡ true → may_be l.parts l.row k ≡ true;
  marked : (k : ℕ) → list_any (nat_eq k) (take l.key-index l.keys) ≡ true → may_be l.parts l.row k ≡ true;
}
