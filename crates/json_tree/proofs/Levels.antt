-- What may stand in a list or an object, by the levels that are left.
use Rattle.std.proofs.Common.{◌≡◌, ℕ, zero, suc, ◌-◌, ◌<◌, Some, None, refl, ap, sym, arith}
use Rattle.json_tree.specs.ReadingValues.{inner_at, value_at}

pub none_inside : (levels : ℕ) → levels ≡ 0 → inner_at levels ≡ None
unfolding inner_at
none_inside zero e = refl
none_inside (suc levels) e = absurd (omega arith)

pub one_less : (levels : ℕ) → suc levels - 1 ≡ levels
one_less levels = omega arith

pub some_inside : (levels : ℕ) → 0 < levels → inner_at levels ≡ Some (value_at (levels - 1))
unfolding inner_at value_at
some_inside zero h = absurd (omega arith)
some_inside (suc levels) h = ap (λ n. Some (value_at n)) (sym (one_less levels))
