-- What stands in a list or an object is smaller than it.
use Rattle.std.proofs.Common.{if◌then◌else◌, ◌≡◌, ℕ, ◌+◌, ◌<◌, ◌≤◌, List, [], ◌∷◌, Bool, true, false, Option, Some, None, IfSome, option_map, sym, ap, arith}
use Rattle.std.specs.Option.{option_or}
use Rattle.std.specs.Str.{bytes_eq}
use Rattle.json_tree.specs.Tree.{Tree, last_named}
use Rattle.json_tree.specs.Size.{tree_size, named_size}

or_member : (m : List ℕ × Tree) (later : Option Tree) (b : Bool) (t : Tree) (n : ℕ) → (later ≡ Some t → tree_size t ≤ n)
    → option_or later (if b then Some m.1 else None) ≡ Some t → tree_size t ≤ tree_size m.1 + n
or_member m (Some u) b t n h e = omega (arith, h e)
or_member m None true t n h e = let same : m.1 ≡ t = cc in omega (arith, ap tree_size same)
or_member m None false t n h e = cc

-- the last member of a name is at most as large as all of them
pub named_smaller : (name : List ℕ) (ms : List (List ℕ × Tree)) (t : Tree) → last_named name ms ≡ Some t → tree_size t ≤ named_size ms
named_smaller name [] t e = cc
named_smaller name (m ∷ ms) t e = or_member m (last_named name ms) (bytes_eq m.0 name) t (named_size ms) (named_smaller name ms t) e

pub found_smaller : {A : Type 0} (view : A → Tree) (name : List ℕ) (ms : List (List ℕ × Tree)) (o : Option A) → option_map view o ≡ last_named name ms → IfSome o (λ x. tree_size (view x) ≤ named_size ms)
found_smaller view name ms (Some x) e = named_smaller name ms (view x) (sym e)
found_smaller view name ms None e = tt

pub within : {A : Type 0} (view : A → Tree) (o : Option A) (n : ℕ) → IfSome o (λ x. tree_size (view x) ≤ n) → IfSome o (λ x. tree_size (view x) < n + 1)
within view (Some x) n h = omega (arith, h)
within view None n h = tt
