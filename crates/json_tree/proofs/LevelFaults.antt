-- A reader that is allowed a level less reads the same, or finds a bracket too deep.
use Rattle.std.proofs.Common.{◌≡◌, ℕ, zero, suc, ◌⊎◌, Bool, true, false, cond, List, length, Option, Some, None, Result, Ok, Err, refl, sym, subst, inl, inr}
use Rattle.json_tokens.specs.declared.fault.JsonFault.{JsonFault}
use Rattle.json_tokens.specs.declared.fault.JsonFault.TheVariants.{Depth}
use Rattle.json_tokens.specs.Reading.{◌>>=◌, Read, past_blanks, byte_at}
use Rattle.json_tree.specs.ReadingValues.{scalar_at, separator_at, elements_at, unless_empty, list_at, item_at, name_at, member_at, items_at, members_at, list_in, object_in, if_there, kind_read, tree_read, inner_at, value_at}
use Rattle.json_tree.specs.Tree.{Tree, Kind}
use Rattle.json_tree.proofs.Steady.{Reader}

-- read so, or a bracket was too deep
abbrev pub IsCut : {X : Type 0} → Result X JsonFault → X → Type 0
IsCut r x = (r ≡ Ok x) ⊎ ((p : ℕ) × (r ≡ Err (Depth p)))

-- what is read with a level more is read so, or a bracket is too deep
abbrev pub Under : {X : Type 0} → Result X JsonFault → Result X JsonFault → Type 0
Under (Err e) less = Unit {0}
Under (Ok x) less = IsCut less x

under_itself : {X : Type 0} (r : Result X JsonFault) → Under r r
under_itself (Err e) = tt
under_itself (Ok x) = inl refl

under_cut : {X : Type 0} (r : Result X JsonFault) (p : ℕ) → Under r (Err (Depth p))
under_cut (Err e) p = tt
under_cut (Ok x) p = inr (p, refl)

under_then : {X Y : Type 0} (r less : Result X JsonFault) (f g : X → Result Y JsonFault) → Under r less → ((x : X) → Under (f x) (g x)) → Under (r >>= f) (less >>= g)
under_then (Err e) less f g u v = tt
under_then {X} (Ok x) less f g (inl h) v = subst (λ (l : Result X JsonFault). Under (f x) (l >>= g)) (sym h) (v x)
under_then {X} (Ok x) less f g (inr h) v = subst (λ (l : Result X JsonFault). Under (f x) (l >>= g)) (sym h.1) (under_cut (f x) h.0)

under_if : {X : Type 0} (t : Bool) (a b c d : Result X JsonFault) → Under a c → Under b d → Under (cond t a b) (cond t c d)
under_if true a b c d u v = u
under_if false a b c d u v = v

under_there : (o : Option (ℕ × List ℕ)) (a c : Reader Kind) (b d : Read Kind) → ((at : ℕ) (bytes : List ℕ) → Under (a at bytes) (c at bytes)) → Under b d → Under (if_there o a b) (if_there o c d)
under_there None a c b d u v = v
under_there (Some after) a c b d u v = u after.0 after.1

under_empty : {E : Type 0} (o : Option (ℕ × List ℕ)) (b d : Read (List E)) → Under b d → Under (unless_empty o b) (unless_empty o d)
under_empty None b d v = v
under_empty (Some after) b d v = inl refl

-- ---- readers

abbrev UnderAt : {X : Type 0} → Reader X → Reader X → Type 0
UnderAt more less = (at : ℕ) (bytes : List ℕ) → Under (more at bytes) (less at bytes)

module _ {E : Type 0} (more less : Reader E) (close : ℕ) (u : UnderAt more less) where
  elements_under : (most : ℕ) → UnderAt (elements_at more close most) (elements_at less close most)
  unfolding elements_at
  elements_under zero at bytes = tt
  elements_under (suc most) at bytes =
      under_then (more at bytes) (less at bytes) _ _ (u at bytes)
      (λ x. under_then (separator_at close x.1 x.2) (separator_at close x.1 x.2) _ _ (under_itself (separator_at close x.1 x.2))
      (λ y. under_if y.0 _ _ _ _ (under_then (elements_at more close most y.1 y.2) (elements_at less close most y.1 y.2) _ _ (elements_under most y.1 y.2) (λ z. inl refl)) (inl refl)))

  list_under : UnderAt (list_at more close) (list_at less close)
  unfolding list_at
  list_under at bytes =
      let rest = past_blanks at bytes in
      under_empty (byte_at close rest.0 rest.1) (elements_at more close (length rest.1) rest.0 rest.1) (elements_at less close (length rest.1) rest.0 rest.1) (elements_under (length rest.1) rest.0 rest.1)

module _ (more less : Reader Tree) (u : UnderAt more less) where
  pub item_under : UnderAt (item_at more) (item_at less)
  unfolding item_at
  item_under at bytes = let rest = past_blanks at bytes in under_then (more rest.0 rest.1) (less rest.0 rest.1) _ _ (u rest.0 rest.1) (λ x. inl refl)

  member_under : UnderAt (member_at more) (member_at less)
  unfolding member_at
  member_under at bytes =
      under_then (name_at at bytes) (name_at at bytes) _ _ (under_itself (name_at at bytes))
      (λ name. under_then (item_at more name.1 name.2) (item_at less name.1 name.2) _ _ (item_under name.1 name.2) (λ x. inl refl))

  items_under : UnderAt (items_at more) (items_at less)
  unfolding items_at
  items_under at bytes = under_then (list_at (item_at more) 93 at bytes) (list_at (item_at less) 93 at bytes) _ _ (list_under (item_at more) (item_at less) 93 item_under at bytes) (λ x. inl refl)

  members_under : UnderAt (members_at more) (members_at less)
  unfolding members_at
  members_under at bytes = under_then (list_at (member_at more) 125 at bytes) (list_at (member_at less) 125 at bytes) _ _ (list_under (member_at more) (member_at less) 125 member_under at bytes) (λ x. inl refl)

-- what may stand inside, with a level more
abbrev InnerUnder : Option (Reader Tree) → Option (Reader Tree) → Type 0
InnerUnder None None = Unit {0}
InnerUnder None (Some less) = ⊥
InnerUnder (Some more) None = Unit {0}
InnerUnder (Some more) (Some less) = UnderAt more less

list_in_under : (more less : Option (Reader Tree)) → InnerUnder more less → (start : ℕ) → UnderAt (list_in more start) (list_in less start)
list_in_under None None u start at bytes = tt
list_in_under None (Some less) u start at bytes = absurd u
list_in_under (Some more) None u start at bytes = under_cut (items_at more at bytes) start
list_in_under (Some more) (Some less) u start at bytes = items_under more less u at bytes

object_in_under : (more less : Option (Reader Tree)) → InnerUnder more less → (start : ℕ) → UnderAt (object_in more start) (object_in less start)
object_in_under None None u start at bytes = tt
object_in_under None (Some less) u start at bytes = absurd u
object_in_under (Some more) None u start at bytes = under_cut (members_at more at bytes) start
object_in_under (Some more) (Some less) u start at bytes = members_under more less u at bytes

tree_under : (more less : Option (Reader Tree)) → InnerUnder more less → UnderAt (tree_read more) (tree_read less)
tree_under more less u at bytes =
    under_then (kind_read more at bytes) (kind_read less at bytes) _ _
    (under_there (byte_at 91 at bytes) (list_in more at) (list_in less at) _ _ (list_in_under more less u at)
    (under_there (byte_at 123 at bytes) (object_in more at) (object_in less at) _ _ (object_in_under more less u at) (under_itself (scalar_at at bytes))))
    (λ x. inl refl)

value_under : (levels : ℕ) → UnderAt (value_at (suc levels)) (value_at levels)
unfolding value_at inner_at
value_under zero at bytes = tree_under (Some (value_at zero)) None tt at bytes
value_under (suc levels) at bytes = tree_under (Some (value_at (suc levels))) (Some (value_at levels)) (value_under levels) at bytes

cut_of : {X : Type 0} (r less : Result X JsonFault) (x : X) → Under r less → r ≡ Ok x → IsCut less x
cut_of (Err e) less x u h = absurd cc
cut_of {X} (Ok y) less x u h = subst (λ (z : X). IsCut less z) (ok_value y x h) u
  where
    ok_value : {X : Type 0} (y x : X) → ◌≡◌ {A = Result X JsonFault} (Ok y) (Ok x) → y ≡ x
    ok_value y x h = cc

-- What is read with a level more is read so, or a bracket is too deep.
pub item_cut : (levels : ℕ) (at : ℕ) (bytes : List ℕ) (x : Tree × ℕ × List ℕ) → item_at (value_at (suc levels)) at bytes ≡ Ok x → IsCut (item_at (value_at levels) at bytes) x
item_cut levels at bytes x h = cut_of (item_at (value_at (suc levels)) at bytes) (item_at (value_at levels) at bytes) x (item_under (value_at (suc levels)) (value_at levels) (value_under levels) at bytes) h
