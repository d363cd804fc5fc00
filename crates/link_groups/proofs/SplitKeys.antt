-- Links in order are their keys in order, and the links that are split by their keys.
use Rattle.std.proofs.Common.{◌≡◌, ℕ, suc, ◌+◌, ◌≤◌, Bool, true, false, cond, eqb, ltb, ◌&&◌, ◌||◌, List, [], ◌∷◌, ◌++◌, All, length, map, filter, sum_by, unwrap_or, ◌*◌, ◌^◌, Option, Some, None, Result, Ok, Err, IfOk, refl, sym, ap, ◌∙◌, arith, subst, append_assoc, nat_eq, nat_lt, Ordering, Less, Equal, Greater}
use Rattle.std.specs.List.{AllByRecursion, list_any}
use Rattle.std.specs.List.Sorted.{IsStrictlySortedBy}
use Rattle.std.specs.Cmp.{IsTotalOrder, nat_cmp_total, on_total, then_total}
use Rattle.std.specs.Ordering.{is_eq, match_ordering, nat_cmp, ordering_reverse, ordering_then}
use Rattle.std.specs.BTreeMap.{is_at}
use Rattle.std.specs.BTreeSet.{BTreeSet, IsOrdered, contains, insert_key}
use Rattle.std.proofs.lemmas.Bool.{eqb-true, ltb-true}
use Rattle.std.proofs.lemmas.List.Sums.{sum_by-cons}
use Rattle.std.proofs.lemmas.Map.Lookups.{CmpEqualImpliesEq, btree_set_from_contains, exact_pairs, exact_unsigned}
use Rattle.frame_meaning.specs.declared.cells.Cell.{Cell}
use Rattle.frame_meaning.specs.declared.cells.Link.{Link}
use Rattle.out_of_memory.specs.declared.fault.Memory.{Memory}
use Rattle.composables.specs.declared.TheConstants.{MAX_ITEMS}
use Rattle.composables.specs.Items.{items_of}
use Rattle.composables.specs.Links.{cells_before, cells_from, link_before, links_in, links_with, links_with_any, next_link_at, same_link, split_links, split_number}
use Rattle.composables.specs.Sizes.{size_of, sizes_of}
use Rattle.composables.specs.TrackState.{TrackState}
use Rattle.composables.proofs.Joining.{eqb-refl}
use Rattle.link_groups.specs.declared.splits.Splits.{Splits}
use Rattle.link_groups.specs.Splits.{AreGiven, AreSplits, at_home, given, has_key, is_key_of, key_cmp, key_of, number_given, smaller}

-- keys compared

is_eq_cmp : (a b : ℕ) → is_eq (nat_cmp a b) ≡ eqb a b
is_eq_cmp a b = by (ltb a b) (eqb a b) refl refl where
  by : (x y : Bool) → ltb a b ≡ x → eqb a b ≡ y → is_eq (cond x Less (cond y Equal Greater)) ≡ y
  by true true e f = absurd (omega (arith, ltb-true a b e, eqb-true a b f))
  by true false e f = refl
  by false true e f = refl
  by false false e f = refl

is_eq_then : (r s : Ordering) → is_eq (ordering_then r s) ≡ (is_eq r && is_eq s)
is_eq_then Less s = refl
is_eq_then Equal s = refl
is_eq_then Greater s = refl

both : (a b c d : Bool) → a ≡ c → b ≡ d → (a && b) ≡ (c && d)
both a b c d e f = ap (λ (x : Bool). x && b) e ∙ ap (λ (y : Bool). c && y) f

pub key-at : (k q : ℕ × ℕ) → is_at (key_cmp k) q ≡ (eqb k.0 q.0 && eqb k.1 q.1)
key-at k q =
    is_eq_then (nat_cmp k.0 q.0) (nat_cmp k.1 q.1)
    ∙ both (is_eq (nat_cmp k.0 q.0)) (is_eq (nat_cmp k.1 q.1)) (eqb k.0 q.0) (eqb k.1 q.1) (is_eq_cmp k.0 q.0) (is_eq_cmp k.1 q.1)

pub key-total : IsTotalOrder key_cmp
key-total = then_total (on_total (λ (p : ℕ × ℕ). p.0) nat_cmp_total) (on_total (λ (p : ℕ × ℕ). p.1) nat_cmp_total)

pub key-exact : CmpEqualImpliesEq key_cmp
key-exact = exact_pairs nat_cmp nat_cmp exact_unsigned exact_unsigned

-- a link put in its place is its key put in its place

key_insert : (l : Link) (ks : List Link) → map key_of (links_with l ks) ≡ insert_key key_cmp (map key_of ks) (key_of l)
key_insert l [] = refl
key_insert l (k ∷ ks) = by (ltb l.home k.home) (eqb l.home k.home) (ltb l.number k.number) (eqb l.number k.number) refl refl refl refl (key_insert l ks) where
  by : (a b c d : Bool) → ltb l.home k.home ≡ a → eqb l.home k.home ≡ b → ltb l.number k.number ≡ c → eqb l.number k.number ≡ d
      → map key_of (links_with l ks) ≡ insert_key key_cmp (map key_of ks) (key_of l)
      → map key_of (cond (b && d) (k ∷ ks) (cond (a || (b && c)) (l ∷ k ∷ ks) (k ∷ links_with l ks)))
      ≡ match_ordering (ordering_then (cond a Less (cond b Equal Greater)) (cond c Less (cond d Equal Greater))) (key_of l ∷ key_of k ∷ map key_of ks) (key_of k ∷ map key_of ks) (key_of k ∷ insert_key key_cmp (map key_of ks) (key_of l))
  by true true c d e f g h i = absurd (omega (arith, ltb-true l.home k.home e, eqb-true l.home k.home f))
  by true false c d e f g h i = refl
  by false true true true e f g h i = absurd (omega (arith, ltb-true l.number k.number g, eqb-true l.number k.number h))
  by false true true false e f g h i = refl
  by false true false true e f g h i = refl
  by false true false false e f g h i = ap (λ (qs : List (ℕ × ℕ)). key_of k ∷ qs) i
  by false false c d e f g h i = ap (λ (qs : List (ℕ × ℕ)). key_of k ∷ qs) i

all_insert : (P : ℕ × ℕ → Type 0) (k : ℕ × ℕ) (ks : List (ℕ × ℕ)) → AllByRecursion P ks → P k → AllByRecursion P (insert_key key_cmp ks k)
all_insert P k [] a p = (p, tt)
all_insert P k (q ∷ qs) a p = by (key_cmp k q) (all_insert P k qs a.1 p) where
  by : (r : Ordering) → AllByRecursion P (insert_key key_cmp qs k) → AllByRecursion P (match_ordering r (k ∷ q ∷ qs) (q ∷ qs) (q ∷ insert_key key_cmp qs k))
  by Less rest = (p, a)
  by Equal rest = a
  by Greater rest = (a.0, rest)

all_after : (k q : ℕ × ℕ) (qs : List (ℕ × ℕ)) → key_cmp k q ≡ Less → AllByRecursion (λ (y : ℕ × ℕ). key_cmp q y ≡ Less) qs → AllByRecursion (λ (y : ℕ × ℕ). key_cmp k y ≡ Less) qs
all_after k q [] e a = tt
all_after k q (y ∷ ys) e a = (key-total.trans k q y e a.0, all_after k q ys e a.1)

greater_less : (k q : ℕ × ℕ) → key_cmp k q ≡ Greater → key_cmp q k ≡ Less
greater_less k q e = by (key_cmp q k) (key-total.antisymm k q) e where
  by : (r : Ordering) → key_cmp k q ≡ ordering_reverse r → key_cmp k q ≡ Greater → r ≡ Less
  by Less f g = refl
  by Equal f g = absurd (Prim.grind (arith, sym f ∙ g))
  by Greater f g = absurd (Prim.grind (arith, sym f ∙ g))

sorted_insert : (k : ℕ × ℕ) (ks : List (ℕ × ℕ)) → IsStrictlySortedBy key_cmp ks → IsStrictlySortedBy key_cmp (insert_key key_cmp ks k)
unfolding IsStrictlySortedBy
sorted_insert k [] s = (tt, tt)
sorted_insert k (q ∷ qs) s = by (key_cmp k q) refl (sorted_insert k qs s.1) where
  by : (r : Ordering) → key_cmp k q ≡ r → IsStrictlySortedBy key_cmp (insert_key key_cmp qs k) → IsStrictlySortedBy key_cmp (match_ordering r (k ∷ q ∷ qs) (q ∷ qs) (q ∷ insert_key key_cmp qs k))
  by Less e rest = ((e, all_after k q qs e s.0), s)
  by Equal e rest = s
  by Greater e rest = (all_insert (λ (y : ℕ × ℕ). key_cmp q y ≡ Less) k qs s.0 (greater_less k q e), rest)

sorted_links : (cs : List Cell) → IsStrictlySortedBy key_cmp (map key_of (links_in cs))
unfolding IsStrictlySortedBy
sorted_links [] = tt
sorted_links (c ∷ cs) = by c.link (sorted_links cs) where
  by : (o : Option Link) → IsStrictlySortedBy key_cmp (map key_of (links_in cs)) → IsStrictlySortedBy key_cmp (map key_of (links_with_any o (links_in cs)))
  by None s = s
  by (Some l) s = subst (IsStrictlySortedBy key_cmp) (sym (key_insert l (links_in cs))) (sorted_insert (key_of l) (map key_of (links_in cs)) s)

-- which links there are

same_trans : (a b c d e f : ℕ) → (eqb c e && eqb d f) ≡ true → (eqb a c && eqb b d) ≡ (eqb a e && eqb b f)
same_trans a b c d e f h = by (eqb c e) (eqb d f) refl refl h where
  by : (x y : Bool) → eqb c e ≡ x → eqb d f ≡ y → (x && y) ≡ true → (eqb a c && eqb b d) ≡ (eqb a e && eqb b f)
  by true true g k z = ap (λ (n : ℕ). eqb a n && eqb b d) (eqb-true c e g) ∙ ap (λ (n : ℕ). eqb a e && eqb b n) (eqb-true d f k)
  by true false g k z = absurd cc
  by false y g k z = absurd cc

or_absorb : (x r m : Bool) → m ≡ x → (x || r) ≡ (m || (x || r))
or_absorb true r m e = sym (ap (λ (b : Bool). b || true) e)
or_absorb false r m e = sym (ap (λ (b : Bool). b || r) e)

or_swap : (x m r : Bool) → (x || (m || r)) ≡ (m || (x || r))
or_swap true true r = refl
or_swap true false r = refl
or_swap false m r = refl

any_with : (q : ℕ × ℕ) (m : Link) (ks : List Link) → list_any (λ (l : Link). is_key_of q (Some l)) (links_with m ks) ≡ (is_key_of q (Some m) || list_any (λ (l : Link). is_key_of q (Some l)) ks)
any_with q m [] = refl
any_with q m (k ∷ ks) = by (same_link m k) (link_before m k) refl (any_with q m ks) where
  test : Link → Bool
  test l = is_key_of q (Some l)

  by : (a b : Bool) → same_link m k ≡ a → list_any test (links_with m ks) ≡ (test m || list_any test ks)
      → list_any test (cond a (k ∷ ks) (cond b (m ∷ k ∷ ks) (k ∷ links_with m ks))) ≡ (test m || (test k || list_any test ks))
  by true b e i = or_absorb (test k) (list_any test ks) (test m) (same_trans q.0 q.1 m.home m.number k.home k.number e)
  by false true e i = refl
  by false false e i = ap (λ (r : Bool). test k || r) i ∙ or_swap (test k) (test m) (list_any test ks)

pub any-links : (q : ℕ × ℕ) (cs : List Cell) → list_any (λ (l : Link). is_key_of q (Some l)) (links_in cs) ≡ list_any (has_key q) cs
any-links q [] = refl
any-links q (c ∷ cs) = by c.link (any-links q cs) where
  by : (o : Option Link) → list_any (λ (l : Link). is_key_of q (Some l)) (links_in cs) ≡ list_any (has_key q) cs
      → list_any (λ (l : Link). is_key_of q (Some l)) (links_with_any o (links_in cs)) ≡ (is_key_of q o || list_any (has_key q) cs)
  by None i = i
  by (Some l) i = any_with q l (links_in cs) ∙ ap (λ (b : Bool). is_key_of q (Some l) || b) i

pub any-keys : (q : ℕ × ℕ) (ls : List Link) → list_any (is_at (key_cmp q)) (map key_of ls) ≡ list_any (λ (l : Link). is_key_of q (Some l)) ls
any-keys q [] = refl
any-keys q (l ∷ ls) =
    ap (λ (b : Bool). b || list_any (is_at (key_cmp q)) (map key_of ls)) (key-at q (key_of l))
    ∙ ap (λ (b : Bool). is_key_of q (Some l) || b) (any-keys q ls)

-- the keys of the links that are split

filter_keys : (p : ℕ × ℕ → Bool) (r : Link → Bool) (ls : List Link) → ((l : Link) → p (key_of l) ≡ r l) → filter p (map key_of ls) ≡ map key_of (filter r ls)
filter_keys p r [] h = refl
filter_keys p r (l ∷ ls) h = ap (λ (b : Bool). cond b (key_of l ∷ filter p (map key_of ls)) (filter p (map key_of ls))) (h l) ∙ by (r l) (filter_keys p r ls h) where
  by : (b : Bool) → filter p (map key_of ls) ≡ map key_of (filter r ls) → cond b (key_of l ∷ filter p (map key_of ls)) (filter p (map key_of ls)) ≡ map key_of (cond b (l ∷ filter r ls) (filter r ls))
  by true i = ap (λ (qs : List (ℕ × ℕ)). key_of l ∷ qs) i
  by false i = i

all_filtered : (P : ℕ × ℕ → Type 0) (r : Link → Bool) (ls : List Link) → AllByRecursion P (map key_of ls) → AllByRecursion P (map key_of (filter r ls))
all_filtered P r [] a = tt
all_filtered P r (l ∷ ls) a = by (r l) (all_filtered P r ls a.1) where
  by : (b : Bool) → AllByRecursion P (map key_of (filter r ls)) → AllByRecursion P (map key_of (cond b (l ∷ filter r ls) (filter r ls)))
  by true rest = (a.0, rest)
  by false rest = rest

sorted_filtered : (r : Link → Bool) (ls : List Link) → IsStrictlySortedBy key_cmp (map key_of ls) → IsStrictlySortedBy key_cmp (map key_of (filter r ls))
unfolding IsStrictlySortedBy
sorted_filtered r [] s = tt
sorted_filtered r (l ∷ ls) s = by (r l) (sorted_filtered r ls s.1) where
  by : (b : Bool) → IsStrictlySortedBy key_cmp (map key_of (filter r ls)) → IsStrictlySortedBy key_cmp (map key_of (cond b (l ∷ filter r ls) (filter r ls)))
  by true rest = (all_filtered (λ (y : ℕ × ℕ). key_cmp (key_of l) y ≡ Less) r ls s.0, rest)
  by false rest = rest

and_false : (x : Bool) → (x && false) ≡ false
and_false true = refl
and_false false = refl

-- where a test is the same of all that pass another, it holds of one that does if there is one and it is true
any_filtered : (p r : Link → Bool) (b : Bool) (ls : List Link) → ((l : Link) → p l ≡ true → r l ≡ b) → list_any p (filter r ls) ≡ (b && list_any p ls)
any_filtered p r b [] h = sym (and_false b)
any_filtered p r b (l ∷ ls) h = by b (p l) (r l) refl refl (any_filtered p r b ls h) (h l) where
  by : (b x y : Bool) → p l ≡ x → r l ≡ y → list_any p (filter r ls) ≡ (b && list_any p ls) → (p l ≡ true → r l ≡ b) → list_any p (cond y (l ∷ filter r ls) (filter r ls)) ≡ (b && (x || list_any p ls))
  by true true true e f i k = ap (λ (z : Bool). z || list_any p (filter r ls)) e
  by true true false e f i k = absurd (Prim.grind (arith, sym f ∙ k e))
  by false true true e f i k = absurd (Prim.grind (arith, sym f ∙ k e))
  by false true false e f i k = i
  by b false true e f i k = ap (λ (z : Bool). z || list_any p (filter r ls)) e ∙ i
  by b false false e f i k = i

key_is : (q : ℕ × ℕ) (l : Link) → is_key_of q (Some l) ≡ true → q ≡ key_of l
key_is q l e = by (eqb q.0 l.home) (eqb q.1 l.number) refl refl e where
  by : (x y : Bool) → eqb q.0 l.home ≡ x → eqb q.1 l.number ≡ y → (x && y) ≡ true → q ≡ key_of l
  by true true f g h = ap (λ (n : ℕ). (n, q.1)) (eqb-true q.0 l.home f) ∙ ap (λ (n : ℕ). (l.home, n)) (eqb-true q.1 l.number g)
  by true false f g h = absurd cc
  by false y f g h = absurd cc

-- the keys of links that are both before and from a place on
any_split : (q : ℕ × ℕ) (x z : ℕ) (ts : List TrackState)
    → list_any (is_at (key_cmp q)) (map key_of (split_links x z ts)) ≡ (list_any (has_key q) (cells_before x ts) && list_any (has_key q) (cells_from z ts))
any_split q x z ts =
    any-keys q (split_links x z ts)
    ∙ (any_filtered (λ (l : Link). is_key_of q (Some l)) (λ (l : Link). list_any (same_link l) (links_in (cells_before x ts))) (list_any (has_key q) (cells_before x ts)) (links_in (cells_from z ts))
    (λ l e. any-links (key_of l) (cells_before x ts) ∙ ap (λ (k : ℕ × ℕ). list_any (has_key k) (cells_before x ts)) (sym (key_is q l e)))
    ∙ ap (λ (b : Bool). list_any (has_key q) (cells_before x ts) && b) (any-links q (cells_from z ts)))

pub split-keys : (split : BTreeSet (ℕ × ℕ)) (x z : ℕ) (ts : List TrackState) → IsOrdered key_cmp split
    → ((q : ℕ × ℕ) → contains key_cmp split q ≡ (list_any (has_key q) (cells_before x ts) && list_any (has_key q) (cells_from z ts)))
    → split.keys ≡ map key_of (split_links x z ts)
split-keys split x z ts ordered has =
    btree_set_from_contains key-total split (record { keys = map key_of (split_links x z ts) }) ordered
    (sorted_filtered (λ (l : Link). list_any (same_link l) (links_in (cells_before x ts))) (links_in (cells_from z ts)) (sorted_links (cells_from z ts)))
    (λ q. has q ∙ sym (any_split q x z ts)) key-exact

-- counted by their keys

count_keys : (p : ℕ × ℕ → Bool) (ls : List Link) → length (filter p (map key_of ls)) ≡ length (filter (λ (l : Link). p (key_of l)) ls)
count_keys p ls = ap length (filter_keys p (λ (l : Link). p (key_of l)) ls (λ l. refl)) ∙ as_many (filter (λ (l : Link). p (key_of l)) ls) where
  as_many : (ls : List Link) → length (map key_of ls) ≡ length ls
  as_many [] = refl
  as_many (l ∷ ls) = ap suc (as_many ls)

given_split : (tracks : List TrackState) (splits : List Link) (l : Link) → given tracks (map key_of splits) (key_of l) ≡ number_given tracks splits l
given_split tracks splits l =
    ap (λ (n : ℕ). cond (list_any (is_at (key_cmp (key_of l))) (map key_of splits)) (Some (next_link_at l.home tracks + n)) None) (count_keys (λ (k : ℕ × ℕ). nat_eq k.0 l.home && nat_lt k.1 l.number) splits)
    ∙ ap (λ (b : Bool). cond b (Some (split_number tracks splits l)) None) (any-keys (key_of l) splits)

pub as-splits : (tracks : List TrackState) (splits : List Link) (keys : List (ℕ × ℕ)) (s : Splits) → keys ≡ map key_of splits → AreGiven tracks keys s → AreSplits tracks splits s
as-splits tracks splits keys s e g = record {
  numbers = λ l. g.numbers (key_of l) ∙ (ap (λ (ks : List (ℕ × ℕ)). given tracks ks (key_of l)) e ∙ given_split tracks splits l);
  counts = λ home. g.counts home ∙ (ap (at_home home) e ∙ count_keys (λ (k : ℕ × ℕ). nat_eq k.0 home) splits);
}

-- one key more, behind all others

below_home : (f k : ℕ × ℕ) → key_cmp f k ≡ Less → (ltb f.0 k.0 || (eqb f.0 k.0 && ltb f.1 k.1)) ≡ true
below_home f k e = by (ltb f.0 k.0) (eqb f.0 k.0) (ltb f.1 k.1) (eqb f.1 k.1) e where
  by : (a b c d : Bool) → ordering_then (cond a Less (cond b Equal Greater)) (cond c Less (cond d Equal Greater)) ≡ Less → (a || (b && c)) ≡ true
  by true b c d g = refl
  by false true true d g = refl
  by false true false true g = absurd (Prim.grind (arith, g))
  by false true false false g = absurd (Prim.grind (arith, g))
  by false false c d g = absurd (Prim.grind (arith, g))

-- a key below this one with its home has a smaller number
home_number : (f k : ℕ × ℕ) → key_cmp f k ≡ Less → eqb f.0 k.0 ≡ (eqb f.0 k.0 && ltb f.1 k.1)
home_number f k e = by (ltb f.0 k.0) (eqb f.0 k.0) (ltb f.1 k.1) refl refl (below_home f k e) where
  by : (a b c : Bool) → ltb f.0 k.0 ≡ a → eqb f.0 k.0 ≡ b → (a || (b && c)) ≡ true → b ≡ (b && c)
  by true true c g h i = absurd (omega (arith, ltb-true f.0 k.0 g, eqb-true f.0 k.0 h))
  by a false c g h i = refl
  by false true true g h i = refl
  by false true false g h i = absurd cc

-- and this one is not of that key's home with a smaller number
not_smaller : (f k : ℕ × ℕ) → key_cmp f k ≡ Less → (eqb k.0 f.0 && ltb k.1 f.1) ≡ false
not_smaller f k e = by (ltb f.0 k.0) (eqb f.0 k.0) (ltb f.1 k.1) (eqb k.0 f.0) (ltb k.1 f.1) refl refl refl refl refl (below_home f k e) where
  by : (a b c x y : Bool) → ltb f.0 k.0 ≡ a → eqb f.0 k.0 ≡ b → ltb f.1 k.1 ≡ c → eqb k.0 f.0 ≡ x → ltb k.1 f.1 ≡ y → (a || (b && c)) ≡ true → (x && y) ≡ false
  by a b c false y g h i u v w = refl
  by a b c true false g h i u v w = refl
  by true b c true true g h i u v w = absurd (omega (arith, ltb-true f.0 k.0 g, eqb-true k.0 f.0 u))
  by false true true true true g h i u v w = absurd (omega (arith, ltb-true f.1 k.1 i, ltb-true k.1 f.1 v))
  by false true false true true g h i u v w = absurd cc
  by false false c true true g h i u v w = absurd cc

length_more : (p : ℕ × ℕ → Bool) (ks : List (ℕ × ℕ)) (k : ℕ × ℕ) → length (filter p (ks ++ k ∷ [])) ≡ length (filter p ks) + cond (p k) 1 0
length_more p [] k = by (p k) where
  by : (b : Bool) → length (cond b (k ∷ []) []) ≡ 0 + cond b 1 0
  by true = omega arith
  by false = omega arith
length_more p (q ∷ qs) k = by (p q) (length_more p qs k) where
  by : (b : Bool) → length (filter p (qs ++ k ∷ [])) ≡ length (filter p qs) + cond (p k) 1 0
      → length (cond b (q ∷ filter p (qs ++ k ∷ [])) (filter p (qs ++ k ∷ []))) ≡ length (cond b (q ∷ filter p qs) (filter p qs)) + cond (p k) 1 0
  by true i = omega (arith, i)
  by false i = i

pub at-home-more : (home : ℕ) (ks : List (ℕ × ℕ)) (k : ℕ × ℕ) → at_home home (ks ++ k ∷ []) ≡ at_home home ks + cond (eqb k.0 home) 1 0
at-home-more home ks k = length_more (λ (q : ℕ × ℕ). nat_eq q.0 home) ks k

abbrev pub AllBelow : ℕ × ℕ → List (ℕ × ℕ) → Type 0
AllBelow k ks = AllByRecursion (λ (f : ℕ × ℕ). key_cmp f k ≡ Less) ks

smaller_all : (k : ℕ × ℕ) (ks : List (ℕ × ℕ)) → AllBelow k ks → at_home k.0 ks ≡ smaller k ks
smaller_all k [] a = refl
smaller_all k (f ∷ fs) a =
    ap (λ (b : Bool). length (cond b (f ∷ filter (λ (q : ℕ × ℕ). nat_eq q.0 k.0) fs) (filter (λ (q : ℕ × ℕ). nat_eq q.0 k.0) fs))) (home_number f k a.0)
    ∙ by (eqb f.0 k.0 && ltb f.1 k.1) (smaller_all k fs a.1) where
      by : (b : Bool) → at_home k.0 fs ≡ smaller k fs
          → length (cond b (f ∷ filter (λ (q : ℕ × ℕ). nat_eq q.0 k.0) fs) (filter (λ (q : ℕ × ℕ). nat_eq q.0 k.0) fs)) ≡ length (cond b (f ∷ filter (λ (q : ℕ × ℕ). nat_eq q.0 k.0 && nat_lt q.1 k.1) fs) (filter (λ (q : ℕ × ℕ). nat_eq q.0 k.0 && nat_lt q.1 k.1) fs))
      by true i = ap suc i
      by false i = i

any_more : (q : ℕ × ℕ) (ks : List (ℕ × ℕ)) (k : ℕ × ℕ) → list_any (is_at (key_cmp q)) (ks ++ k ∷ []) ≡ (list_any (is_at (key_cmp q)) ks || is_at (key_cmp q) k)
any_more q [] k = by (is_at (key_cmp q) k) where
  by : (b : Bool) → (b || false) ≡ (false || b)
  by true = refl
  by false = refl
any_more q (f ∷ fs) k = ap (λ (b : Bool). is_at (key_cmp q) f || b) (any_more q fs k) ∙ or_assoc (is_at (key_cmp q) f) where
  or_assoc : (x : Bool) → (x || (list_any (is_at (key_cmp q)) fs || is_at (key_cmp q) k)) ≡ ((x || list_any (is_at (key_cmp q)) fs) || is_at (key_cmp q) k)
  or_assoc true = refl
  or_assoc false = refl

-- where a key is among those below k, it has no smaller number for k
among_below : (q k : ℕ × ℕ) (ks : List (ℕ × ℕ)) → AllBelow k ks → list_any (is_at (key_cmp q)) ks ≡ true → key_cmp q k ≡ Less
among_below q k [] a e = absurd cc
among_below q k (f ∷ fs) a e = by (key_cmp q f) refl e (among_below q k fs a.1) where
  by : (r : Ordering) → key_cmp q f ≡ r → (is_eq r || list_any (is_at (key_cmp q)) fs) ≡ true → (list_any (is_at (key_cmp q)) fs ≡ true → key_cmp q k ≡ Less) → key_cmp q k ≡ Less
  by Less g h later = later h
  by Equal g h later = subst (λ (p : ℕ × ℕ). key_cmp p k ≡ Less) (sym (key-exact q f g)) a.0
  by Greater g h later = later h

pub at-sym : (q k : ℕ × ℕ) → is_at (key_cmp q) k ≡ is_at (key_cmp k) q
at-sym q k = ap is_eq (key-total.antisymm q k) ∙ reversed (key_cmp k q) where
  reversed : (r : Ordering) → is_eq (ordering_reverse r) ≡ is_eq r
  reversed Less = refl
  reversed Equal = refl
  reversed Greater = refl

at_self : (k : ℕ × ℕ) → is_at (key_cmp k) k ≡ true
at_self k = key-at k k ∙ both (eqb k.0 k.0) (eqb k.1 k.1) true true (eqb-refl k.0) (eqb-refl k.1)

pub at-is : (k q : ℕ × ℕ) → is_at (key_cmp k) q ≡ true → k ≡ q
at-is k q e = by (key_cmp k q) refl e where
  by : (r : Ordering) → key_cmp k q ≡ r → is_eq r ≡ true → k ≡ q
  by Less u v = absurd cc
  by Equal u v = key-exact k q u
  by Greater u v = absurd cc

not_below_self : (k : ℕ × ℕ) → (eqb k.0 k.0 && ltb k.1 k.1) ≡ false
not_below_self k = by (eqb k.0 k.0) (ltb k.1 k.1) refl where
  by : (x y : Bool) → ltb k.1 k.1 ≡ y → (x && y) ≡ false
  by true true e = absurd (omega (arith, ltb-true k.1 k.1 e))
  by true false e = refl
  by false y e = refl

or_true : (x y : Bool) → y ≡ true → (x || y) ≡ true
or_true true y e = refl
or_true false y e = e

-- a key is that of a link, or is not
pub at-link : (l : Link) (q : ℕ × ℕ) → is_at (key_cmp (key_of l)) q ≡ is_key_of q (Some l)
at-link l q = sym (at-sym q (key_of l)) ∙ key-at q (key_of l)

given_self : (tracks : List TrackState) (ks : List (ℕ × ℕ)) (k : ℕ × ℕ) → AllBelow k ks
    → given tracks (ks ++ k ∷ []) k ≡ Some (next_link_at k.0 tracks + at_home k.0 ks)
given_self tracks ks k a =
    let none : (eqb k.0 k.0 && ltb k.1 k.1) ≡ false = not_below_self k in
    let more : smaller k (ks ++ k ∷ []) ≡ smaller k ks + cond (eqb k.0 k.0 && ltb k.1 k.1) 1 0 = length_more (λ (f : ℕ × ℕ). nat_eq f.0 k.0 && nat_lt f.1 k.1) ks k in
    let same : smaller k ks + 0 ≡ at_home k.0 ks = omega (arith, smaller_all k ks a) in
    ap (λ (b : Bool). cond b (Some (next_link_at k.0 tracks + smaller k (ks ++ k ∷ []))) None) (any_more k ks k ∙ or_true (list_any (is_at (key_cmp k)) ks) (is_at (key_cmp k) k) (at_self k))
    ∙ ap (λ (n : ℕ). Some (next_link_at k.0 tracks + n)) (more ∙ (ap (λ (b : Bool). smaller k ks + cond b 1 0) none ∙ same))

given_other : (tracks : List TrackState) (ks : List (ℕ × ℕ)) (k q : ℕ × ℕ) → AllBelow k ks → is_at (key_cmp k) q ≡ false → given tracks (ks ++ k ∷ []) q ≡ given tracks ks q
given_other tracks ks k q a e =
    ap (λ (b : Bool). cond b (Some (next_link_at q.0 tracks + smaller q (ks ++ k ∷ []))) None) (any_more q ks k ∙ ap (λ (y : Bool). list_any (is_at (key_cmp q)) ks || y) (at-sym q k ∙ e))
    ∙ (ap (λ (n : ℕ). cond (list_any (is_at (key_cmp q)) ks || false) (Some (next_link_at q.0 tracks + n)) None) (length_more (λ (f : ℕ × ℕ). nat_eq f.0 q.0 && nat_lt f.1 q.1) ks k)
    ∙ by (list_any (is_at (key_cmp q)) ks) refl) where
      by : (x : Bool) → list_any (is_at (key_cmp q)) ks ≡ x
          → cond (x || false) (Some (next_link_at q.0 tracks + (smaller q ks + cond (eqb k.0 q.0 && ltb k.1 q.1) 1 0))) None ≡ cond x (Some (next_link_at q.0 tracks + smaller q ks)) None
      by true f =
          let none : (eqb k.0 q.0 && ltb k.1 q.1) ≡ false = not_smaller q k (among_below q k ks a f) in
          let same : smaller q ks + 0 ≡ smaller q ks = omega arith in
          ap (λ (b : Bool). Some (next_link_at q.0 tracks + (smaller q ks + cond b 1 0))) none ∙ ap (λ (n : ℕ). Some (next_link_at q.0 tracks + n)) same
      by false f = refl

pub given-more : (tracks : List TrackState) (ks : List (ℕ × ℕ)) (k q : ℕ × ℕ) → AllBelow k ks
    → given tracks (ks ++ k ∷ []) q ≡ cond (is_at (key_cmp k) q) (Some (next_link_at k.0 tracks + at_home k.0 ks)) (given tracks ks q)
given-more tracks ks k q a = by (is_at (key_cmp k) q) refl where
  by : (b : Bool) → is_at (key_cmp k) q ≡ b → given tracks (ks ++ k ∷ []) q ≡ cond b (Some (next_link_at k.0 tracks + at_home k.0 ks)) (given tracks ks q)
  by true e = subst (λ (p : ℕ × ℕ). given tracks (ks ++ k ∷ []) p ≡ Some (next_link_at k.0 tracks + at_home k.0 ks)) (at-is k q e) (given_self tracks ks k a)
  by false e = given_other tracks ks k q a e

-- what stands before a key in order is below it
pub all-below : (ks rest : List (ℕ × ℕ)) (k : ℕ × ℕ) → IsStrictlySortedBy key_cmp (ks ++ k ∷ rest) → AllBelow k ks
unfolding IsStrictlySortedBy
all-below [] rest k s = tt
all-below (f ∷ fs) rest k s = (at_end fs s.0, all-below fs rest k s.1) where
  at_end : (fs : List (ℕ × ℕ)) → AllByRecursion (λ (y : ℕ × ℕ). key_cmp f y ≡ Less) (fs ++ k ∷ rest) → key_cmp f k ≡ Less
  at_end [] a = a.0
  at_end (g ∷ gs) a = at_end gs a.1

pub ok-splits : (tracks : List TrackState) (x y : ℕ) (split : BTreeSet (ℕ × ℕ)) (r : Result Splits Memory)
    → ((q : ℕ × ℕ) → contains key_cmp split q ≡ (list_any (has_key q) (cells_before x tracks) && list_any (has_key q) (cells_from y tracks)))
    → IfOk r (λ s. AreGiven tracks split.keys s) → IfOk r (λ s. IsOrdered key_cmp split)
    → IfOk r (λ s. AreSplits tracks (split_links x y tracks) s)
ok-splits tracks x y split (Ok s) has g o = as-splits tracks (split_links x y tracks) split.keys s (split-keys split x y tracks o has) g
ok-splits tracks x y split (Err e) has g o = tt

-- the keys that were looked at, and what was given to them
abbrev pub SoFar : List TrackState → List (ℕ × ℕ) → List (ℕ × ℕ) → (ℕ × ℕ → Option ℕ) → (ℕ → ℕ) → Type 0
SoFar tracks keys rest number count =
    (done : List (ℕ × ℕ)) × (keys ≡ done ++ rest) × ((q : ℕ × ℕ) → number q ≡ given tracks done q) × ((home : ℕ) → count home ≡ at_home home done)

one_done : (keys done rest left : List (ℕ × ℕ)) (k : ℕ × ℕ) → keys ≡ done ++ rest → rest ≡ k ∷ left → keys ≡ (done ++ k ∷ []) ++ left
one_done keys done rest left k e f = e ∙ (ap (λ (qs : List (ℕ × ℕ)). done ++ qs) f ∙ sym (append_assoc done (k ∷ []) left))

pub more-split : (tracks : List TrackState) (keys rest left : List (ℕ × ℕ)) (k : ℕ × ℕ) (old new : ℕ × ℕ → Option ℕ) (count more : ℕ → ℕ) → SoFar tracks keys rest old count
    → rest ≡ k ∷ left → IsStrictlySortedBy key_cmp keys
    → ((q : ℕ × ℕ) → new q ≡ cond (is_at (key_cmp k) q) (Some (next_link_at k.0 tracks + count k.0)) (old q)) → ((home : ℕ) → more home ≡ cond (eqb k.0 home) (count k.0 + 1) (count home))
    → SoFar tracks keys left new more
more-split tracks keys rest left k old new count more (done, whole, numbers, counts) is sorted news mores = (done ++ k ∷ [], one_done keys done rest left k whole is, each, homes) where
  below : AllBelow k done
  below = all-below done left k (subst (IsStrictlySortedBy key_cmp) (whole ∙ ap (λ (qs : List (ℕ × ℕ)). done ++ qs) is) sorted)

  each : (q : ℕ × ℕ) → new q ≡ given tracks (done ++ k ∷ []) q
  each q =
      news q
      ∙ (ap (λ (n : ℕ). cond (is_at (key_cmp k) q) (Some (next_link_at k.0 tracks + n)) (old q)) (counts k.0)
      ∙ (ap (λ (o : Option ℕ). cond (is_at (key_cmp k) q) (Some (next_link_at k.0 tracks + at_home k.0 done)) o) (numbers q)
      ∙ sym (given-more tracks done k q below)))

  homes : (home : ℕ) → more home ≡ at_home home (done ++ k ∷ [])
  homes home =
      mores home
      ∙ (ap (λ (n : ℕ). cond (eqb k.0 home) (n + 1) (count home)) (counts k.0)
      ∙ (ap (λ (n : ℕ). cond (eqb k.0 home) (at_home k.0 done + 1) n) (counts home)
      ∙ (by (eqb k.0 home) refl
      ∙ sym (at-home-more home done k)))) where
        by : (b : Bool) → eqb k.0 home ≡ b → cond b (at_home k.0 done + 1) (at_home home done) ≡ at_home home done + cond (eqb k.0 home) 1 0
        by true e = ap (λ (n : ℕ). at_home n done + 1) (eqb-true k.0 home e) ∙ ap (λ (c : Bool). at_home home done + cond c 1 0) (sym e)
        by false e = let none : at_home home done ≡ at_home home done + 0 = omega arith in none ∙ ap (λ (c : Bool). at_home home done + cond c 1 0) (sym e)

-- one more for its home
pub count-more : (a home n : ℕ) (o : Option ℕ) → unwrap_or (cond (is_at (nat_cmp a) home) (Some n) o) 0 ≡ cond (eqb a home) n (unwrap_or o 0)
count-more a home n o = ap (λ (b : Bool). unwrap_or (cond b (Some n) o) 0) (is_eq_cmp a home) ∙ by (eqb a home) where
  by : (b : Bool) → unwrap_or (cond b (Some n) o) 0 ≡ cond b n (unwrap_or o 0)
  by true = refl
  by false = refl

pub few-more : (a home n m len rest left : ℕ) → n + rest ≤ len → m + rest ≤ len → rest ≡ 1 + left → cond (eqb a home) (m + 1) n + left ≤ len
few-more a home n m len rest left h k e = by (eqb a home) where
  by : (b : Bool) → cond b (m + 1) n + left ≤ len
  by true = omega (arith, k, e)
  by false = omega (arith, h, e)

pub next-small : (home : ℕ) (ts : List TrackState) → All (λ (t : TrackState). t.next_link ≤ 2 ^ 31) ts → next_link_at home ts ≤ 2 ^ 31
next-small home [] h = omega arith
next-small home (t ∷ ts) h = by (eqb t.number home) (next-small home ts (λ k d lt. h (suc k) d (omega (arith, lt)))) where
  by : (b : Bool) → next_link_at home ts ≤ 2 ^ 31 → cond b t.next_link (next_link_at home ts) ≤ 2 ^ 31
  by true rest = h 0 t (omega arith)
  by false rest = rest

pub sum-few : (ts : List TrackState) → All (λ (t : TrackState). length (items_of t.cells) ≤ MAX_ITEMS) ts → sum_by (λ (t : TrackState). length (items_of t.cells)) ts ≤ 65536 * length ts
sum-few [] h = omega arith
sum-few (t ∷ ts) h = omega (arith, sum_by-cons (λ (t : TrackState). length (items_of t.cells)) t ts, h 0 t (omega arith), sum-few ts (λ k d lt. h (suc k) d (omega (arith, lt))))

pub sum-sizes : (ts : List TrackState) → sum_by (λ (t : TrackState). length (items_of t.cells)) ts ≤ sizes_of ts
sum-sizes [] = omega arith
sum-sizes (t ∷ ts) = omega (arith, sum_by-cons (λ (t : TrackState). length (items_of t.cells)) t ts, sum_by-cons size_of t ts, sum-sizes ts)
