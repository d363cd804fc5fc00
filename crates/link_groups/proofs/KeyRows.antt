-- Keys marked in a row.
use Rattle.std.proofs.Common.{◌≡◌, ℕ, zero, suc, ◌+◌, ◌*◌, ◌%◌, ◌^◌, ◌≤◌, Bool, true, false, ◌&&◌, ◌||◌, nat_eq, List, [], ◌∷◌, length, take, Option, Some, None, IfSome, slice_get, slice_set, refl, sym, ap, ◌∙◌, arith, subst}
use Rattle.std.specs.List.{All, list_any}
use Rattle.std.proofs.lemmas.Bool.{eqb-true}
use Rattle.frame_meaning.specs.declared.cells.Link.{Link}
use Rattle.composables.specs.declared.items.ItemView.{ItemView}
use Rattle.composables.specs.TrackSets.{link_key}
use Rattle.link_groups.specs.Keys.{has_pair, may_be_set, pair_key}
use Rattle.link_groups.specs.Splits.{is_key_of}

true_false : true ≡ false → ⊥
true_false e = cc

false_true : false ≡ true → ⊥
false_true e = cc

-- a mark that is set stays, and there is one more
pub set-grows : (row : List Bool) (i n : ℕ) → may_be_set (slice_get row n) ≡ true → may_be_set (slice_get (slice_set row i true) n) ≡ true
set-grows [] i n h = h
set-grows (b ∷ bs) zero zero h = refl
set-grows (b ∷ bs) zero (suc n) h = h
set-grows (b ∷ bs) (suc i) zero h = h
set-grows (b ∷ bs) (suc i) (suc n) h = set-grows bs i n h

pub set-marked : (row : List Bool) (i : ℕ) → may_be_set (slice_get (slice_set row i true) i) ≡ true
set-marked [] i = refl
set-marked (b ∷ bs) zero = refl
set-marked (b ∷ bs) (suc i) = set-marked bs i

-- what has no place counts as marked
pub set-past : (row : List Bool) (i : ℕ) → length row ≤ i → may_be_set (slice_get row i) ≡ true
set-past [] i h = refl
set-past (b ∷ bs) zero h = absurd (omega (arith, h))
set-past (b ∷ bs) (suc i) h = set-past bs i (omega (arith, h))

-- none of these is
pub none-of : (f : ℕ → Bool) (keys : List ℕ) (k : ℕ) → list_any f keys ≡ false → list_any (nat_eq k) keys ≡ true → f k ≡ false
none-of f [] k none has = absurd (false_true has)
none-of f (x ∷ xs) k none has = by (f x) (nat_eq k x) refl refl (λ h g. none-of f xs k h g) where
  by : (b c : Bool) → f x ≡ b → nat_eq k x ≡ c → (list_any f xs ≡ false → list_any (nat_eq k) xs ≡ true → f k ≡ false) → f k ≡ false
  by true c e g rest = absurd (true_false (sym (ap (λ (d : Bool). d || list_any f xs) e) ∙ none))
  by false true e g rest = ap f (eqb-true k x g) ∙ e
  by false false e g rest =
      rest (sym (ap (λ (d : Bool). d || list_any f xs) e) ∙ none)
      (sym (ap (λ (d : Bool). d || list_any (nat_eq k) xs) g) ∙ has)

-- the key of a link with this home and number
both : (a b : Bool) → (a && b) ≡ true → (a ≡ true) × (b ≡ true)
both true b e = (refl, e)
both false b e = absurd (false_true e)

pub key-of : (q : ℕ × ℕ) (o : Option Link) → is_key_of q o ≡ true → link_key o ≡ Some (pair_key q)
key-of q None e = absurd (false_true e)
key-of q (Some l) e =
    let h = both (nat_eq q.0 l.home) (nat_eq q.1 l.number) e in
    let home : q.0 ≡ l.home = eqb-true q.0 l.home h.0 in
    let number : q.1 ≡ l.number = eqb-true q.1 l.number h.1 in
    ap (λ (n : ℕ). Some (n % 32 * 2 ^ 27 + l.number % 2 ^ 27)) (sym home) ∙ ap (λ (n : ℕ). Some (q.0 % 32 * 2 ^ 27 + n % 2 ^ 27)) (sym number)

-- each of these has the key of its link, if it has one, in this row
abbrev pub HaveKeys : List ℕ → List ItemView → Type 0
HaveKeys row vs = All (λ (v : ItemView). IfSome (link_key v.link) (λ k. list_any (nat_eq k) row ≡ true)) vs

-- then its key is in their row
pub in-row : (q : ℕ × ℕ) (row : List ℕ) (vs : List ItemView) → HaveKeys row vs → has_pair q vs ≡ true → list_any (nat_eq (pair_key q)) row ≡ true
in-row q row [] h has = absurd (false_true has)
in-row q row (v ∷ vs) h has = by (is_key_of q v.link) refl (λ e. in-row q row vs (λ k d low. h (suc k) d (omega (arith, low))) e) where
  one : (o : Option ℕ) → o ≡ Some (pair_key q) → IfSome o (λ k. list_any (nat_eq k) row ≡ true) → list_any (nat_eq (pair_key q)) row ≡ true
  one o is held = subst (λ (p : Option ℕ). IfSome p (λ k. list_any (nat_eq k) row ≡ true)) is held

  by : (b : Bool) → is_key_of q v.link ≡ b → (has_pair q vs ≡ true → list_any (nat_eq (pair_key q)) row ≡ true) → list_any (nat_eq (pair_key q)) row ≡ true
  by true e rest = one (link_key v.link) (key-of q v.link e) (h 0 v (omega arith))
  by false e rest = rest (sym (ap (λ (b : Bool). b || has_pair q vs) e) ∙ has)

-- of one item alone it is its own link
pub one-pair : (q : ℕ × ℕ) (v : ItemView) (old new : List ItemView) → old ≡ v ∷ new → has_pair q (take 1 old) ≡ true → is_key_of q v.link ≡ true
one-pair q v old new is h = or_false (is_key_of q v.link) (sym (ap (λ (vs : List ItemView). has_pair q (take 1 vs)) is) ∙ h) where
  or_false : (b : Bool) → (b || false) ≡ true → b ≡ true
  or_false true e = refl
  or_false false e = e
