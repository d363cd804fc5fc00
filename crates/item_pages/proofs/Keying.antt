-- Rows of keys: what is in one stays so, and what is not is the key of no item.
use Rattle.std.proofs.Common.{◌≡◌, ℕ, ◌+◌, ◌<◌, ◌≤◌, Bool, true, false, ◌&&◌, ◌||◌, nat_eq, Option, Some, None, List, [], ◌∷◌, ◌++◌, length, take, get_or, refl, sym, ap, ◌∙◌, subst, arith}
use Rattle.std.specs.List.{All, list_any}
use Rattle.std.proofs.lemmas.List.{take_all}
use Rattle.std.proofs.lemmas.List.Elements.{All-weaker, All-more}
use Rattle.std.proofs.lemmas.List.Folds.{list_any-append}
use Rattle.item_pages.specs.Keys.{HoldsKeys, InRow}

or_first : (a b : Bool) → a ≡ true → (a || b) ≡ true
or_first true b e = refl
or_first false b e = Prim.grind (arith, e)

same_key : (k : ℕ) → nat_eq k k ≡ true
same_key k = Prim.grind arith

-- a row with one key more
pub row_kept : (k n : ℕ) (row new : List ℕ) → new ≡ row ++ n ∷ [] → list_any (nat_eq k) row ≡ true → list_any (nat_eq k) new ≡ true
row_kept k n row new is h = ap (list_any (nat_eq k)) is ∙ (list_any-append (nat_eq k) row (n ∷ []) ∙ or_first (list_any (nat_eq k) row) (list_any (nat_eq k) (n ∷ [])) h)

or_behind : (a b : Bool) → b ≡ true → (a || (b || false)) ≡ true
or_behind true b e = refl
or_behind false true e = refl
or_behind false false e = e

pub row_with : (n : ℕ) (row new : List ℕ) (o : Option ℕ) → new ≡ row ++ n ∷ [] → o ≡ Some n → InRow new o
row_with n row new o is told = subst (InRow new) (sym told)
    (ap (list_any (nat_eq n)) is ∙ (list_any-append (nat_eq n) row (n ∷ []) ∙ or_behind (list_any (nat_eq n) row) (nat_eq n n) (same_key n)))

pub row_none : (row : List ℕ) (o : Option ℕ) → o ≡ None → InRow row o
row_none row o none = subst (InRow row) (sym none) tt

in_more : (row new : List ℕ) (o : Option ℕ) → ((k : ℕ) → list_any (nat_eq k) row ≡ true → list_any (nat_eq k) new ≡ true) → InRow row o → InRow new o
in_more row new None f h = tt
in_more row new (Some k) f h = f k h

-- the keys of one item more
pub keys_more : {T : Type 0} (keyed : T → Option ℕ) (row new : List ℕ) (items : List T) (i : ℕ) (x : T) → i < length items → x ≡ get_or items i x
    → ((k : ℕ) → list_any (nat_eq k) row ≡ true → list_any (nat_eq k) new ≡ true) → HoldsKeys keyed row (take i items) → InRow new (keyed x) → HoldsKeys keyed new (take (i + 1) items)
keys_more {T} keyed row new items i x h is f held here =
    All-more (λ (y : T). InRow new (keyed y)) items i x h
    (All-weaker (λ (y : T). InRow row (keyed y)) (λ (y : T). InRow new (keyed y)) (λ y k. in_more row new (keyed y) f k) (take i items) held)
    (rw (sym is) here)

pub keys_all : {T : Type 0} (keyed : T → Option ℕ) (row : List ℕ) (items : List T) (i : ℕ) → length items ≤ i → HoldsKeys keyed row (take i items) → HoldsKeys keyed row items
keys_all {T} keyed row items i h held = subst (λ (xs : List T). HoldsKeys keyed row xs) (take_all i items h) held

not_in : (row : List ℕ) (n : ℕ) (o : Option ℕ) → list_any (nat_eq n) row ≡ false → InRow row o → o ≡ Some n → ⊥
not_in row n None none h e = cc
not_in row n (Some k) none h e = absurd (Prim.grind (arith, none, h, e))

-- a key that is not in the row is that of no item
pub keyless : {T : Type 0} (keyed : T → Option ℕ) (row : List ℕ) (items : List T) (n : ℕ) → HoldsKeys keyed row items → list_any (nat_eq n) row ≡ false → All (λ (x : T). keyed x ≡ Some n → ⊥) items
keyless {T} keyed row items n held none = All-weaker (λ (x : T). InRow row (keyed x)) (λ (x : T). keyed x ≡ Some n → ⊥) (λ x h. not_in row n (keyed x) none h) items held

pub and_first : (a b : Bool) → (a && b) ≡ true → a ≡ true
and_first true b e = refl
and_first false b e = e

pub and_second : (a b : Bool) → (a && b) ≡ true → b ≡ true
and_second true b e = e
and_second false b e = Prim.grind (arith, e)
