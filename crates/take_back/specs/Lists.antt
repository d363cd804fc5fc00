-- Lists by place: what stands at each number after parts were put into the places with some numbers.
use Rattle.std.proofs.Common.{◌≡◌, ◌≢◌, ℕ, zero, suc, ◌+◌, ◌<◌, ◌≤◌, List, [], ◌∷◌, Bool, true, false, ◌||◌, ◌==◌}
use Rattle.std.proofs.Common.{Option, Some, None, slice_get, slice_set, length, map, refl, sym, ap, subst, ◌∙◌, arith}
use Rattle.std.specs.List.{list_any}
use Rattle.std.proofs.lemmas.Bool.Decides.{nat_tests}
use Rattle.std.proofs.Math.ListN.{length-set}
use Rattle.room_core.specs.Parts.{AscendBetween}
use Rattle.room_core.specs.Whole.{picked, put_back, with_picked}
use Rattle.room_core.proofs.WholeParts.{get-set_other, get-put_back}
use Rattle.take_back.specs.Left.{is_among, meet}

pub true_false : {A : Type 0} → true ≡ false → A
true_false e = absurd (Prim.grind (arith, e))

pub some_is : {A : Type 0} (x y : A) → Some x ≡ Some y → x ≡ y
some_is x y e = Prim.grind (arith, e)

pub none_some : {A B : Type 0} (x : A) → None ≡ Some x → B
none_some x e = absurd (Prim.grind (arith, e))

pub either : (a b : Bool) → (a || b) ≡ false → (a ≡ false) × (b ≡ false)
either true b h = true_false h
either false b h = (refl, h)

pub or_true : (a b : Bool) → b ≡ true → (a || b) ≡ true
or_true true b e = refl
or_true false b e = e

pub same_number : (n k : ℕ) → (n == k) ≡ true → n ≡ k
same_number n k h = Prim.grind (arith, nat_tests, h)

pub is_itself : (n : ℕ) → (n == n) ≡ true
is_itself n = Prim.grind (arith, nat_tests)

pub apart : (n k : ℕ) → (n == k) ≡ false → n ≢ k
apart n k h e = Prim.grind (arith, nat_tests, h, e)

-- lists with one thing at each place are one
pub same_at_each : {A : Type 0} (xs ys : List A) → ((k : ℕ) → slice_get xs k ≡ slice_get ys k) → xs ≡ ys
same_at_each [] [] h = refl
same_at_each [] (y ∷ ys) h = none_some y (h 0)
same_at_each (x ∷ xs) [] h = none_some x (sym (h 0))
same_at_each (x ∷ xs) (y ∷ ys) h =
    let first = some_is x y (h 0) in
    ap (λ z. z ∷ xs) first ∙ ap (λ zs. y ∷ zs) (same_at_each xs ys (λ k. h (suc k)))

pub get-there : {A : Type 0} (xs : List A) (k : ℕ) → k < length xs → (x : A) × (slice_get xs k ≡ Some x)
get-there [] k h = absurd (omega (arith, h))
get-there (x ∷ xs) zero h = (x, refl)
get-there (x ∷ xs) (suc k) h = get-there xs k (omega (arith, h))

pub get-map : {A B : Type 0} (f : A → B) (xs : List A) (k : ℕ) (x : A) → slice_get xs k ≡ Some x
    → slice_get (map f xs) k ≡ Some (f x)
get-map f [] k x h = none_some x h
get-map f (y ∷ ys) zero x h = ap (λ z. Some (f z)) (some_is y x h)
get-map f (y ∷ ys) (suc k) x h = get-map f ys k x h

-- what stands at a place of a list of which each thing was changed
pub get-map_back : {A B : Type 0} (f : A → B) (xs : List A) (k : ℕ) (y : B) → slice_get (map f xs) k ≡ Some y → (x : A)
    × (slice_get xs k ≡ Some x) × (f x ≡ y)
get-map_back f [] k y h = none_some y h
get-map_back f (x ∷ xs) zero y h = (x, refl, some_is (f x) y h)
get-map_back f (x ∷ xs) (suc k) y h = get-map_back f xs k y h

get-map_none : {A B : Type 0} (f : A → B) (xs : List A) (k : ℕ) → slice_get xs k ≡ None → slice_get (map f xs) k ≡ None
get-map_none f [] k e = refl
get-map_none f (x ∷ xs) zero e = none_some x (sym e)
get-map_none f (x ∷ xs) (suc k) e = get-map_none f xs k e

map_same : {A B : Type 0} (f : A → B) (xs ys : List A) (k : ℕ) (o : Option A) → slice_get xs k ≡ o → slice_get ys k ≡ o
    → slice_get (map f xs) k ≡ slice_get (map f ys) k
map_same f xs ys k None e h = get-map_none f xs k e ∙ sym (get-map_none f ys k h)
map_same f xs ys k (Some y) e h = get-map f xs k y e ∙ sym (get-map f ys k y h)

pub get-map_same : {A B : Type 0} (f : A → B) (xs ys : List A) (k : ℕ) → slice_get xs k ≡ slice_get ys k
    → slice_get (map f xs) k ≡ slice_get (map f ys) k
get-map_same f xs ys k h = map_same f xs ys k (slice_get ys k) h refl

pub map-set : {A B : Type 0} (f : A → B) (xs : List A) (n : ℕ) (x : A) → map f (slice_set xs n x) ≡ slice_set
    (map f xs) n (f x)
map-set f [] n x = refl
map-set f (y ∷ ys) zero x = refl
map-set f (y ∷ ys) (suc n) x = ap (λ zs. f y ∷ zs) (map-set f ys n x)

map-picked_one : {A B : Type 0} (f : A → B) (xs : List A) (n : ℕ) (o : Option A) (ps : List A) (qs : List B)
    → slice_get xs n ≡ o → map f ps ≡ qs
    → map f (with_picked o ps) ≡ with_picked (slice_get (map f xs) n) qs
map-picked_one f xs n None ps qs e h = h ∙ ap (λ o. with_picked o qs) (sym (get-map_none f xs n e))
map-picked_one f xs n (Some x) ps qs e h = ap (λ ys. f x ∷ ys) h ∙ ap (λ o. with_picked o qs) (sym (get-map f xs n x e))

pub map-picked : {A B : Type 0} (f : A → B) (xs : List A) (names : List ℕ) → map f (picked xs names) ≡ picked
    (map f xs) names
map-picked f xs [] = refl
map-picked f xs (n ∷ ns) = map-picked_one f xs n (slice_get xs n) (picked xs ns) (picked (map f xs) ns) refl
    (map-picked f xs ns)

pub map-put_back : {A B : Type 0} (f : A → B) (xs : List A) (names : List ℕ) (ts : List A)
    → map f (put_back xs names ts) ≡ put_back (map f xs) names (map f ts)
map-put_back f xs [] ts = refl
map-put_back f xs (n ∷ ns) [] = refl
map-put_back f xs (n ∷ ns) (t ∷ ts) = map-put_back f (slice_set xs n t) ns ts ∙ ap (λ ys. put_back ys ns (map f ts))
    (map-set f xs n t)

pub length-put_back : {A : Type 0} (xs : List A) (names : List ℕ) (ts : List A)
    → length (put_back xs names ts) ≡ length xs
length-put_back xs [] ts = refl
length-put_back xs (n ∷ ns) [] = refl
length-put_back xs (n ∷ ns) (t ∷ ts) = length-put_back (slice_set xs n t) ns ts ∙ length-set xs n t

pub get-set : {A : Type 0} (xs : List A) (n : ℕ) (x : A) → n < length xs → slice_get (slice_set xs n x) n ≡ Some x
get-set [] n x h = absurd (omega (arith, h))
get-set (y ∷ ys) zero x h = refl
get-set (y ∷ ys) (suc n) x h = get-set ys n x (omega (arith, h))

-- where one thing stands in two lists, one stands there still after a change of both
pub set-same : {A : Type 0} (xs ys : List A) (n k : ℕ) (x : A) → slice_get xs k ≡ slice_get ys k
    → slice_get (slice_set xs n x) k ≡ slice_get (slice_set ys n x) k
set-same [] [] n k x h = refl
set-same [] (y ∷ ys) n zero x h = none_some y h
set-same [] (y ∷ ys) zero (suc k) x h = h
set-same [] (y ∷ ys) (suc n) (suc k) x h = set-same [] ys n k x h
set-same (z ∷ zs) [] n zero x h = none_some z (sym h)
set-same (z ∷ zs) [] zero (suc k) x h = h
set-same (z ∷ zs) [] (suc n) (suc k) x h = set-same zs [] n k x h
set-same (z ∷ zs) (y ∷ ys) zero zero x h = refl
set-same (z ∷ zs) (y ∷ ys) zero (suc k) x h = h
set-same (z ∷ zs) (y ∷ ys) (suc n) zero x h = h
set-same (z ∷ zs) (y ∷ ys) (suc n) (suc k) x h = set-same zs ys n k x h

pub put_back-same : {A : Type 0} (xs ys : List A) (names : List ℕ) (ts : List A) (k : ℕ)
    → slice_get xs k ≡ slice_get ys k
    → slice_get (put_back xs names ts) k ≡ slice_get (put_back ys names ts) k
put_back-same xs ys [] ts k h = h
put_back-same xs ys (n ∷ ns) [] k h = h
put_back-same xs ys (n ∷ ns) (t ∷ ts) k h = put_back-same (slice_set xs n t) (slice_set ys n t) ns ts k
    (set-same xs ys n k t h)

-- what is picked depends on what stands at the names
pub picked-same : {A : Type 0} (xs ys : List A) (names : List ℕ)
    → ((k : ℕ) → is_among names k ≡ true → slice_get xs k ≡ slice_get ys k) → picked xs names ≡ picked ys names
picked-same xs ys [] h = refl
picked-same xs ys (n ∷ ns) h =
    ap (λ o. with_picked o (picked xs ns)) (h n (ap (λ a. a || is_among ns n) (is_itself n)))
    ∙ ap (λ ps. with_picked (slice_get ys n) ps) (picked-same xs ys ns
    (λ k a. h k (or_true (n == k) (is_among ns k) a)))

-- a number below all of some is none of them
pub not_below : (least count k : ℕ) (names : List ℕ) → AscendBetween least count names → k < least
    → is_among names k ≡ false
not_below least count k [] a h = refl
not_below least count k (n ∷ ns) a h =
    let other : (n == k) ≡ false = Prim.grind (arith, nat_tests, a.0, h) in
    ap (λ b. b || is_among ns k) other ∙ not_below (n + 1) count k ns a.2 (omega (arith, a.0, h))

below_by : (n count k : ℕ) (ns : List ℕ) (b : Bool) → n < count → (n == k) ≡ b → (b || is_among ns k) ≡ true
    → (is_among ns k ≡ true → k < count) → k < count
below_by n count k ns true there e h rest = let same = same_number n k e in omega (arith, same, there)
below_by n count k ns false there e h rest = rest h

pub among_below : (least count k : ℕ) (names : List ℕ) → AscendBetween least count names → is_among names k ≡ true
    → k < count
among_below least count k [] a h = true_false (sym h)
among_below least count k (n ∷ ns) a h = below_by n count k ns (n == k) a.1 refl h
    (λ e. among_below (n + 1) count k ns a.2 e)

pub picked-set : {A : Type 0} (xs : List A) (n : ℕ) (x : A) (least count : ℕ) (names : List ℕ)
    → AscendBetween least count names → n < least
    → picked (slice_set xs n x) names ≡ picked xs names
picked-set xs n x least count names a h =
    picked-same (slice_set xs n x) xs names (λ k among. get-set_other xs n k x
    (λ e. true_false (sym among ∙ not_below least count k names a (omega (arith, e, h)))))

-- a number that is not the first of some is among the others
pub among_rest : (n k : ℕ) (names : List ℕ) → (n == k) ≡ false → is_among (n ∷ names) k ≡ true → is_among names k ≡ true
among_rest n k names e h = ap (λ b. b || is_among names k) (sym e) ∙ h

pub longer : {A : Type 0} (xs : List A) (n : ℕ) (x : A) (least : ℕ) (names : List ℕ)
    → AscendBetween least (length xs) names
    → AscendBetween least (length (slice_set xs n x)) names
longer xs n x least names a = subst (λ (m : ℕ). AscendBetween least m names) (sym (length-set xs n x)) a

-- each thing of a list beside that of another
abbrev pub Paired : {A : Type 0} → (A → A → Type 0) → List A → List A → Type 0
Paired R [] [] = Unit {0}
Paired R [] (t ∷ ts) = ⊥
Paired R (x ∷ xs) [] = ⊥
Paired R (x ∷ xs) (t ∷ ts) = R x t × Paired R xs ts

put_at : {A : Type 0} (R : A → A → Type 0) (xs : List A) (n : ℕ) (ns : List ℕ) (ts : List A) (k : ℕ) (x y t : A)
    (b : Bool) → (n == k) ≡ b → n < length xs
    → AscendBetween (n + 1) (length xs) ns → is_among (n ∷ ns) k ≡ true → slice_get xs k ≡ Some x
    → slice_get xs n ≡ Some y → R y t
    → (is_among ns k ≡ true → slice_get (slice_set xs n t) k ≡ Some x → (u : A)
    × (slice_get (put_back (slice_set xs n t) ns ts) k ≡ Some u) × R x u)
    → (u : A) × (slice_get (put_back (slice_set xs n t) ns ts) k ≡ Some u) × R x u
put_at R xs n ns ts k x y t true e within a among is there holds rest =
    let same = same_number n k e in
    let is_y = some_is y x (sym there ∙ (ap (slice_get xs) same ∙ is)) in (
      t,
      get-put_back (slice_set xs n t) ns ts k (not_below (n + 1) (length xs) k ns a (omega (arith, same)))
          ∙ (ap (slice_get (slice_set xs n t)) (sym same) ∙ get-set xs n t within),
      subst (λ z. R z t) is_y holds,
    )
put_at R xs n ns ts k x y t false e within a among is there holds rest =
    rest (among_rest n k ns e among) (get-set_other xs n k t (apart n k e) ∙ is)

-- what stands at a named place after parts were put back beside those that were picked
pub get-put : {A : Type 0} (R : A → A → Type 0) (xs : List A) (least : ℕ) (names : List ℕ) (ts : List A) (k : ℕ) (x : A)
    → AscendBetween least (length xs) names → Paired R (picked xs names) ts → is_among names k ≡ true
    → slice_get xs k ≡ Some x
    → (u : A) × (slice_get (put_back xs names ts) k ≡ Some u) × R x u
get-put R xs least [] ts k x a pairs among is = true_false (sym among)
get-put R xs least (n ∷ ns) [] k x a pairs among is =
    let there = get-there xs n a.1 in
    absurd (subst (λ o. Paired R (with_picked o (picked xs ns)) []) there.1 pairs)
get-put R xs least (n ∷ ns) (t ∷ ts) k x a pairs among is =
    let there = get-there xs n a.1 in
    let both = subst (λ o. Paired R (with_picked o (picked xs ns)) (t ∷ ts)) there.1 pairs in
    let now = slice_set xs n t in
    put_at R xs n ns ts k x there.0 t (n == k) refl a.1 a.2 among is there.1 both.0
    (λ rest at. get-put R now (n + 1) ns ts k x (longer xs n t (n + 1) ns a.2)
    (subst (λ ps. Paired R ps ts) (sym (picked-set xs n t (n + 1) (length xs) ns a.2 (omega arith))) both.1) rest at)

pub paired-map : {A : Type 0} (f : A → A) (xs : List A) → Paired (λ x t. t ≡ f x) xs (map f xs)
paired-map f [] = tt
paired-map f (x ∷ xs) = (refl, paired-map f xs)

pub set-itself : {A : Type 0} (xs : List A) (n : ℕ) (x : A) → slice_get xs n ≡ Some x → slice_set xs n x ≡ xs
set-itself [] n x h = refl
set-itself (y ∷ ys) zero x h = ap (λ z. z ∷ ys) (sym (some_is y x h))
set-itself (y ∷ ys) (suc n) x h = ap (λ zs. y ∷ zs) (set-itself ys n x h)
