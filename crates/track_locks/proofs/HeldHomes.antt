-- Several homes, seen by their numbers, parts, versions and seats, one more or one less.
use Rattle.std.proofs.Common.{◌≡◌, ℕ, List, [], ◌∷◌, ◌++◌, map, Option, Some, sym, ap, ◌∙◌, subst}
use Rattle.std.specs.List.{filter_map}
use Rattle.std.proofs.lemmas.List.{map-append}
use Rattle.room_core.specs.Whole.{Meaning}
use Rattle.edit_journal.specs.Seats.{Opening}
use Rattle.edit_journal.specs.Turns.{Known}
use Rattle.track_locks.specs.Homes.{IsHeld, AreHomes, IsGoodAt, AreGoodAt}
use Rattle.track_locks.proofs.Goods.{good_less, good_more}
use Rattle.track_locks.proofs.HeldSeats.{with_last}
use Rattle.track_locks.proofs.Several.{less_held, one_held}

pub map_last : {A B : Type 0} (f : A → B) (xs ys : List A) (y : A) → ys ≡ xs ++ y ∷ [] → map f ys ≡ map f xs ++ f y ∷ []
map_last f xs ys y is = ap (map f) is ∙ map-append f xs (y ∷ [])

seat_last : {A S : Type 0} (k : A → Option S) (xs ys : List A) (y : A) (s : S) → ys ≡ xs ++ y ∷ [] → k y ≡ Some s → filter_map k ys ≡ filter_map k xs ++ s ∷ []
seat_last k xs ys y s is e = ap (filter_map k) is ∙ with_last k xs y s e

pub homes_more : {A O P C D R : Type 0} (meaning : O → Meaning P C D R) (opens : O → List P → Type 0) (opening : Option (Opening O P)) (f : A → ℕ) (g : A → P) (h : A → ℕ) (k : A → Option (Known O P C)) (xs ys : List A) (y : A) (s : Known O P C)
    → ys ≡ xs ++ y ∷ [] → k y ≡ Some s → AreHomes meaning opens opening (map f xs) (map g xs) (map h xs) (filter_map k xs) → IsHeld meaning opens opening (f y) (g y) (h y) s
    → AreHomes meaning opens opening (map f ys) (map g ys) (map h ys) (filter_map k ys)
homes_more {A} {O} {P} {C} meaning opens opening f g h k xs ys y s is e homes one =
    let a = map_last f xs ys y is in
    let b = map_last g xs ys y is in
    let c = map_last h xs ys y is in
    let d = seat_last k xs ys y s is e in
    subst (λ (q : List ℕ × List P × List ℕ × List (Known O P C)). AreHomes meaning opens opening q.0 q.1 q.2 q.3) (λ i. (sym a i, sym b i, sym c i, sym d i))
    (one_held meaning opens opening (map f xs) (map g xs) (map h xs) (filter_map k xs) (f y) (g y) (h y) s homes one)

pub homes_less : {A O P C D R : Type 0} (meaning : O → Meaning P C D R) (opens : O → List P → Type 0) (opening : Option (Opening O P)) (f : A → ℕ) (g : A → P) (h : A → ℕ) (k : A → Option (Known O P C)) (xs ys : List A) (y : A) (s : Known O P C)
    → ys ≡ xs ++ y ∷ [] → k y ≡ Some s → AreHomes meaning opens opening (map f ys) (map g ys) (map h ys) (filter_map k ys)
    → AreHomes meaning opens opening (map f xs) (map g xs) (map h xs) (filter_map k xs) × IsHeld meaning opens opening (f y) (g y) (h y) s
homes_less {A} {O} {P} {C} meaning opens opening f g h k xs ys y s is e homes =
    let a = map_last f xs ys y is in
    let b = map_last g xs ys y is in
    let c = map_last h xs ys y is in
    let d = seat_last k xs ys y s is e in
    less_held meaning opens opening (map f xs) (map g xs) (map h xs) (filter_map k xs) (f y) (g y) (h y) s
    (subst (λ (q : List ℕ × List P × List ℕ × List (Known O P C)). AreHomes meaning opens opening q.0 q.1 q.2 q.3) (λ i. (a i, b i, c i, d i)) homes)

pub goods_more : {A O P : Type 0} (good : O → ℕ → P → Type 0) (opening : Option (Opening O P)) (f : A → ℕ) (g : A → P) (xs ys : List A) (y : A)
    → ys ≡ xs ++ y ∷ [] → AreGoodAt good opening (map f xs) (map g xs) → IsGoodAt good opening (f y) (g y) → AreGoodAt good opening (map f ys) (map g ys)
goods_more {A} {O} {P} good opening f g xs ys y is goods one =
    let a = map_last f xs ys y is in
    let b = map_last g xs ys y is in
    subst (λ (q : List ℕ × List P). AreGoodAt good opening q.0 q.1) (λ i. (sym a i, sym b i)) (good_more good opening (map f xs) (map g xs) (f y) (g y) goods one)

pub goods_less : {A O P : Type 0} (good : O → ℕ → P → Type 0) (opening : Option (Opening O P)) (f : A → ℕ) (g : A → P) (xs ys : List A) (y : A)
    → ys ≡ xs ++ y ∷ [] → AreGoodAt good opening (map f ys) (map g ys) → AreGoodAt good opening (map f xs) (map g xs) × IsGoodAt good opening (f y) (g y)
goods_less {A} {O} {P} good opening f g xs ys y is goods =
    let a = map_last f xs ys y is in
    let b = map_last g xs ys y is in
    good_less good opening (map f xs) (map g xs) (f y) (g y) (subst (λ (q : List ℕ × List P). AreGoodAt good opening q.0 q.1) (λ i. (a i, b i)) goods)
