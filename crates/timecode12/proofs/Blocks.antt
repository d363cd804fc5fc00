-- Lists joined from blocks, and what a filter leaves of them.
use Rattle.std.proofs.Common.{◌≡◌, ℕ, zero, suc, ◌+◌, ◌-◌, ◌<◌, ◌≤◌, Bool, true, false, List, [], ◌∷◌, ◌++◌, map, length, drop, Some, refl, sym, ap, ◌∙◌, arith}
use Rattle.std.specs.Prelude.{slice_get}
use Rattle.std.specs.List.{flat_map, filter}
use Rattle.std.proofs.lemmas.List.{length-append}
use Rattle.std.proofs.lemmas.List.Elements.{filter-append}
use Rattle.timecode12.specs.Labels.{range}

get_left : {A : Type 0} (xs ys : List A) (j : ℕ) → j < length xs → slice_get (xs ++ ys) j ≡ slice_get xs j
get_left [] ys j h = absurd (omega arith)
get_left (x ∷ xs) ys zero h = refl
get_left (x ∷ xs) ys (suc j) h = get_left xs ys j (omega arith)

get_right : {A : Type 0} (xs ys : List A) (j : ℕ) → slice_get (xs ++ ys) (length xs + j) ≡ slice_get ys j
get_right [] ys j = let e : 0 + j ≡ j = omega arith in ap (slice_get ys) e
get_right (x ∷ xs) ys j = let e : suc (length xs) + j ≡ suc (length xs + j) = omega arith in ap (slice_get (x ∷ (xs ++ ys))) e ∙ get_right xs ys j

-- block x starts at s x
later : (s : ℕ → ℕ) (k : ℕ → ℕ) (a i : ℕ) → ((x : ℕ) → s (x + 1) ≡ s x + k x) → s a ≤ s (a + i)
later s k a zero each = let z : a ≡ a + 0 = omega arith in let e : s a ≡ s (a + 0) = ap s z in omega arith
later s k a (suc i) each =
    let z : a + i + 1 ≡ a + suc i = omega arith in
    let e : s (a + i + 1) ≡ s (a + suc i) = ap s z in
    omega (arith, later s k a i each, each (a + i))

-- place j of block i
pub at_block : {A : Type 0} (g : ℕ → List A) (s : ℕ → ℕ) (a n i j p : ℕ) → ((x : ℕ) → s (x + 1) ≡ s x + length (g x)) → i < n → j < length (g (a + i))
    → s a + p ≡ s (a + i) + j → slice_get (flat_map g (range a n)) p ≡ slice_get (g (a + i)) j
at_block g s a zero i j p each lt jt e = absurd (omega arith)
at_block g s a (suc n) zero j p each lt jt e =
    let z : a + 0 ≡ a = omega arith in
    let same : s (a + 0) ≡ s a = ap s z in
    let here : p ≡ j = omega arith in
    let sized : length (g (a + 0)) ≡ length (g a) = ap (λ x. length (g x)) z in
    ap (slice_get (g a ++ flat_map g (range (a + 1) n))) here ∙ (get_left (g a) _ j (omega arith) ∙ ap (λ x. slice_get (g x) j) (sym z))
at_block g s a (suc n) (suc i) j p each lt jt e =
    let z : a + 1 + i ≡ a + suc i = omega arith in
    let same : s (a + 1 + i) ≡ s (a + suc i) = ap s z in
    let sized : length (g (a + 1 + i)) ≡ length (g (a + suc i)) = ap (λ x. length (g x)) z in
    let q = p - length (g a) in
    let past : length (g a) + q ≡ p = omega (arith, later s (λ x. length (g x)) (a + 1) i each, each a) in
    let rest : s (a + 1) + q ≡ s (a + 1 + i) + j = omega (arith, each a) in
    ap (slice_get (g a ++ flat_map g (range (a + 1) n))) (sym past)
    ∙ (get_right (g a) (flat_map g (range (a + 1) n)) q ∙ (at_block g s (a + 1) n i j q each (omega arith) (omega arith) rest ∙ ap (λ x. slice_get (g x) j) z))

pub length-blocks : {A : Type 0} (g : ℕ → List A) (s : ℕ → ℕ) (a n : ℕ) → ((x : ℕ) → s (x + 1) ≡ s x + length (g x)) → s a + length (flat_map g (range a n)) ≡ s (a + n)
length-blocks g s a zero each = let z : a ≡ a + 0 = omega arith in let e : s a ≡ s (a + 0) = ap s z in omega arith
length-blocks g s a (suc n) each =
    let z : a + 1 + n ≡ a + suc n = omega arith in
    let e : s (a + 1 + n) ≡ s (a + suc n) = ap s z in
    omega (arith, length-append (g a) (flat_map g (range (a + 1) n)), each a, length-blocks g s (a + 1) n each)

pub at_map : {A : Type 0} (f : ℕ → A) (a n j : ℕ) → j < n → slice_get (map f (range a n)) j ≡ slice_get (f (a + j) ∷ []) 0
at_map f a zero j h = absurd (omega arith)
at_map f a (suc n) zero h = let z : a ≡ a + 0 = omega arith in ap (λ x. slice_get (f x ∷ []) 0) z
at_map f a (suc n) (suc j) h = let z : a + 1 + j ≡ a + suc j = omega arith in at_map f (a + 1) n j (omega arith) ∙ ap (λ x. slice_get (f x ∷ []) 0) z

pub length-map-range : {A : Type 0} (f : ℕ → A) (a n : ℕ) → length (map f (range a n)) ≡ n
length-map-range f a zero = refl
length-map-range f a (suc n) = ap suc (length-map-range f (a + 1) n)

pub get_drop : {A : Type 0} (xs : List A) (k j : ℕ) → slice_get (drop k xs) j ≡ slice_get xs (k + j)
get_drop xs zero j = let e : j ≡ 0 + j = omega arith in ap (slice_get xs) e
get_drop [] (suc k) j = refl
get_drop (x ∷ xs) (suc k) j = let e : suc (k + j) ≡ suc k + j = omega arith in get_drop xs k j ∙ ap (slice_get (x ∷ xs)) e

pub get_within : {A : Type 0} (xs : List A) (j : ℕ) (x : A) → slice_get xs j ≡ Some x → j < length xs
get_within [] zero x e = cc
get_within [] (suc j) x e = cc
get_within (y ∷ xs) zero x e = omega arith
get_within (y ∷ xs) (suc j) x e = omega (arith, get_within xs j x e)

-- ---- filters

pub filter-flat_map : {A : Type 0} (p : A → Bool) (g : ℕ → List A) (xs : List ℕ) → filter p (flat_map g xs) ≡ flat_map (λ x. filter p (g x)) xs
filter-flat_map p g [] = refl
filter-flat_map p g (x ∷ xs) = filter-append p (g x) (flat_map g xs) ∙ ap (λ ys. filter p (g x) ++ ys) (filter-flat_map p g xs)

pub flat_map-same : {A : Type 0} (g h : ℕ → List A) (xs : List ℕ) → ((x : ℕ) → g x ≡ h x) → flat_map g xs ≡ flat_map h xs
flat_map-same g h [] each = refl
flat_map-same g h (x ∷ xs) each = ap (λ ys. ys ++ flat_map g xs) (each x) ∙ ap (λ ys. h x ++ ys) (flat_map-same g h xs each)

keep_first : {A : Type 0} (p : A → Bool) (x : A) (xs : List A) → p x ≡ true → filter p xs ≡ xs → filter p (x ∷ xs) ≡ x ∷ xs
keep_first p x xs kept same = rw kept (ap (λ ys. x ∷ ys) same)

pub filter-all_map : {A : Type 0} (p : A → Bool) (f : ℕ → A) (a n : ℕ) → ((x : ℕ) → a ≤ x → p (f x) ≡ true) → filter p (map f (range a n)) ≡ map f (range a n)
filter-all_map p f a zero each = refl
filter-all_map p f a (suc n) each =
    keep_first p (f a) (map f (range (a + 1) n)) (each a (omega arith)) (filter-all_map p f (a + 1) n (λ x h. each x (omega arith)))

pub filter-all_blocks : {A : Type 0} (p : A → Bool) (g : ℕ → List A) (a n : ℕ) → ((x : ℕ) → a ≤ x → filter p (g x) ≡ g x) → filter p (flat_map g (range a n)) ≡ flat_map g (range a n)
filter-all_blocks p g a zero each = refl
filter-all_blocks p g a (suc n) each =
    filter-append p (g a) (flat_map g (range (a + 1) n)) ∙ (ap (λ ys. ys ++ filter p (flat_map g (range (a + 1) n))) (each a (omega arith))
    ∙ ap (λ ys. g a ++ ys) (filter-all_blocks p g (a + 1) n (λ x h. each x (omega arith))))

-- the first two are left out, or stay
pub filter-two_less : {A : Type 0} (p : A → Bool) (x y : A) (rest : List A) → p x ≡ false → p y ≡ false → filter p rest ≡ rest → filter p (x ∷ y ∷ rest) ≡ rest
filter-two_less p x y rest nx ny same = rw (nx, ny) same

pub filter-two_more : {A : Type 0} (p : A → Bool) (x y : A) (rest : List A) → p x ≡ true → p y ≡ true → filter p rest ≡ rest → filter p (x ∷ y ∷ rest) ≡ x ∷ y ∷ rest
filter-two_more p x y rest yx yy same = keep_first p x (y ∷ rest) yx (keep_first p y rest yy same)
