-- Reel names that are kept as keys.
use Rattle.std.proofs.Common.{◌≡◌, ℕ, List, [], ◌∷◌, ◌++◌, Bool, true, false, ◌||◌, Some, map, position, length, slice_get, refl, ap, sym, ◌∙◌, option_map, String, Global, if◌then◌else◌, get_or, arith, ◌+◌, cond}
use Rattle.std.specs.List.{list_any, AllZip}
use Rattle.std.specs.Str.{bytes_eq}
use Rattle.std.specs.String.{string_bytes, string_eq}
use Rattle.std.proofs.lemmas.List.Quantifiers.{position-Some}
use Rattle.std.proofs.lemmas.Option.{slice_get-map, slice_get-get_or}
use Rattle.std.proofs.lemmas.List.{map-append, length-append, length-map}
use Rattle.std.proofs.lemmas.Slice.Eq.{bytes_eq-Decides}
use Rattle.std.proofs.Math.Seq.{get_or-append_seam}
use Rattle.reel_table.specs.ReelNames.{with_name, AreDistinct}

pub any_map : {A : Type 0} (f : A → List ℕ) (p : List ℕ → Bool) (xs : List A) → list_any (λ x. p (f x)) xs ≡ list_any p (map f xs)
any_map f p [] = refl
any_map f p (x ∷ xs) = ap (λ b. p (f x) || b) (any_map f p xs)

-- the place of a name that is there
pub at_place : {A : Type 0} (f : A → List ℕ) (name : List ℕ) (xs : List A) (i : ℕ) → position (λ x. bytes_eq name (f x)) xs ≡ Some i → slice_get (map f xs) i ≡ Some name
at_place f name [] i e = cc
at_place f name (y ∷ ys) i e =
    let h = position-Some (λ x. bytes_eq name (f x)) (y ∷ ys) i y e in
    slice_get-map f (y ∷ ys) i ∙ (ap (option_map f) (slice_get-get_or (y ∷ ys) i y h.0) ∙ ap Some (sym ((bytes_eq-Decides name (f (get_or (y ∷ ys) i y))).0 h.1)))

-- a name that is there leaves the names as they are
pub stays : (names : List (List ℕ)) (name : List ℕ) → list_any (bytes_eq name) names ≡ true → with_name names name ≡ names
stays names name h = rw h refl

grown_keys : (keys new : List (String Global)) (text : String Global) (name : List ℕ) → string_bytes text ≡ name
    → list_any (λ k. bytes_eq name (string_bytes k)) keys ≡ false
    → new ≡ (if list_any (string_eq text) keys then keys else keys ++ text ∷ []) → new ≡ keys ++ text ∷ []
grown_keys keys new text name is none made =
    let fresh : list_any (string_eq text) keys ≡ false = ap (λ n. list_any (λ k. bytes_eq n (string_bytes k)) keys) is ∙ none in
    made ∙ rw fresh refl

-- one that is not goes last
pub grows : (keys new : List (String Global)) (text : String Global) (name : List ℕ) → string_bytes text ≡ name
    → list_any (λ k. bytes_eq name (string_bytes k)) keys ≡ false
    → new ≡ (if list_any (string_eq text) keys then keys else keys ++ text ∷ [])
    → map (λ s. string_bytes s) new ≡ with_name (map (λ s. string_bytes s) keys) name
grows keys new text name is none made =
    let absent : list_any (bytes_eq name) (map (λ s. string_bytes s) keys) ≡ false = sym (any_map (λ s. string_bytes s) (bytes_eq name) keys) ∙ none in
    let grown = grown_keys keys new text name is none made in
    rw (absent, grown) (map-append (λ s. string_bytes s) keys (text ∷ []) ∙ ap (λ n. map (λ s. string_bytes s) keys ++ n ∷ []) is)

-- there is then one more, and still none stands twice
pub grows_by_one : (keys new : List (String Global)) (text : String Global) (name : List ℕ) → string_bytes text ≡ name
    → list_any (λ k. bytes_eq name (string_bytes k)) keys ≡ false
    → new ≡ (if list_any (string_eq text) keys then keys else keys ++ text ∷ [])
    → length new ≡ length (map (λ s. string_bytes s) keys) + 1
grows_by_one keys new text name is none made =
    omega (arith, ap length (grown_keys keys new text name is none made), length-append keys (text ∷ []), length-map keys (λ s. string_bytes s))

neither : (a b : Bool) → (a || b) ≡ false → (a ≡ false) × (b ≡ false)
neither true b e = cc
neither false b e = (refl, e)

any_last : (p : List ℕ → Bool) (names : List (List ℕ)) (name : List ℕ) → list_any p names ≡ false → p name ≡ false → list_any p (names ++ name ∷ []) ≡ false
any_last p [] name none last = rw last refl
any_last p (n ∷ ns) name none last =
    let parts = neither (p n) (list_any p ns) none in
    rw parts.0 (any_last p ns name parts.1 last)

differ-sym : (m n : List ℕ) → bytes_eq m n ≡ false → bytes_eq n m ≡ false
differ-sym m n e = by_test (bytes_eq n m) refl where
  by_test : (b : Bool) → bytes_eq n m ≡ b → b ≡ false
  by_test true same = absurd (clash (sym e ∙ (bytes_eq-Decides m n).1 (sym ((bytes_eq-Decides n m).0 same)))) where
    clash : false ≡ true → ⊥
    clash h = cc
  by_test false same = refl

distinct_last : (names : List (List ℕ)) (name : List ℕ) → AreDistinct names → list_any (bytes_eq name) names ≡ false → AreDistinct (names ++ name ∷ [])
distinct_last [] name d none = (refl, tt)
distinct_last (n ∷ ns) name d none =
    let parts = neither (bytes_eq name n) (list_any (bytes_eq name) ns) none in
    (any_last (bytes_eq n) ns name d.0 (differ-sym name n parts.0), distinct_last ns name d.1 parts.1)

pub distinct-with_name : (names : List (List ℕ)) (name : List ℕ) → AreDistinct names → AreDistinct (with_name names name)
distinct-with_name names name d = by_test (list_any (bytes_eq name) names) refl where
  by_test : (b : Bool) → list_any (bytes_eq name) names ≡ b → AreDistinct (cond b names (names ++ name ∷ []))
  by_test true e = d
  by_test false e = distinct_last names name d e

-- clones have the same text
pub same_texts : (xs ys : List (String Global)) → AllZip (λ x y. string_bytes y ≡ string_bytes x) xs ys
    → map (λ s. string_bytes s) ys ≡ map (λ s. string_bytes s) xs
same_texts [] [] z = refl
same_texts [] (y ∷ ys) z = absurd z
same_texts (x ∷ xs) [] z = absurd z
same_texts (x ∷ xs) (y ∷ ys) z = rw (z.0, same_texts xs ys z.1) refl

pub last_of : {A : Type 0} (xs : List A) (x : A) → slice_get (xs ++ x ∷ []) (length xs) ≡ Some x
last_of xs x = slice_get-get_or (xs ++ x ∷ []) (length xs) x (omega (arith, length-append xs (x ∷ []))) ∙ ap Some (get_or-append_seam xs x [] x)

-- and it has the last number
pub last_number : (keys new : List (String Global)) (text : String Global) (name : List ℕ) (n : ℕ) → n ≡ length keys → string_bytes text ≡ name
    → list_any (λ k. bytes_eq name (string_bytes k)) keys ≡ false
    → new ≡ (if list_any (string_eq text) keys then keys else keys ++ text ∷ [])
    → slice_get (map (λ s. string_bytes s) new) n ≡ Some name
last_number keys new text name n at is none made =
    let grown = grown_keys keys new text name is none made in
    rw (at, grown) (slice_get-map (λ s. string_bytes s) (keys ++ text ∷ []) (length keys) ∙ (ap (option_map (λ s. string_bytes s)) (last_of keys text) ∙ ap Some is))
