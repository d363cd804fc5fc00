-- The number of a reel: where its name stands, which is one place alone.
use Rattle.std.proofs.Common.{◌≡◌, ℕ, zero, suc, ◌≤◌, Bool, true, false, ◌||◌, List, [], ◌∷◌, ◌++◌, length, Some, slice_get, refl, sym, ap, ◌∙◌, subst, arith, cond, if◌then◌else◌}
use Rattle.std.specs.List.{list_any}
use Rattle.std.specs.Str.{bytes_eq, IsUtf8}
use Rattle.std.proofs.lemmas.List.Elements.{All-append, All-cons, All-nil}
use Rattle.std.proofs.lemmas.Slice.Eq.{bytes_eq-Decides}
use Rattle.reel_table.specs.ReelNames.{with_name, AreDistinct}
use Rattle.reel_table.proofs.Keys.{distinct-with_name}
use Rattle.otio_tracks.specs.Clips.{name_at}
use Rattle.otio_tracks.specs.ReelTexts.{AreTexts}

or_parts : (a b : Bool) → (a || b) ≡ false → (a ≡ false) × (b ≡ false)
or_parts true b e = cc
or_parts false b e = (refl, e)

any_at : (p : List ℕ → Bool) (xs : List (List ℕ)) (i : ℕ) (y : List ℕ) → list_any p xs ≡ false → slice_get xs i ≡ Some y → p y ≡ false
any_at p [] i y none at = cc
any_at p (x ∷ xs) zero y none at = let same : x ≡ y = cc in ap p (sym same) ∙ (or_parts (p x) (list_any p xs) none).0
any_at p (x ∷ xs) (suc i) y none at = any_at p xs i y (or_parts (p x) (list_any p xs) none).1 at

same_test : (m n : List ℕ) (b : Bool) → bytes_eq m n ≡ b → bytes_eq n m ≡ false → b ≡ false
same_test m n true e d = d_of (sym ((bytes_eq-Decides m n).0 e)) where
  d_of : n ≡ m → true ≡ false
  d_of s = sym ((bytes_eq-Decides n m).1 s) ∙ d
same_test m n false e d = refl

here : (x name : List ℕ) (xs : List (List ℕ)) → x ≡ name → name_at (x ∷ xs) name ≡ 0
here x name xs e = ap (λ b. if b then 0 else suc (name_at xs name)) ((bytes_eq-Decides name x).1 (sym e))

there : (x name : List ℕ) (xs : List (List ℕ)) → bytes_eq name x ≡ false → name_at (x ∷ xs) name ≡ suc (name_at xs name)
there x name xs e = ap (λ b. if b then 0 else suc (name_at xs name)) e

pub only_place : (names : List (List ℕ)) (i : ℕ) (name : List ℕ) → AreDistinct names → slice_get names i ≡ Some name → i ≡ name_at names name
only_place [] i name d at = cc
only_place (x ∷ xs) zero name d at = let same : x ≡ name = cc in sym (here x name xs same)
only_place (x ∷ xs) (suc i) name d at =
    let apart : bytes_eq name x ≡ false = same_test name x (bytes_eq name x) refl (any_at (bytes_eq x) xs i name d.0 at) in
    ap suc (only_place xs i name d.1 at) ∙ sym (there x name xs apart)

-- a new name goes last, and any other stays
last_place : (names : List (List ℕ)) (name : List ℕ) → list_any (bytes_eq name) names ≡ false → name_at (names ++ name ∷ []) name ≡ name_at names name
last_place [] name none = here name name [] refl
last_place (x ∷ xs) name none =
    let p = or_parts (bytes_eq name x) (list_any (bytes_eq name) xs) none in
    there x name (xs ++ name ∷ []) p.0 ∙ (ap suc (last_place xs name p.1) ∙ sym (there x name xs p.0))

same_place : (names : List (List ℕ)) (name : List ℕ) → name_at (with_name names name) name ≡ name_at names name
same_place names name = by_test (list_any (bytes_eq name) names) refl where
  by_test : (b : Bool) → list_any (bytes_eq name) names ≡ b → name_at (cond b names (names ++ name ∷ [])) name ≡ name_at names name
  by_test true e = refl
  by_test false e = last_place names name e

pub entered_at : (names new : List (List ℕ)) (n : ℕ) (name : List ℕ) → AreDistinct names → new ≡ with_name names name → slice_get new n ≡ Some name → n ≡ name_at names name
entered_at names new n name d e at =
    only_place (with_name names name) n name (distinct-with_name names name d) (ap (λ ns. slice_get ns n) (sym e) ∙ at) ∙ same_place names name

place_by : (b : Bool) (n m : ℕ) → n ≤ m → (if b then 0 else suc n) ≤ suc m
place_by true n m h = omega arith
place_by false n m h = omega (arith, h)

pub place_le : (names : List (List ℕ)) (name : List ℕ) → name_at names name ≤ length names
place_le [] name = omega arith
place_le (x ∷ xs) name = place_by (bytes_eq name x) (name_at xs name) (length xs) (place_le xs name)

-- texts stay texts where a text comes in
pub texts_with : (names new : List (List ℕ)) (name : List ℕ) → AreTexts names → IsUtf8 name → new ≡ with_name names name → AreTexts new
texts_with names new name h u e = subst AreTexts (sym e) (by_test (list_any (bytes_eq name) names)) where
  by_test : (b : Bool) → AreTexts (cond b names (names ++ name ∷ []))
  by_test true = h
  by_test false = All-append IsUtf8 names (name ∷ []) h (All-cons IsUtf8 name [] u (All-nil IsUtf8))
