-- The names of reels: each reel of a list has one, no two have one name, and names are taken back.
use Rattle.std.proofs.Common.{◌≡◌, ℕ, Bool, true, false, cond, not, ◌&&◌, ◌==◌, List, [], ◌∷◌, Option, Some, None, IsSome, length, nat_le, inl, inr, refl, sym, ap, ◌∙◌}
use Rattle.std.proofs.lemmas.Bool.{and_parts, cases_Bool, eqb-true, not-true, true≢false}
use Rattle.std.specs.List.{list_all}
use Rattle.std.specs.Str.{bytes_eq}
use Rattle.frame_meaning.specs.declared.frames.Side.{Side}
use Rattle.frame_meaning.specs.declared.frames.Side.TheVariants as side
use Rattle.frame_meaning.specs.declared.frames.Frame.{Frame}
use Rattle.frame_meaning.specs.declared.frames.Frame.TheVariants as frame
use Rattle.reel_names.specs.declared.namer.ReelName.{ReelName}
use Rattle.std.specs.Option.{unwrap_or}
use Rattle.reel_names.specs.Names.{black, fits, is_black, is_reel_character}
use Rattle.reel_names.specs.Namers.{AreNames, has_name, name_of}
use Rattle.std.proofs.lemmas.Slice.Eq.{bytes_eq-Decides}
use Rattle.edl_laws.specs.Named.{name_in, named, named_side, reel_in, reel_named, side_back, taken_back}
use Rattle.edl_laws.specs.Meanings.{HasName, HasNames, NamedAlikeIsOne}

-- ---- a name among these

same_text : (xs ys : List ℕ) → xs ≡ ys → bytes_eq xs ys ≡ true
same_text xs ys e = (bytes_eq-Decides xs ys).1 e

text_same : (xs ys : List ℕ) → bytes_eq xs ys ≡ true → xs ≡ ys
text_same xs ys t = (bytes_eq-Decides xs ys).0 t

some_same : (m n : List ℕ) → Some m ≡ Some n → m ≡ n
some_same m n h = cc

of_first : (p : ReelName) (ps : List ReelName) (reel : ℕ) (n : List ℕ) → (p.reel == reel) ≡ true → name_of (p ∷ ps) reel ≡ Some n → p.name ≡ n
of_first p ps reel n t h = some_same p.name n (sym (ap (λ (b : Bool). cond b (Some p.name) (name_of ps reel)) t) ∙ h)

of_rest : (p : ReelName) (ps : List ReelName) (reel : ℕ) (n : List ℕ) → (p.reel == reel) ≡ false → name_of (p ∷ ps) reel ≡ Some n → name_of ps reel ≡ Some n
of_rest p ps reel n t h = sym (ap (λ (b : Bool). cond b (Some p.name) (name_of ps reel)) t) ∙ h

pub name_fits : (names : List ReelName) (reel : ℕ) (n : List ℕ) → AreNames names → name_of names reel ≡ Some n → fits n ≡ true
name_fits [] reel n are h = absurd cc
name_fits (p ∷ ps) reel n are h =
    elim (cases_Bool (p.reel == reel)) [
      | inl t ↦ ap fits (sym (of_first p ps reel n t h)) ∙ are.0
      | inr t ↦ name_fits ps reel n are.1.1.1 (of_rest p ps reel n t h)
    ]

pub fits_not_black : (n : List ℕ) → fits n ≡ true → is_black n ≡ false
fits_not_black n h =
    let parts = and_parts (nat_le 1 (length n) && nat_le (length n) 8) (list_all is_reel_character n && not (is_black n)) h in
    let characters = and_parts (list_all is_reel_character n) (not (is_black n)) parts.1 in
    not-true (is_black n) characters.1

is_there : (o : Option (List ℕ)) → IsSome o → (n : List ℕ) × (o ≡ Some n)
is_there None h = absurd cc
is_there (Some n) h = (n, refl)

pub some_name : (names : List ReelName) (reel : ℕ) → IsSome (name_of names reel) → (n : List ℕ) × (name_of names reel ≡ Some n)
some_name names reel has = is_there (name_of names reel) has

pub named_not_black : (names : List ReelName) (reel : ℕ) → AreNames names → IsSome (name_of names reel) → is_black (name_in names reel) ≡ false
named_not_black names reel are has =
    let found = is_there (name_of names reel) has in
    rw found.1 (fits_not_black found.0 (name_fits names reel found.0 are found.1))

-- ---- names taken back

has_text : (names : List ReelName) (reel : ℕ) (n : List ℕ) → name_of names reel ≡ Some n → has_name names n ≡ true
has_text [] reel n h = absurd cc
has_text (p ∷ ps) reel n h =
    elim (cases_Bool (p.reel == reel)) [
      | inl t ↦ rw (same_text p.name n (of_first p ps reel n t h)) refl
      | inr t ↦
          let rest = has_text ps reel n (of_rest p ps reel n t h) in
          elim (cases_Bool (bytes_eq p.name n)) [ inl u ↦ rw u refl | inr u ↦ rw (u, rest) refl ]
    ]

reel_of_name : (names : List ReelName) (reel : ℕ) (n : List ℕ) → AreNames names → name_of names reel ≡ Some n → reel_named names n ≡ Some reel
reel_of_name [] reel n are h = absurd cc
reel_of_name (p ∷ ps) reel n are h =
    elim (cases_Bool (p.reel == reel)) [
      | inl t ↦ rw (same_text p.name n (of_first p ps reel n t h)) (ap (λ (r : ℕ). Some r) (eqb-true p.reel reel t))
      | inr t ↦
          let rest = of_rest p ps reel n t h in
          elim (cases_Bool (bytes_eq p.name n)) [
            | inl u ↦ absurd (true≢false (sym (has_text ps reel n rest) ∙ (ap (has_name ps) (sym (text_same p.name n u)) ∙ are.1.1.0)))
            | inr u ↦ rw u (reel_of_name ps reel n are.1.1.1 rest)
          ]
    ]

back_from : (names : List ReelName) (reel : ℕ) (n : List ℕ) → AreNames names → name_of names reel ≡ Some n → reel_in names (name_in names reel) ≡ reel
back_from names reel n are is =
    ap (λ (o : Option (List ℕ)). reel_in names (unwrap_or o black)) is ∙ ap (λ (o : Option ℕ). unwrap_or o 0) (reel_of_name names reel n are is)

reel_back : (names : List ReelName) (reel : ℕ) → AreNames names → IsSome (name_of names reel) → reel_in names (name_in names reel) ≡ reel
reel_back names reel are has =
    let found = is_there (name_of names reel) has in
    back_from names reel found.0 are found.1

side_is_back : (names : List ReelName) (s : Side ℕ) → AreNames names → HasName names s → side_back names (named_side names s) ≡ s
side_is_back names side.Dark are has = refl
side_is_back names (side.Pic reel source) are has = ap (λ (r : ℕ). side.Pic r source) (reel_back names reel are has)

pub frame_is_back : (names : List ReelName) (f : Frame ℕ) → AreNames names → HasNames names f → taken_back names (named names f) ≡ f
frame_is_back names frame.Dark are has = refl
frame_is_back names (frame.Pic reel source) are has = ap (λ (r : ℕ). frame.Pic r source) (reel_back names reel are has)
frame_is_back names (frame.Mix left right num den) are has =
    ap (λ (s : Side ℕ). frame.Mix s (side_back names (named_side names right)) num den) (side_is_back names left are has.0)
    ∙ ap (λ (s : Side ℕ). frame.Mix left s num den) (side_is_back names right are has.1)

pub named_alike_is_one : NamedAlikeIsOne
named_alike_is_one names f g are has_f has_g alike = sym (frame_is_back names f are has_f) ∙ (ap (taken_back names) alike ∙ frame_is_back names g are has_g)
