-- No more nests stand in one another than there are: where some do, none stands in itself.
use Rattle.std.proofs.Common.{◌≡◌, ℕ, zero, suc, ◌+◌, ◌<◌, ◌≤◌, min, nat_eq, Bool, true, false, List, [], ◌∷◌, length, slice_get, Some, refl, ap, subst, ◌∙◌, ◌⊎◌, inl, inr, arith, if◌then◌else◌}
use Rattle.std.specs.List.{All}
use Rattle.std.proofs.lemmas.Bool.{eqb-true, eqb-false, cases_lt}
use Rattle.std.proofs.lemmas.List.Elements.{All-head, All-tail, All-cons, All-nil}
use Rattle.std.proofs.lemmas.Option.{slice_get_within}
use Rattle.frame_meaning.specs.declared.cells.What.{What}
use Rattle.frame_meaning.specs.declared.cells.What.TheVariants.{Media as MediaOf, Nest as NestOf}
use Rattle.frame_meaning.specs.declared.frames.Side.{Side}
use Rattle.frame_meaning.specs.declared.frames.Side.TheVariants.{Dark, Pic}
use Rattle.composables.specs.declared.items.ItemView.{ItemView}
use Rattle.composables.specs.declared.media.Layer.{Layer}
use Rattle.composables.specs.declared.media.Nest.{Nest}
use Rattle.composables.specs.Items.{items_of}
use Rattle.otio_json.specs.Soundness.{SideHas, EachHas, IsDeep}

-- ---- how many numbers pass a test

abbrev bit : Bool → ℕ
bit true = 1
bit false = 0

abbrev passing : (ℕ → Bool) → ℕ → ℕ
passing ok zero = 0
passing ok (suc n) = bit (ok n) + passing ok n

abbrev without : (ℕ → Bool) → ℕ → ℕ → Bool
without ok j i = if nat_eq i j then false else ok i

bit_less : (t b : Bool) → bit (if t then false else b) ≤ bit b
bit_less true true = omega arith
bit_less true false = omega arith
bit_less false b = omega arith

passing_less : (ok : ℕ → Bool) (j n : ℕ) → passing (without ok j) n ≤ passing ok n
passing_less ok j zero = omega arith
passing_less ok j (suc n) = omega (arith, bit_less (nat_eq n j) (ok n), passing_less ok j n)

passing_fewer : (ok : ℕ → Bool) (j n : ℕ) → j < n → ok j ≡ true → passing (without ok j) n + 1 ≤ passing ok n
passing_fewer ok j zero lt e = absurd (omega arith)
passing_fewer ok j (suc n) lt e = by_test (nat_eq n j) refl (λ less. passing_fewer ok j n less e)
  where
    by_test : (t : Bool) → nat_eq n j ≡ t → (j < n → passing (without ok j) n + 1 ≤ passing ok n) → bit (if t then false else ok n) + passing (without ok j) n + 1 ≤ bit (ok n) + passing ok n
    by_test true f rest =
        let same : n ≡ j = eqb-true n j f in
        let one : bit (ok n) ≡ 1 = ap (λ (i : ℕ). bit (ok i)) same ∙ ap bit e in
        omega (arith, passing_less ok j n)
    by_test false f rest = omega (arith, rest (omega (arith, eqb-false n j f)))

all_pass : (n : ℕ) → passing (λ _. true) n ≡ n
all_pass zero = refl
all_pass (suc n) = omega (arith, all_pass n)

-- ---- nests in one another, all of which pass a test

abbrev IsIn : List Nest → (ℕ → Bool) → ℕ → What → Type 0
IsIn nests ok n (MediaOf m) = Unit {0}
IsIn nests ok zero (NestOf j) = ⊥
IsIn nests ok (suc n) (NestOf j) = (nest : Nest) × (slice_get nests j ≡ Some nest) × (ok j ≡ true) × All (λ (l : Layer). EachHas (IsIn nests ok n) (items_of l.track.cells)) nest.layers

-- ---- what holds of each thing shown

-- for each thing one of two is known: then it is of all, or the other holds
module _ {R : Type 0} (P Q : What → Type 0) (f : (w : What) → P w → Q w ⊎ R) where
  side_or : (side : Side What) → SideHas P side → SideHas Q side ⊎ R
  side_or Dark h = inl tt
  side_or (Pic w s) h = f w h

  each_or : (vs : List ItemView) → EachHas P vs → EachHas Q vs ⊎ R
  each_or [] h = inl tt
  each_or (v ∷ vs) h = both (side_or v.first h.0) (each_or vs h.1) where
    both : SideHas Q v.first ⊎ R → EachHas Q vs ⊎ R → (SideHas Q v.first × EachHas Q vs) ⊎ R
    both (inl a) (inl b) = inl (a, b)
    both (inl a) (inr r) = inr r
    both (inr r) b = inr r

  layers_or : (ls : List Layer) → All (λ (l : Layer). EachHas P (items_of l.track.cells)) ls → All (λ (l : Layer). EachHas Q (items_of l.track.cells)) ls ⊎ R
  layers_or [] h = inl (All-nil (λ (l : Layer). EachHas Q (items_of l.track.cells)))
  layers_or (l ∷ ls) h =
      both (each_or (items_of l.track.cells) (All-head (λ (k : Layer). EachHas P (items_of k.track.cells)) l ls h))
      (layers_or ls (All-tail (λ (k : Layer). EachHas P (items_of k.track.cells)) l ls h))
    where
      both : EachHas Q (items_of l.track.cells) ⊎ R → All (λ (k : Layer). EachHas Q (items_of k.track.cells)) ls ⊎ R → All (λ (k : Layer). EachHas Q (items_of k.track.cells)) (l ∷ ls) ⊎ R
      both (inl a) (inl b) = inl (All-cons (λ (k : Layer). EachHas Q (items_of k.track.cells)) l ls a b)
      both (inl a) (inr r) = inr r
      both (inr r) b = inr r

left_of : {A : Type 0} → A ⊎ ⊥ → A
left_of (inl a) = a
left_of (inr r) = absurd r

layers_map : (P Q : What → Type 0) → ((w : What) → P w → Q w) → (ls : List Layer) → All (λ (l : Layer). EachHas P (items_of l.track.cells)) ls → All (λ (l : Layer). EachHas Q (items_of l.track.cells)) ls
layers_map P Q f ls h = left_of (layers_or P Q (λ w p. inl (f w p)) ls h)

-- ---- from and to the definition

in_from : (nests : List Nest) (n : ℕ) (w : What) → IsDeep nests n w → IsIn nests (λ _. true) n w
in_from nests n (MediaOf m) h = tt
in_from nests zero (NestOf j) h = h
in_from nests (suc n) (NestOf j) h = (h.0, h.1, refl, layers_map (IsDeep nests n) (IsIn nests (λ _. true) n) (in_from nests n) h.0.layers h.2)

deep_from : (nests : List Nest) (ok : ℕ → Bool) (n : ℕ) (w : What) → IsIn nests ok n w → IsDeep nests n w
deep_from nests ok n (MediaOf m) h = tt
deep_from nests ok zero (NestOf j) h = h
deep_from nests ok (suc n) (NestOf j) h = (h.0, h.1, layers_map (IsIn nests ok n) (IsDeep nests n) (deep_from nests ok n) h.0.layers h.3)

if_passes : (t b : Bool) → (if t then false else b) ≡ true → b ≡ true
if_passes true b e = cc
if_passes false b e = e

in_more : (nests : List Nest) (ok : ℕ → Bool) (j n : ℕ) (w : What) → IsIn nests (without ok j) n w → IsIn nests ok n w
in_more nests ok j n (MediaOf m) h = tt
in_more nests ok j zero (NestOf i) h = h
in_more nests ok j (suc n) (NestOf i) h =
    (h.0, h.1, if_passes (nat_eq i j) (ok i) h.2, layers_map (IsIn nests (without ok j) n) (IsIn nests ok n) (in_more nests ok j n) h.0.layers h.3)

in_deeper : (nests : List Nest) (ok : ℕ → Bool) (n : ℕ) (w : What) → IsIn nests ok n w → IsIn nests ok (suc n) w
in_deeper nests ok n (MediaOf m) h = tt
in_deeper nests ok zero (NestOf i) h = absurd h
in_deeper nests ok (suc n) (NestOf i) h = (h.0, h.1, h.2, layers_map (IsIn nests ok n) (IsIn nests ok (suc n)) (in_deeper nests ok n) h.0.layers h.3)

-- nest j does not stand there, or it stands there itself
in_or : (nests : List Nest) (ok : ℕ → Bool) (j n : ℕ) (w : What) → IsIn nests ok n w → IsIn nests (without ok j) n w ⊎ IsIn nests ok n (NestOf j)
in_or nests ok j n (MediaOf m) h = inl tt
in_or nests ok j zero (NestOf i) h = absurd h
in_or nests ok j (suc n) (NestOf i) h =
    by_test (nat_eq i j) refl (layers_or {R = IsIn nests ok n (NestOf j)} (IsIn nests ok n) (IsIn nests (without ok j) n) (in_or nests ok j n) h.0.layers h.3)
  where
    by_test : (t : Bool) → nat_eq i j ≡ t → All (λ (l : Layer). EachHas (IsIn nests (without ok j) n) (items_of l.track.cells)) h.0.layers ⊎ IsIn nests ok n (NestOf j)
        → IsIn nests (without ok j) (suc n) (NestOf i) ⊎ IsIn nests ok (suc n) (NestOf j)
    by_test true e rest = inr (subst (λ (k : ℕ). IsIn nests ok (suc n) (NestOf k)) (eqb-true i j e) h)
    by_test false e (inl rest) = inl (h.0, h.1, ap (λ (t : Bool). if t then false else ok i) e ∙ h.2, rest)
    by_test false e (inr found) = inr (in_deeper nests ok n (NestOf j) found)

-- what is known of a nest's layers, or that it stands in itself
layers_known : (nests : List Nest) (ok : ℕ → Bool) (k n j : ℕ) (h : IsIn nests ok (suc n) (NestOf j))
    → ((w : What) → IsIn nests (without ok j) n w → IsIn nests (without ok j) k w) → (IsIn nests ok n (NestOf j) → IsIn nests ok (suc k) (NestOf j)) → IsIn nests ok (suc k) (NestOf j)
layers_known nests ok k n j h fewer again =
    by_layers (layers_or {R = IsIn nests ok n (NestOf j)} (IsIn nests ok n) (IsIn nests ok k) (λ w g. inside w (in_or nests ok j n w g)) h.0.layers h.3)
  where
    inside : (w : What) → IsIn nests (without ok j) n w ⊎ IsIn nests ok n (NestOf j) → IsIn nests ok k w ⊎ IsIn nests ok n (NestOf j)
    inside w (inl g) = inl (in_more nests ok j k w (fewer w g))
    inside w (inr found) = inr found

    by_layers : All (λ (l : Layer). EachHas (IsIn nests ok k) (items_of l.track.cells)) h.0.layers ⊎ IsIn nests ok n (NestOf j) → IsIn nests ok (suc k) (NestOf j)
    by_layers (inl rest) = (h.0, h.1, h.2, rest)
    by_layers (inr found) = again found

few_step : (nests : List Nest) (k : ℕ) (ok : ℕ → Bool) → passing ok (length nests) ≤ suc k
    → ((j : ℕ) → passing (without ok j) (length nests) ≤ k → (n : ℕ) (w : What) → IsIn nests (without ok j) n w → IsIn nests (without ok j) k w)
    → (n : ℕ) (w : What) → IsIn nests ok n w → IsIn nests ok (suc k) w
few_step nests k ok few fewer n (MediaOf m) h = tt
few_step nests k ok few fewer zero (NestOf j) h = absurd h
few_step nests k ok few fewer (suc n) (NestOf j) h =
    let less = passing_fewer ok j (length nests) (slice_get_within nests j h.0 h.1) h.2 in
    layers_known nests ok k n j h (fewer j (omega (arith, less)) n) (λ found. few_step nests k ok few fewer n (NestOf j) found)

few_none : (nests : List Nest) (ok : ℕ → Bool) → passing ok (length nests) ≤ 0 → (n : ℕ) (w : What) → IsIn nests ok n w → IsIn nests ok 0 w
few_none nests ok few n (MediaOf m) h = tt
few_none nests ok few zero (NestOf j) h = absurd h
few_none nests ok few (suc n) (NestOf j) h = absurd (omega (arith, passing_fewer ok j (length nests) (slice_get_within nests j h.0 h.1) h.2))

-- as many as pass the test are enough
few_in : (nests : List Nest) (k : ℕ) (ok : ℕ → Bool) → passing ok (length nests) ≤ k → (n : ℕ) (w : What) → IsIn nests ok n w → IsIn nests ok k w
few_in nests zero ok few n w h = few_none nests ok few n w h
few_in nests (suc k) ok few n w h = few_step nests k ok few (λ j le. few_in nests k (without ok j) le) n w h

-- what has nests in one another has at most as many as there are
pub deep_few : (nests : List Nest) (n : ℕ) (w : What) → IsDeep nests n w → IsDeep nests (length nests) w
deep_few nests n w h = deep_from nests (λ _. true) (length nests) w (few_in nests (length nests) (λ _. true) (omega (arith, all_pass (length nests))) n w (in_from nests n w h))

pub deep_least : (nests : List Nest) (n : ℕ) (w : What) → IsDeep nests n w → IsDeep nests (min n (length nests)) w
deep_least nests n w h = elim (cases_lt n (length nests)) [
  | inl lt ↦ let e : n ≡ min n (length nests) = omega arith in subst (λ (k : ℕ). IsDeep nests k w) e h
  | inr le ↦ let e : length nests ≡ min n (length nests) = omega arith in subst (λ (k : ℕ). IsDeep nests k w) e (deep_few nests n w h)
]
