-- The tracks of a set, one after another, and the set of ascending tracks.
use Rattle.std.proofs.Common.{◌≡◌, ℕ, zero, suc, ◌+◌, ◌-◌, ◌*◌, ◌/◌, ◌%◌, ◌^◌, ◌<◌, ◌≤◌, ◌≢◌, Bool, true, false, List, [], ◌∷◌, ◌++◌, length, nat_eq, subst, inl, inr, refl, sym, ap, ◌∙◌, arith, append_assoc, codes, if◌then◌else◌}
use Rattle.std.specs.Fmt.{decimal}
use Rattle.std.specs.Int.Bits.{bit_and}
use Rattle.std.specs.List.{All}
use Rattle.std.proofs.Math.Nat.{mod-one, mod-eq_of_lt, pow-suc}
use Rattle.std.proofs.lemmas.Bool.{eq-eqb, eqb-true}
use Rattle.std.proofs.lemmas.List.Elements.{All-nil, All-cons}
use Rattle.std.proofs.lemmas.Nat.{and_mask, mod-pow-add, mod_below, pow-add, div-mul-add}
use Rattle.std.proofs.Math.Pow.{pow_mono}
use Rattle.std.proofs.lemmas.Bool.{cases_lt}
use Rattle.composables.specs.TrackSets.{has_track, tracks_from, tracks_in}
use Rattle.std.proofs.lemmas.List.{append-nil}
use Rattle.line_table.specs.CallTexts.{numbers_after, tracks_text}
use Rattle.line_table.proofs.ListWords.{set_within}
use Rattle.line_table.specs.Table.{IsNumeral, NamesTrack, AreNumerals}

-- the tracks of a set from t on
unfoldable pub tracks_after : ℕ → ℕ → List ℕ
tracks_after s t = tracks_from s t (32 - t)

pub tracks_first : (s : ℕ) → tracks_in s ≡ tracks_after s 0
unfolding tracks_in tracks_after
tracks_first s = refl

from_next : (s t n m : ℕ) → n ≡ suc m → tracks_from s t n ≡ (if has_track s t then t ∷ tracks_from s (suc t) m else tracks_from s (suc t) m)
from_next s t n m e = ap (tracks_from s t) e

pub after_next : (s t : ℕ) → t < 32 → tracks_after s t ≡ (if has_track s t then t ∷ tracks_after s (t + 1) else tracks_after s (t + 1))
unfolding tracks_after
after_next s t h =
    let next : suc t ≡ t + 1 = omega arith in
    rw (← next) (from_next s t (32 - t) (32 - suc t) (omega (arith, h)))

pub after_last : (s t : ℕ) → t ≡ 32 → tracks_after s t ≡ []
unfolding tracks_after
after_last s t e = let none : 32 - t ≡ 0 = omega (arith, e) in ap (tracks_from s t) none

with_first : (b : Bool) (lead : List ℕ) (t : ℕ) (ts : List ℕ) → b ≡ true → numbers_after lead (if b then t ∷ ts else ts) ≡ lead ++ decimal t ++ numbers_after (codes ",") ts
with_first true lead t ts e = refl
with_first false lead t ts e = absurd cc

without : (b : Bool) (lead : List ℕ) (t : ℕ) (ts : List ℕ) → b ≡ false → numbers_after lead (if b then t ∷ ts else ts) ≡ numbers_after lead ts
without true lead t ts e = absurd cc
without false lead t ts e = refl

pub text_with : (lead : List ℕ) (s t : ℕ) → t < 32 → has_track s t ≡ true → numbers_after lead (tracks_after s t) ≡ lead ++ decimal t ++ numbers_after (codes ",") (tracks_after s (t + 1))
text_with lead s t h e = ap (numbers_after lead) (after_next s t h) ∙ with_first (has_track s t) lead t (tracks_after s (t + 1)) e

pub text_without : (lead : List ℕ) (s t : ℕ) → t < 32 → has_track s t ≡ false → numbers_after lead (tracks_after s t) ≡ numbers_after lead (tracks_after s (t + 1))
text_without lead s t h e = ap (numbers_after lead) (after_next s t h) ∙ without (has_track s t) lead t (tracks_after s (t + 1)) e

-- the text of a set, while it is written
pub begun : (out first lead now : List ℕ) (s : ℕ) → now ≡ out ++ first → lead ≡ [] → now ++ numbers_after lead (tracks_after s 0) ≡ out ++ (first ++ tracks_text s)
begun out first lead now s written none = rw (written, none, ← tracks_first s) (append_assoc out first (tracks_text s))

pub went_with : (out lead out' lead' all : List ℕ) (s t : ℕ) → t < 32 → has_track s t ≡ true → out' ≡ out ++ (lead ++ decimal t) → lead' ≡ codes ","
    → out ++ numbers_after lead (tracks_after s t) ≡ all → out' ++ numbers_after lead' (tracks_after s (t + 1)) ≡ all
went_with out lead out' lead' all s t low has written comma so_far =
    rw (written, comma) (regrouped out lead (decimal t) (numbers_after (codes ",") (tracks_after s (t + 1))) ∙ ap (λ text. out ++ text) (sym (text_with lead s t low has)) ∙ so_far)
  where
    regrouped : (a b c d : List ℕ) → (a ++ (b ++ c)) ++ d ≡ a ++ (b ++ c ++ d)
    regrouped a b c d = simp append_assoc refl

pub went_without : (out lead all : List ℕ) (s t : ℕ) → t < 32 → has_track s t ≡ false → out ++ numbers_after lead (tracks_after s t) ≡ all → out ++ numbers_after lead (tracks_after s (t + 1)) ≡ all
went_without out lead all s t low not so_far = ap (λ text. out ++ text) (sym (text_without lead s t low not)) ∙ so_far

pub ended : (out lead all : List ℕ) (s t : ℕ) → t ≡ 32 → out ++ numbers_after lead (tracks_after s t) ≡ all → out ≡ all
ended out lead all s t last so_far = sym (append-nil out) ∙ ap (λ ts. out ++ numbers_after lead ts) (sym (after_last s t last)) ∙ so_far

-- the text of numbers, while it is written
pub first_number : (out lead : List ℕ) (ns : List ℕ) → lead ≡ [] → out ++ numbers_after lead ns ≡ out ++ numbers_after [] ns
first_number out lead ns none = ap (λ text. out ++ numbers_after text ns) none

pub next_number : (out lead out' lead' all ns rest : List ℕ) (n : ℕ) → ns ≡ n ∷ rest → out' ≡ out ++ (lead ++ decimal n) → lead' ≡ codes ","
    → out ++ numbers_after lead ns ≡ all → out' ++ numbers_after lead' rest ≡ all
next_number out lead out' lead' all ns rest n is written comma so_far =
    rw (written, comma) (regrouped out lead (decimal n) (numbers_after (codes ",") rest) ∙ ap (λ ms. out ++ numbers_after lead ms) (sym is) ∙ so_far)
  where
    regrouped : (a b c d : List ℕ) → (a ++ (b ++ c)) ++ d ≡ a ++ (b ++ c ++ d)
    regrouped a b c d = simp append_assoc refl

pub no_number : (out lead all ns : List ℕ) → ns ≡ [] → out ++ numbers_after lead ns ≡ all → out ≡ all
no_number out lead all ns none so_far = sym (append-nil out) ∙ ap (λ ms. out ++ numbers_after lead ms) (sym none) ∙ so_far

-- tracks counted, while a set is gone over
with_length : (b : Bool) (t : ℕ) (ts : List ℕ) → b ≡ true → length (if b then t ∷ ts else ts) ≡ 1 + length ts
with_length true t ts e = omega arith
with_length false t ts e = absurd cc

without_length : (b : Bool) (t : ℕ) (ts : List ℕ) → b ≡ false → length (if b then t ∷ ts else ts) ≡ length ts
without_length true t ts e = absurd cc
without_length false t ts e = refl

pub none_counted : (s count : ℕ) → count ≡ 0 → count + length (tracks_after s 0) ≡ length (tracks_in s)
none_counted s count none = let same = ap length (tracks_first s) in omega (arith, none, same)

pub counted_with : (s t count all : ℕ) → t < 32 → has_track s t ≡ true → count + length (tracks_after s t) ≡ all → count + 1 + length (tracks_after s (t + 1)) ≡ all
counted_with s t count all low has so_far =
    let next = ap length (after_next s t low) ∙ with_length (has_track s t) t (tracks_after s (t + 1)) has in
    omega (arith, so_far, next)

pub counted_without : (s t count all : ℕ) → t < 32 → has_track s t ≡ false → count + length (tracks_after s t) ≡ all → count + length (tracks_after s (t + 1)) ≡ all
counted_without s t count all low not so_far =
    let next = ap length (after_next s t low) ∙ without_length (has_track s t) t (tracks_after s (t + 1)) not in
    omega (arith, so_far, next)

pub all_counted : (s t count all : ℕ) → t ≡ 32 → count + length (tracks_after s t) ≡ all → count ≡ all
all_counted s t count all last so_far = let none = ap length (after_last s t last) in omega (arith, so_far, none)

-- a set is the sum of the bits of its tracks
abbrev pub bits : ℕ → ℕ → ℕ → ℕ
bits s t zero = 0
bits s t (suc n) = if has_track s t then 2 ^ t + bits s (suc t) n else bits s (suc t) n

bit_is : (b : Bool) (x : ℕ) → nat_eq (bit_and x 1) 1 ≡ b → x % 2 ≡ (if b then 1 else 0)
bit_is true x e = sym (and_mask x 1) ∙ eqb-true (bit_and x 1) 1 e
bit_is false x e =
    let same : bit_and x 1 ≡ x % 2 = and_mask x 1 in
    let low : x % 2 < 2 = mod_below x 2 (omega arith) in
    let not : x % 2 ≢ 1 = λ one. absurd (true_false (sym (eq-eqb (bit_and x 1) 1 (same ∙ one)) ∙ e)) in
    omega (arith, low, not)
  where
    true_false : true ≡ false → ⊥
    true_false e = cc

with_bit : (p b m x y q : ℕ) → b + y ≡ x → y ≡ q * p + m → q ≡ 1 → p + b + m ≡ x
with_bit p b m x y q more low one = let same : q * p ≡ p = rw one (omega arith) in omega (arith, more, low, same)

without_bit : (p b m x y q : ℕ) → b + y ≡ x → y ≡ q * p + m → q ≡ 0 → b + m ≡ x
without_bit p b m x y q more low none = let same : q * p ≡ 0 = rw none (omega arith) in omega (arith, more, low, same)

bits_next : (s t n : ℕ) → bits s (suc t) n + s % 2 ^ suc t ≡ s % 2 ^ (t + suc n) → bits s t (suc n) + s % 2 ^ t ≡ s % 2 ^ (t + suc n)
bits_next s t n more = by (has_track s t) refl
  where
    low : s % 2 ^ suc t ≡ s / 2 ^ t % 2 * 2 ^ t + s % 2 ^ t
    low = let next : suc t ≡ 1 + t = omega arith in ap (λ k. s % 2 ^ k) next ∙ mod-pow-add s 1 t

    by : (b : Bool) → has_track s t ≡ b → bits s t (suc n) + s % 2 ^ t ≡ s % 2 ^ (t + suc n)
    by true e = rw e (with_bit (2 ^ t) (bits s (suc t) n) (s % 2 ^ t) (s % 2 ^ (t + suc n)) (s % 2 ^ suc t) (s / 2 ^ t % 2) more low (bit_is true (s / 2 ^ t) e))
    by false e = rw e (without_bit (2 ^ t) (bits s (suc t) n) (s % 2 ^ t) (s % 2 ^ (t + suc n)) (s % 2 ^ suc t) (s / 2 ^ t % 2) more low (bit_is false (s / 2 ^ t) e))

bits_are : (s t n : ℕ) → bits s t n + s % 2 ^ t ≡ s % 2 ^ (t + n)
bits_are s t zero = let same : t ≡ t + 0 = omega arith in let e = ap (λ k. s % 2 ^ k) same in omega (arith, e)
bits_are s t (suc n) =
    let next : suc t + n ≡ t + suc n = omega arith in
    bits_next s t n (bits_are s (suc t) n ∙ ap (λ k. s % 2 ^ k) next)

all_bits : (s : ℕ) → s < 2 ^ 32 → bits s 0 32 ≡ s
all_bits s h =
    let sum : bits s 0 32 + s % 1 ≡ s % 2 ^ 32 = bits_are s 0 32 in
    let none : s % 1 ≡ 0 = mod-one s in
    let whole : s % 2 ^ 32 ≡ s = mod-eq_of_lt h in
    omega (arith, sum, none, whole)

-- the words are tracks, each above the one before and at least `least`, and the set is the sum of their bits
abbrev pub AreRising : ℕ → List (List ℕ) → ℕ → Type 0
AreRising least [] set = set ≡ 0
AreRising least (word ∷ words) set =
    (track : ℕ) × (others : ℕ) × NamesTrack word track × (least ≤ track) × (set ≡ 2 ^ track + others) × AreRising (track + 1) words others

-- words that spell the tracks of a set rise, and the set is theirs
are_rising : (s t n least : ℕ) (words : List (List ℕ)) → t + n ≤ 32 → least ≤ t → AreNumerals words (tracks_from s t n) → AreRising least words (bits s t n)
are_rising s t zero least [] h low spell = refl
are_rising s t zero least (word ∷ words) h low spell = absurd spell
are_rising s t (suc n) least words h low spell =
    by (has_track s t) words (λ ws more. are_rising s (suc t) n (t + 1) ws (omega (arith, h)) (omega arith) more) (λ ws more. are_rising s (suc t) n least ws (omega (arith, h)) (omega (arith, low)) more) spell
  where
    by : (b : Bool) (words : List (List ℕ)) → ((ws : List (List ℕ)) → AreNumerals ws (tracks_from s (suc t) n) → AreRising (t + 1) ws (bits s (suc t) n))
        → ((ws : List (List ℕ)) → AreNumerals ws (tracks_from s (suc t) n) → AreRising least ws (bits s (suc t) n))
        → AreNumerals words (if b then t ∷ tracks_from s (suc t) n else tracks_from s (suc t) n) → AreRising least words (if b then 2 ^ t + bits s (suc t) n else bits s (suc t) n)
    by true [] above more spell = absurd spell
    by true (word ∷ words) above more (number, spell) = (t, bits s (suc t) n, (number, omega (arith, h)), low, refl, above words spell)
    by false words above more spell = more words spell

pub rising : (s : ℕ) (words : List (List ℕ)) → s < 2 ^ 32 → AreNumerals words (tracks_in s) → AreRising 0 words s
unfolding tracks_in
rising s words h spell = let all = all_bits s h in subst (AreRising 0 words) all (are_rising s 0 32 0 words (omega arith) (omega arith) spell)

-- the set of rising words has 32 bits
pub set_below : (words : List (List ℕ)) (least low set : ℕ) → AreRising least words set → low < 2 ^ least → least ≤ 32 → low + set < 2 ^ 32
set_below [] least low set h small within =
    let more : 2 ^ least ≤ 2 ^ 32 = pow_mono within in
    omega (arith, h, small, more)
set_below (word ∷ words) least low set (track, others, is, above, sum, more) small within =
    let rest = set_below words (track + 1) (low + 2 ^ track) others more (set_within low least track small above) (omega (arith, is.1)) in
    omega (arith, sum, rest)

-- the set of rising words is a multiple of the least bit that it may have
regroup : (p q l m : ℕ) → p ≡ q * l → p + m * (p * 2) ≡ q * (1 + m * 2) * l
regroup p q l m e = rw e (grind arith)

multiple : (words : List (List ℕ)) (least set : ℕ) → AreRising least words set → (m : ℕ) × (set ≡ m * 2 ^ least)
multiple [] least set h = (0, omega (arith, h))
multiple (word ∷ words) least set (track, others, is, above, sum, more) =
    let rest = multiple words (track + 1) others more in
    let split : track ≡ track - least + least = omega (arith, above) in
    let whole : 2 ^ track ≡ 2 ^ (track - least) * 2 ^ least = ap (λ k. 2 ^ k) split ∙ pow-add 2 (track - least) least in
    let next : track + 1 ≡ suc track = omega arith in
    let double : 2 ^ (track + 1) ≡ 2 ^ track * 2 = ap (λ k. 2 ^ k) next ∙ pow-suc 2 track in
    let others_are : others ≡ rest.0 * (2 ^ track * 2) = rest.1 ∙ ap (λ p. rest.0 * p) double in
    (2 ^ (track - least) * (1 + rest.0 * 2), sum ∙ ap (λ n. 2 ^ track + n) others_are ∙ regroup (2 ^ track) (2 ^ (track - least)) (2 ^ least) rest.0 whole)

bit_with : (s t q : ℕ) (b : Bool) → s / 2 ^ t ≡ q → nat_eq (q % 2) 1 ≡ b → has_track s t ≡ b
bit_with s t q b e h = ap (λ x. nat_eq (bit_and x 1) 1) e ∙ ap (λ y. nat_eq y 1) (and_mask q 1) ∙ h

absent : (s low set m t : ℕ) → low < 2 ^ t → set ≡ m * 2 ^ suc t → s ≡ low + set → has_track s t ≡ false
absent s low set m t small many sum =
    let double : 2 ^ suc t ≡ 2 ^ t * 2 = pow-suc 2 t in
    let times : m * 2 ^ suc t ≡ m * 2 * 2 ^ t = ap (λ p. m * p) double ∙ swapped m (2 ^ t) in
    let whole : s ≡ m * 2 * 2 ^ t + low = omega (arith, sum, many, times) in
    let even : m * 2 % 2 ≡ 0 = omega arith in
    bit_with s t (m * 2) false (ap (λ n. n / 2 ^ t) whole ∙ div-mul-add (m * 2) (2 ^ t) low small) (ap (λ n. nat_eq n 1) even)
  where
    swapped : (m p : ℕ) → m * (p * 2) ≡ m * 2 * p
    swapped m p = grind arith

present : (s low others m t : ℕ) → low < 2 ^ t → others ≡ m * 2 ^ suc t → s ≡ low + (2 ^ t + others) → has_track s t ≡ true
present s low others m t small many sum =
    let double : 2 ^ suc t ≡ 2 ^ t * 2 = pow-suc 2 t in
    let times : m * 2 ^ suc t + 2 ^ t ≡ (m * 2 + 1) * 2 ^ t = ap (λ p. m * p + 2 ^ t) double ∙ swapped m (2 ^ t) in
    let whole : s ≡ (m * 2 + 1) * 2 ^ t + low = omega (arith, sum, many, times) in
    let odd : (m * 2 + 1) % 2 ≡ 1 = omega arith in
    bit_with s t (m * 2 + 1) true (ap (λ n. n / 2 ^ t) whole ∙ div-mul-add (m * 2 + 1) (2 ^ t) low small) (ap (λ n. nat_eq n 1) odd)
  where
    swapped : (m p : ℕ) → m * (p * 2) + p ≡ (m * 2 + 1) * p
    swapped m p = grind arith

passed : (b : Bool) (words : List (List ℕ)) (t : ℕ) (ts : List ℕ) → b ≡ false → AreNumerals words ts → AreNumerals words (if b then t ∷ ts else ts)
passed true words t ts e spell = absurd cc
passed false words t ts e spell = spell

taken : (b : Bool) (word : List ℕ) (words : List (List ℕ)) (t : ℕ) (ts : List ℕ) → b ≡ true → IsNumeral word t → AreNumerals words ts → AreNumerals (word ∷ words) (if b then t ∷ ts else ts)
taken true word words t ts e number spell = (number, spell)
taken false word words t ts e number spell = absurd cc

wider : (t low : ℕ) → low < 2 ^ t → low < 2 ^ suc t
wider t low small = let double : 2 ^ suc t ≡ 2 ^ t * 2 = pow-suc 2 t in omega (arith, small, double)

-- rising words spell the tracks of their set
spell_on : (n t : ℕ) (words : List (List ℕ)) (low set : ℕ) → t + n ≡ 32 → low < 2 ^ t → AreRising t words set → AreNumerals words (tracks_from (low + set) t n)
spell_on zero t [] low set h small rise = tt
spell_on zero t (word ∷ words) low set h small (track, others, is, above, sum, more) = absurd (omega (arith, h, is.1, above))
spell_on (suc n) t [] low set h small rise =
    let none = absent (low + set) low set 0 t small (omega (arith, rise)) refl in
    passed (has_track (low + set) t) [] t (tracks_from (low + set) (suc t) n) none (spell_on n (suc t) [] low set (omega (arith, h)) (wider t low small) rise)
spell_on (suc n) t (word ∷ words) low set h small (track, others, is, above, sum, more) = elim (cases_lt t track) [
  | inl later ↦
      let rise : AreRising (suc t) (word ∷ words) set = (track, others, is, omega (arith, later), sum, more) in
      let many = multiple (word ∷ words) (suc t) set rise in
      let none = absent (low + set) low set many.0 t small many.1 refl in
      passed (has_track (low + set) t) (word ∷ words) t (tracks_from (low + set) (suc t) n) none (spell_on n (suc t) (word ∷ words) low set (omega (arith, h)) (wider t low small) rise)
  | inr here ↦
      let same : track ≡ t = omega (arith, here, above) in
      let next : track + 1 ≡ suc t = omega (arith, same) in
      let rise : AreRising (suc t) words others = subst (λ k. AreRising k words others) next more in
      let many = multiple words (suc t) others rise in
      let bit : 2 ^ track ≡ 2 ^ t = ap (λ k. 2 ^ k) same in
      let whole : low + set ≡ low + (2 ^ t + others) = omega (arith, sum, bit) in
      let has = present (low + set) low others many.0 t small many.1 whole in
      let double : 2 ^ suc t ≡ 2 ^ t * 2 = pow-suc 2 t in
      let rest = spell_on n (suc t) words (low + 2 ^ t) others (omega (arith, h)) (omega (arith, small, double)) rise in
      let sum_is : low + 2 ^ t + others ≡ low + set = omega (arith, whole) in
      taken (has_track (low + set) t) word words t (tracks_from (low + set) (suc t) n) has (subst (IsNumeral word) same is.0) (subst (λ s. AreNumerals words (tracks_from s (suc t) n)) sum_is rest)
]

pub spells : (words : List (List ℕ)) (set : ℕ) → AreRising 0 words set → AreNumerals words (tracks_in set)
unfolding tracks_in
spells words set rise = let same : 0 + set ≡ set = omega arith in subst (λ s. AreNumerals words (tracks_from s 0 32)) same (spell_on 32 0 words 0 set refl (omega arith) rise)

-- each is below 32
below : (s t n : ℕ) → t + n ≤ 32 → All (λ n. n < 32) (tracks_from s t n)
below s t zero h = All-nil (λ n. n < 32)
below s t (suc n) h = by (has_track s t) (below s (suc t) n (omega (arith, h)))
  where
    by : (b : Bool) → All (λ n. n < 32) (tracks_from s (suc t) n) → All (λ n. n < 32) (if b then t ∷ tracks_from s (suc t) n else tracks_from s (suc t) n)
    by true more = All-cons (λ n. n < 32) t (tracks_from s (suc t) n) (omega (arith, h)) more
    by false more = more

pub tracks_in_below : (s : ℕ) → All (λ n. n < 32) (tracks_in s)
unfolding tracks_in
tracks_in_below s = below s 0 32 (omega arith)

count : (s t n : ℕ) → length (tracks_from s t n) ≤ n
count s t zero = omega arith
count s t (suc n) = by (has_track s t) (count s (suc t) n)
  where
    by : (b : Bool) → length (tracks_from s (suc t) n) ≤ n → length (if b then t ∷ tracks_from s (suc t) n else tracks_from s (suc t) n) ≤ suc n
    by true more = omega (arith, more)
    by false more = omega (arith, more)

pub tracks_in_count : (s : ℕ) → length (tracks_in s) ≤ 32
unfolding tracks_in
tracks_in_count s = count s 0 32
