-- What is written is spelled by the grammar, as the same tree with the places that it has there.
use Rattle.std.proofs.Common.{◌≡◌, ℕ, zero, suc, ◌+◌, ◌-◌, ◌*◌, ◌/◌, ◌%◌, ◌^◌, ◌≤◌, ◌<◌, ℤ, pos, negsuc, Bool, true, false, cond, eqb, ltb, ◌||◌, List, [], ◌∷◌, ◌++◌, length, Some, refl, sym, ap, subst, ◌∙◌, ◌⊎◌, inl, inr, append_assoc, arith}
use Rattle.std.specs.Prelude.{unsigned_abs, codes}
use Rattle.std.specs.List.{AllByRecursion, flat_map}
use Rattle.std.specs.Char.{IsScalar, encode_utf8}
use Rattle.std.specs.Str.{IsUtf8}
use lib.Utf8.{scalars, encodes}
use Rattle.std.proofs.lemmas.Bool.{false≢true, eqb-true, eqb-false, ne_eqb, ltb-true, ltb-false, lt-ltb, le-ltb, le-leb, lt-leb, or_from, or_parts, or_cases, and_parts, cases_lt}
use Rattle.std.proofs.lemmas.List.{append-nil}
use Rattle.std.proofs.lemmas.Nat.{div-add-mod', mod-mul-add, mod_below, mul-le}
use Rattle.std.proofs.Math.Nat.{mul_assoc, mul_comm, mul-add, pow-suc}
use Rattle.ratio_time.specs.Numerals.{with_sign, HasLeastPlaces}
use Rattle.json_tokens.specs.Decimal.{Digits, number_of, number_from}
use Rattle.json_tokens.specs.Tables.{hex_value, short_escape}
use Rattle.json_tree.specs.Tree.{Tree, Kind, Trees, Members, At, Null, Bool_of, Numeral_of, Wide, Text_of, List_of, Object_of, no_trees, more_trees, no_members, more_members, in_trees, in_members}
use Rattle.json_tokens.specs.Grammar.{IsUnit, IsCharacter, IsQuoted, IsDigit, SomeDigits, IsMinus, IsWhole, IsNumber, IsKept}
use Rattle.json_tree.specs.Grammar.{AreElements, IsItem, IsMember, IsKind, SpellsAt, Spells}
use Rattle.json_tree.specs.Writing.{hex_digit, escaped, quoted, last_digits, digits_needed, whole_text, sign_text, places_text, numeral_text, joined, tree_text, kind_text, trees_texts, members_texts}
use Rattle.json_tree.specs.Sound.{IsSound, IsSoundKind, AreSound, AreSoundMembers, is_writable, is_kind_writable, are_writable, are_members_writable, aside, kind_aside, trees_aside, members_aside, SpellsAgain}
use Rattle.json_tree.proofs.WritingSteps.{ten_positive}
use Rattle.json_tokens.proofs.Utf8Laws.{encode_one, encode_two, encode_three, encode_four}

-- ---- texts

hex_low : (n : ℕ) → n < 10 → hex_value (48 + n) ≡ Some n
hex_low n lt =
    let e : 48 + n - 48 ≡ n = omega arith in
    rw (le-leb 48 (48 + n) (omega arith), le-leb (48 + n) 57 (omega arith)) (ap Some e)

hex_high : (n : ℕ) → 10 ≤ n → n < 16 → hex_value (87 + n) ≡ Some n
hex_high n le lt =
    let e : 87 + n - 87 ≡ n = omega arith in
    rw (le-leb 48 (87 + n) (omega arith), lt-leb (87 + n) 57 (omega arith), le-leb 97 (87 + n) (omega arith), le-leb (87 + n) 102 (omega arith)) (ap Some e)

hex_if : (t : Bool) (n : ℕ) → ltb n 10 ≡ t → n < 16 → hex_value (cond t (48 + n) (87 + n)) ≡ Some n
hex_if true n e lt = hex_low n (ltb-true n 10 e)
hex_if false n e lt = hex_high n (ltb-false n 10 e) lt

hex_again : (n : ℕ) → n < 16 → hex_value (hex_digit n) ≡ Some n
hex_again n lt = hex_if (ltb n 10) n refl lt

control_unit : (c : ℕ) → c < 32 → IsUnit (48 ∷ 48 ∷ (48 + c / 16) ∷ hex_digit (c % 16) ∷ []) c
control_unit c lt = record {
  first = 0;
  second = 0;
  third = c / 16;
  fourth = c % 16;
  a = 48;
  b = 48;
  c = 48 + c / 16;
  d = hex_digit (c % 16);
  digits_are = refl;
  a_is = refl;
  b_is = refl;
  c_is = hex_low (c / 16) (omega arith);
  d_is = hex_again (c % 16) (omega arith);
  unit_is = omega arith;
}

escaped_if : (s t : Bool) (c : ℕ) → c < 128 → ((eqb c 34) || (eqb c 92)) ≡ s → ltb c 32 ≡ t
    → IsCharacter (cond s (92 ∷ c ∷ []) (cond t (92 ∷ 117 ∷ 48 ∷ 48 ∷ (48 + c / 16) ∷ hex_digit (c % 16) ∷ []) (c ∷ [])), c)
escaped_if true t c lt e f = inr (inl (record { letter = c; stands_for = short c (or_cases _ _ e); spelling_is = refl }))
  where
    short : (b : ℕ) → (eqb b 34 ≡ true) ⊎ (eqb b 92 ≡ true) → short_escape b ≡ Some b
    short b (inl p) = let q = eqb-true b 34 p in ap short_escape q ∙ ap Some (sym q)
    short b (inr p) = let q = eqb-true b 92 p in ap short_escape q ∙ ap Some (sym q)
escaped_if false true c lt e f =
    inr (inr (inl (record { digits = 48 ∷ 48 ∷ (48 + c / 16) ∷ hex_digit (c % 16) ∷ []; code = control_unit c (ltb-true c 32 f); no_half = inl (omega arith); spelling_is = refl })))
escaped_if false false c lt e f =
    let p = or_parts _ _ e in
    inl (record { scalar = rw (lt-ltb c 55296 (omega arith)) refl; no_control = ltb-false c 32 f; no_quote = eqb-false c 34 p.0; no_backslash = eqb-false c 92 p.1; spelling_is = sym (encode_one c lt) })

escaped_character : (c : ℕ) → c < 128 → IsCharacter (escaped c, c)
escaped_character c lt = escaped_if ((eqb c 34) || (eqb c 92)) (ltb c 32) c lt refl refl

escaped_high : (b : ℕ) → 128 ≤ b → escaped b ≡ b ∷ []
escaped_high b le = rw (or_from _ _ (ne_eqb b 34 (λ e. omega arith)) (ne_eqb b 92 (λ e. omega arith)), le-ltb b 32 (omega arith)) refl

abbrev AreHigh : List ℕ → Type 0
AreHigh = AllByRecursion (λ b. 128 ≤ b)

escaped_all : (bs : List ℕ) → AreHigh bs → flat_map escaped bs ≡ bs
escaped_all [] h = refl
escaped_all (b ∷ bs) h = rw (escaped_high b h.0, escaped_all bs h.1) refl

encode_high : (c : ℕ) → 128 ≤ c → AreHigh (encode_utf8 c)
encode_high c le =
    elim (cases_lt c 2048) [
      | inl h ↦ subst AreHigh (sym (encode_two c (192 + c / 64) (128 + c % 64) le h refl refl)) (omega arith, (omega arith, tt))
      | inr m ↦ elim (cases_lt c 65536) [
        | inl h ↦ subst AreHigh (sym (encode_three c (224 + c / 4096) (128 + c / 64 % 64) (128 + c % 64) m h refl refl refl)) (omega arith, (omega arith, (omega arith, tt)))
        | inr n ↦ subst AreHigh (sym (encode_four c (240 + c / 262144) (128 + c / 4096 % 64) (128 + c / 64 % 64) (128 + c % 64) n refl refl refl refl)) (omega arith, (omega arith, (omega arith, (omega arith, tt))))
      ]
    ]

-- how a character is written
spelling_of : ℕ → List ℕ
spelling_of c = flat_map escaped (encode_utf8 c)

written_character : (c : ℕ) → IsScalar c → IsCharacter (spelling_of c, c)
unfolding spelling_of
written_character c is =
    elim (cases_lt c 128) [
      | inl lt ↦ subst (λ (l : List ℕ). IsCharacter (l, c)) (sym (ap (flat_map escaped) (encode_one c lt) ∙ append-nil (escaped c))) (escaped_character c lt)
      | inr le ↦ subst (λ (l : List ℕ). IsCharacter (l, c)) (sym (escaped_all (encode_utf8 c) (encode_high c le)))
          (inl (record { scalar = is; no_control = omega arith; no_quote = λ e. omega arith; no_backslash = λ e. omega arith; spelling_is = refl }))
    ]

with_spellings : List ℕ → List (List ℕ × ℕ)
with_spellings [] = []
with_spellings (c ∷ cs) = (spelling_of c, c) ∷ with_spellings cs

spellings_each : (cs : List ℕ) → scalars cs ≡ true → AllByRecursion IsCharacter (with_spellings cs)
unfolding with_spellings
spellings_each [] h = tt
spellings_each (c ∷ cs) h = let p = and_parts _ _ h in (written_character c p.0, spellings_each cs p.1)

flat_append : (xs ys : List ℕ) → flat_map escaped (xs ++ ys) ≡ flat_map escaped xs ++ flat_map escaped ys
flat_append [] ys = refl
flat_append (x ∷ xs) ys = ap (λ (l : List ℕ). escaped x ++ l) (flat_append xs ys) ∙ sym (append_assoc (escaped x) (flat_map escaped xs) (flat_map escaped ys))

spellings_body : (cs : List ℕ) → flat_map escaped (encodes cs) ≡ flat_map (λ x. x.0) (with_spellings cs)
unfolding with_spellings spelling_of
spellings_body [] = refl
spellings_body (c ∷ cs) = flat_append (encode_utf8 c) (encodes cs) ∙ ap (λ (l : List ℕ). flat_map escaped (encode_utf8 c) ++ l) (spellings_body cs)

spellings_text : (cs : List ℕ) → encodes cs ≡ flat_map (λ x. encode_utf8 x.1) (with_spellings cs)
unfolding with_spellings
spellings_text [] = refl
spellings_text (c ∷ cs) = ap (λ (l : List ℕ). encode_utf8 c ++ l) (spellings_text cs)

written_text : (s : List ℕ) → IsUtf8 s → IsQuoted (quoted s) s
written_text s u = record {
  body = flat_map escaped s;
  spelled = record {
    characters = with_spellings u.0;
    each = spellings_each u.0 u.1.0;
    body_is = ap (flat_map escaped) (sym u.1.1) ∙ spellings_body u.0;
    text_is = sym u.1.1 ∙ spellings_text u.0;
  };
  bytes_are = refl;
}

-- ---- numbers

-- the last digits of a number, and the digits before them
split_mod : (a k : ℕ) → a % 10 ^ suc k ≡ (a / 10 ^ k % 10) * 10 ^ k + a % 10 ^ k
split_mod a k =
    let q = a / 10 ^ k in
    let r = a % 10 ^ k in
    let low : r < 10 ^ k = mod_below a (10 ^ k) (ten_positive k) in
    let power : 10 ^ suc k ≡ 10 * 10 ^ k = pow-suc 10 k ∙ mul_comm (10 ^ k) 10 in
    let parts : a ≡ q * 10 ^ k + r = sym (div-add-mod' a (10 ^ k)) in
    let ten : q ≡ q / 10 * 10 + q % 10 = sym (div-add-mod' q 10) in
    let all : q * 10 ^ k ≡ q / 10 * 10 ^ suc k + q % 10 * 10 ^ k =
    ap (λ x. x * 10 ^ k) ten ∙ add_times (q / 10 * 10) (q % 10) (10 ^ k) ∙ ap (λ x. x + q % 10 * 10 ^ k) (mul_assoc (q / 10) 10 (10 ^ k) ∙ ap (λ x. q / 10 * x) (sym power)) in
    let nine : q % 10 * 10 ^ k ≤ 9 * 10 ^ k = mul-le (q % 10) (10 ^ k) 9 (10 ^ k) (omega arith) (omega arith) in
    let small : q % 10 * 10 ^ k + r < 10 ^ suc k = omega arith in
    let sum : a ≡ q / 10 * 10 ^ suc k + (q % 10 * 10 ^ k + r) = omega arith in
    ap (λ x. x % 10 ^ suc k) sum ∙ mod-mul-add (q / 10) (10 ^ suc k) (q % 10 * 10 ^ k + r) small
  where
    add_times : (x y z : ℕ) → (x + y) * z ≡ x * z + y * z
    add_times x y z = mul_comm (x + y) z ∙ mul-add z x y ∙ (λ i. mul_comm z x i + mul_comm z y i)

number_last : (n a k : ℕ) → number_from n (last_digits a k) ≡ n * 10 ^ k + a % 10 ^ k
number_last n a zero = omega arith
number_last n a (suc k) =
    let q = a / 10 ^ k % 10 in
    let digit : n * 10 + (48 + q - 48) ≡ n * 10 + q = omega arith in
    let sum : (n * 10 + q) * 10 ^ k ≡ n * 10 ^ suc k + q * 10 ^ k = add_times (n * 10) q (10 ^ k) ∙ ap (λ x. x + q * 10 ^ k) (mul_assoc n 10 (10 ^ k) ∙ ap (λ x. n * x) (mul_comm 10 (10 ^ k) ∙ sym (pow-suc 10 k))) in
    ap (λ x. number_from x (last_digits a k)) digit ∙ number_last (n * 10 + q) a k ∙ omega (arith, sum, split_mod a k)
  where
    add_times : (x y z : ℕ) → (x + y) * z ≡ x * z + y * z
    add_times x y z = mul_comm (x + y) z ∙ mul-add z x y ∙ (λ i. mul_comm z x i + mul_comm z y i)

mod_small : (n m : ℕ) → n < m → n % m ≡ n
mod_small n m lt = ap (λ x. x % m) (omega arith) ∙ mod-mul-add 0 m n lt

digits_are : (a k : ℕ) → AllByRecursion IsDigit (last_digits a k)
digits_are a zero = tt
digits_are a (suc k) = ((omega arith, omega arith), digits_are a k)

digits_length : (a k : ℕ) → length (last_digits a k) ≡ k
digits_length a zero = refl
digits_length a (suc k) = ap suc (digits_length a k)

-- the digits that a number needs
pub record Needs (n k : ℕ) : Type 0 where
  pub some : 1 ≤ k
  pub enough : n < 10 ^ k
  pub no_fewer : (k ≡ 1) ⊎ (10 ^ (k - 1) ≤ n)

needs_if : (t : Bool) (n more count : ℕ) → ltb n (10 ^ count) ≡ t → 1 ≤ count → (count ≡ 1) ⊎ (10 ^ (count - 1) ≤ n)
    → ((count + 1 ≡ 1) ⊎ (10 ^ (count + 1 - 1) ≤ n) → Needs n (digits_needed n more (count + 1))) → Needs n (cond t count (digits_needed n more (count + 1)))
needs_if true n more count e one least rec = record { some = one; enough = ltb-true n (10 ^ count) e; no_fewer = least }
needs_if false n more count e one least rec =
    let same : count + 1 - 1 ≡ count = omega arith in
    rec (inr (subst (λ k. 10 ^ k ≤ n) (sym same) (ltb-false n (10 ^ count) e)))

needs_from : (n more count : ℕ) → count + more ≡ 18 → n < 10 ^ 18 → 1 ≤ count → (count ≡ 1) ⊎ (10 ^ (count - 1) ≤ n) → Needs n (digits_needed n more count)
unfolding digits_needed
needs_from n zero count sum lt one least = let full : 18 ≡ count = omega arith in record { some = one; enough = subst (λ k. n < 10 ^ k) full lt; no_fewer = least }
needs_from n (suc more) count sum lt one least = needs_if (ltb n (10 ^ count)) n more count refl one least (λ next. needs_from n more (count + 1) (omega arith) lt (omega arith) next)

needs : (n : ℕ) → n < 10 ^ 18 → Needs n (digits_needed n 17 1)
needs n lt = needs_from n 17 1 refl lt (omega arith) (inl refl)

whole_digits : (n k : ℕ) → Needs n k → IsWhole (last_digits n k)
whole_digits n zero h = absurd (omega (arith, h.some))
whole_digits n (suc k) h = by_digit (n / 10 ^ k % 10) refl
  where
    by_digit : (q : ℕ) → n / 10 ^ k % 10 ≡ q → IsWhole ((48 + n / 10 ^ k % 10) ∷ last_digits n k)
    by_digit zero e = elim h.no_fewer [
      | inl one ↦ let none : k ≡ 0 = omega arith in inl (omega arith, ap (last_digits n) none)
      | inr le ↦ absurd (not_zero e le)
    ]
      where
        not_zero : n / 10 ^ k % 10 ≡ 0 → 10 ^ (suc k - 1) ≤ n → ⊥
        not_zero z le =
            let same : suc k - 1 ≡ k = omega arith in
            let at_least : 10 ^ k ≤ n = subst (λ j. 10 ^ j ≤ n) same le in
            let parts = div-add-mod' n (10 ^ k) in
            let low = mod_below n (10 ^ k) (ten_positive k) in
            let high : n < 10 * 10 ^ k = subst (λ x. n < x) (pow-suc 10 k ∙ mul_comm (10 ^ k) 10) h.enough in
            small_quotient (n / 10 ^ k) (10 ^ k) (n % 10 ^ k) z parts low at_least high
          where
            small_quotient : (q m r : ℕ) → q % 10 ≡ 0 → q * m + r ≡ n → r < m → m ≤ n → n < 10 * m → ⊥
            small_quotient zero m r z p l a b = absurd (omega arith)
            small_quotient (suc q) m r z p l a b =
                let ten : 10 ≤ suc q = omega arith in
                let much : 10 * m ≤ suc q * m = mul-le 10 m (suc q) m ten (omega arith) in
                absurd (omega arith)
    by_digit (suc q) e = inr (omega arith, omega arith, digits_are n k)

whole_is : (n : ℕ) → n < 10 ^ 18 → IsWhole (whole_text n) × (number_of (whole_text n) ≡ n)
unfolding whole_text
whole_is n lt =
    let k = digits_needed n 17 1 in
    let h = needs n lt in
    let none : 0 * 10 ^ k + n % 10 ^ k ≡ n = omega (arith, mod_small n (10 ^ k) h.enough) in
    (whole_digits n k h, number_last 0 n k ∙ none)

negative_of : ℤ → Bool
negative_of (pos n) = false
negative_of (negsuc n) = true

minus_is : (m : ℤ) → IsMinus (sign_text m) (negative_of m)
unfolding negative_of
minus_is (pos n) = inl (refl, refl)
minus_is (negsuc n) = inr (refl, refl)

signed_is : (m : ℤ) → m ≡ with_sign (negative_of m) (unsigned_abs m)
unfolding negative_of
signed_is (pos n) = refl
signed_is (negsuc n) = refl

digits_written : ℤ → ℕ → Digits
digits_written m p = record { negative = negative_of m; whole = whole_text (unsigned_abs m / 10 ^ p); fraction = places_text (unsigned_abs m % 10 ^ p) p; lowers = false; exponent = [] }

places_some : (n p : ℕ) → SomeDigits (places_text n p)
places_some n zero = (omega arith, ((omega arith, omega arith), tt))
places_some n (suc p) = (omega (arith, digits_length n (suc p)), digits_are n (suc p))

quotient_small : (a p : ℕ) → a < 10 ^ 18 → a / 10 ^ p < 10 ^ 18
quotient_small a p lt =
    let parts = div-add-mod' a (10 ^ p) in
    let least : a / 10 ^ p * 1 ≤ a / 10 ^ p * 10 ^ p = mul-le (a / 10 ^ p) 1 (a / 10 ^ p) (10 ^ p) (omega arith) (ten_positive p) in
    omega arith

-- the number that the digits write, with their places
value_written : (a p : ℕ) → a < 10 ^ 18 → number_from (number_of (whole_text (a / 10 ^ p))) (places_text (a % 10 ^ p) p) * 10 ^ p ≡ a * 10 ^ length (places_text (a % 10 ^ p) p)
value_written a zero lt =
    let whole = (whole_is (a / 10 ^ 0) (quotient_small a 0 lt)).1 in
    rw whole (omega arith)
value_written a (suc p) lt =
    let k = suc p in
    let whole = (whole_is (a / 10 ^ k) (quotient_small a k lt)).1 in
    let low : a % 10 ^ k % 10 ^ k ≡ a % 10 ^ k = mod_small (a % 10 ^ k) (10 ^ k) (mod_below a (10 ^ k) (ten_positive k)) in
    let digits = number_last (a / 10 ^ k) (a % 10 ^ k) k in
    let all : number_from (a / 10 ^ k) (last_digits (a % 10 ^ k) k) ≡ a = digits ∙ omega (arith, low, div-add-mod' a (10 ^ k)) in
    rw (whole, digits_length (a % 10 ^ k) k) (ap (λ x. x * 10 ^ k) all)

number_written : (m : ℤ) (p : ℕ) → unsigned_abs m < 10 ^ 18 → IsNumber (numeral_text m p) (digits_written m p)
unfolding numeral_text digits_written
number_written m p lt =
    let a = unsigned_abs m in
    let whole = whole_text (a / 10 ^ p) in
    let places = places_text (a % 10 ^ p) p in
    record {
      sign = sign_text m;
      fraction_part = 46 ∷ places;
      exponent_part = [];
      minus = minus_is m;
      whole = (whole_is (a / 10 ^ p) (quotient_small a p lt)).0;
      fraction = inr (refl, places_some (a % 10 ^ p) p);
      exponent = inl (refl, refl, refl);
      bytes_are = append_assoc (sign_text m) whole (46 ∷ places) ∙ ap (λ (l : List ℕ). sign_text m ++ (whole ++ l)) (sym (append-nil (46 ∷ places)));
    }

kept_written : (m : ℤ) (p : ℕ) → unsigned_abs m < 10 ^ 18 → p ≤ 18 → HasLeastPlaces m p → IsKept (digits_written m p) m p
unfolding digits_written
kept_written m p lt few least =
    let a = unsigned_abs m in
    let places = places_text (a % 10 ^ p) p in
    record {
      size = a;
      signed = signed_is m;
      same = ap (λ x. number_from (number_of (whole_text (a / 10 ^ p))) places * 10 ^ x) (omega arith) ∙ value_written a p lt ∙ ap (λ x. a * 10 ^ x) (omega arith);
      small = lt;
      few = few;
      least = least;
    }

-- ---- trees

-- the tree with the places that it has where it is written
abbrev mutual
  pub placed : ℕ → Tree → Tree
  placed at (At place kind) = At at (placed_kind at kind)

  pub placed_kind : ℕ → Kind → Kind
  placed_kind at (List_of ts) = List_of (placed_trees (at + 1) ts)
  placed_kind at (Object_of ms) = Object_of (placed_members (at + 1) ms)
  placed_kind at Null = Null
  placed_kind at (Bool_of b) = Bool_of b
  placed_kind at (Numeral_of m p) = Numeral_of m p
  placed_kind at Wide = Wide
  placed_kind at (Text_of s) = Text_of s

  pub placed_trees : ℕ → Trees → Trees
  placed_trees at no_trees = no_trees
  placed_trees at (more_trees t ts) = more_trees (placed at t) (placed_trees (at + length (tree_text t) + 1) ts)

  pub placed_members : ℕ → Members → Members
  placed_members at no_members = no_members
  placed_members at (more_members n t ms) = more_members n (placed (at + length (quoted n) + 1) t) (placed_members (at + length (quoted n ++ 58 ∷ tree_text t) + 1) ms)

mutual
  pub placed_aside : (at : ℕ) (t : Tree) → aside (placed at t) ≡ aside t
  placed_aside at (At place kind) = ap (At 0) (placed_kind_aside at kind)

  placed_kind_aside : (at : ℕ) (k : Kind) → kind_aside (placed_kind at k) ≡ kind_aside k
  placed_kind_aside at (List_of ts) = ap List_of (placed_trees_aside (at + 1) ts)
  placed_kind_aside at (Object_of ms) = ap Object_of (placed_members_aside (at + 1) ms)
  placed_kind_aside at Null = refl
  placed_kind_aside at (Bool_of b) = refl
  placed_kind_aside at (Numeral_of m p) = refl
  placed_kind_aside at Wide = refl
  placed_kind_aside at (Text_of s) = refl

  placed_trees_aside : (at : ℕ) (ts : Trees) → trees_aside (placed_trees at ts) ≡ trees_aside ts
  placed_trees_aside at no_trees = refl
  placed_trees_aside at (more_trees t ts) = λ i. more_trees (placed_aside at t i) (placed_trees_aside (at + length (tree_text t) + 1) ts i)

  placed_members_aside : (at : ℕ) (ms : Members) → members_aside (placed_members at ms) ≡ members_aside ms
  placed_members_aside at no_members = refl
  placed_members_aside at (more_members n t ms) = λ i. more_members n (placed_aside (at + length (quoted n) + 1) t i) (placed_members_aside (at + length (quoted n ++ 58 ∷ tree_text t) + 1) ms i)

-- a value without blanks
plain_item : (Is : ℕ → List ℕ → Tree → Type 0) (at : ℕ) (text : List ℕ) (t : Tree) → Is at text t → IsItem Is at text t
plain_item Is at text t h = record {
  before = [];
  text = text;
  behind = [];
  bytes_are = sym (append-nil text);
  blanks_before = tt;
  blanks_behind = tt;
  value = subst (λ (n : ℕ). Is n text t) (omega arith) h;
}

plain_member : (Is : ℕ → List ℕ → Tree → Type 0) (at : ℕ) (n text : List ℕ) (t : Tree) → IsUtf8 n → Is (at + length (quoted n) + 1) text t → IsMember Is at (quoted n ++ 58 ∷ text) (n, t)
plain_member Is at n text t u h = record {
  before = [];
  quoted = quoted n;
  behind = [];
  item = text;
  bytes_are = refl;
  blanks_before = tt;
  blanks_behind = tt;
  name = written_text n u;
  value = plain_item Is _ text t (subst (λ (k : ℕ). Is k text t) (omega arith) h);
}

-- a kind with so many levels left
abbrev KindAt : ℕ → ℕ → List ℕ → Kind → Type 0
KindAt zero at bytes k = IsKind ⊥ (λ _ _ _. ⊥) at bytes k
KindAt (suc levels) at bytes k = IsKind (Unit {0}) (SpellsAt levels) at bytes k

any_level : (levels at : ℕ) (bytes : List ℕ) (k : Kind) → ((Nested : Type 0) (Inner : ℕ → List ℕ → Tree → Type 0) → IsKind Nested Inner at bytes k) → KindAt levels at bytes k
any_level zero at bytes k h = h ⊥ (λ _ _ _. ⊥)
any_level (suc levels) at bytes k h = h (Unit {0}) (SpellsAt levels)

here : (levels at : ℕ) (bytes : List ℕ) (k : Kind) → KindAt levels at bytes k → SpellsAt levels at bytes (At at k)
unfolding SpellsAt
here zero at bytes k h = (refl, h)
here (suc levels) at bytes k h = (refl, h)

abbrev Items : ℕ → ℕ → Trees → Type 0
Items levels at ts = AreElements (IsItem (SpellsAt levels)) at (joined (trees_texts ts)) (in_trees (placed_trees at ts))

more_items : (t : Tree) (ts : Trees) (levels at : ℕ) → SpellsAt levels at (tree_text t) (placed at t) → ((next : ℕ) → Items levels next ts) → Items levels at (more_trees t ts)
more_items t no_trees levels at h rec = subst (λ (l : List ℕ). IsItem (SpellsAt levels) at l (placed at t)) (sym (append-nil (tree_text t))) (plain_item (SpellsAt levels) at (tree_text t) (placed at t) h)
more_items t (more_trees u us) levels at h rec =
    (tree_text t, joined (trees_texts (more_trees u us)), refl, plain_item (SpellsAt levels) at (tree_text t) (placed at t) h, rec (at + length (tree_text t) + 1))

abbrev Named : ℕ → ℕ → Members → Type 0
Named levels at ms = AreElements (IsMember (SpellsAt levels)) at (joined (members_texts ms)) (in_members (placed_members at ms))

more_named : (n : List ℕ) (t : Tree) (ms : Members) (levels at : ℕ) → IsUtf8 n → SpellsAt levels (at + length (quoted n) + 1) (tree_text t) (placed (at + length (quoted n) + 1) t) → ((next : ℕ) → Named levels next ms) → Named levels at (more_members n t ms)
more_named n t no_members levels at u h rec =
    let k = at + length (quoted n) + 1 in
    subst (λ (l : List ℕ). IsMember (SpellsAt levels) at l (n, placed k t)) (sym (append-nil (quoted n ++ 58 ∷ tree_text t))) (plain_member (SpellsAt levels) at n (tree_text t) (placed k t) u h)
more_named n t (more_members m v ms) levels at u h rec =
    let k = at + length (quoted n) + 1 in
    (quoted n ++ 58 ∷ tree_text t, joined (members_texts (more_members m v ms)), refl, plain_member (SpellsAt levels) at n (tree_text t) (placed k t) u h, rec (at + length (quoted n ++ 58 ∷ tree_text t) + 1))

mutual
  pub tree_spelled : (t : Tree) (levels at : ℕ) → is_writable t levels ≡ true → IsSound t → SpellsAt levels at (tree_text t) (placed at t)
  tree_spelled (At place kind) levels at w s = here levels at (kind_text kind) (placed_kind at kind) (kind_spelled kind levels at w s)

  kind_spelled : (k : Kind) (levels at : ℕ) → is_kind_writable k levels ≡ true → IsSoundKind k → KindAt levels at (kind_text k) (placed_kind at k)
  kind_spelled Null levels at w s = any_level levels at (codes "null") Null (λ n i. refl)
  kind_spelled (Bool_of true) levels at w s = any_level levels at (codes "true") (Bool_of true) (λ n i. refl)
  kind_spelled (Bool_of false) levels at w s = any_level levels at (codes "false") (Bool_of false) (λ n i. refl)
  kind_spelled (Numeral_of m p) levels at w s = any_level levels at (numeral_text m p) (Numeral_of m p) (λ n i. (digits_written m p, number_written m p s.0, kept_written m p s.0 s.1 s.2))
  kind_spelled Wide levels at w s = absurd (false≢true w)
  kind_spelled (Text_of text) levels at w s = any_level levels at (quoted text) (Text_of text) (λ n i. written_text text s)
  kind_spelled (List_of ts) zero at w s = absurd (false≢true w)
  kind_spelled (List_of ts) (suc levels) at w s = (tt, (joined (trees_texts ts), refl, trees_spelled ts levels (at + 1) w s))
  kind_spelled (Object_of ms) zero at w s = absurd (false≢true w)
  kind_spelled (Object_of ms) (suc levels) at w s = (tt, (joined (members_texts ms), refl, members_spelled ms levels (at + 1) w s))

  trees_spelled : (ts : Trees) (levels at : ℕ) → are_writable ts levels ≡ true → AreSound ts → Items levels at ts
  trees_spelled no_trees levels at w s = tt
  trees_spelled (more_trees t ts) levels at w s =
      let p = and_parts (is_writable t levels) (are_writable ts levels) w in
      more_items t ts levels at (tree_spelled t levels at p.0 s.0) (λ next. trees_spelled ts levels next p.1 s.1)

  members_spelled : (ms : Members) (levels at : ℕ) → are_members_writable ms levels ≡ true → AreSoundMembers ms → Named levels at ms
  members_spelled no_members levels at w s = tt
  members_spelled (more_members n t ms) levels at w s =
      let p = and_parts (is_writable t levels) (are_members_writable ms levels) w in
      more_named n t ms levels at s.0 (tree_spelled t levels (at + length (quoted n) + 1) p.0 s.1) (λ next. members_spelled ms levels next p.1 s.2)

-- what is written is spelled as the same tree, places aside
pub written_spelled : (t : Tree) (levels : ℕ) → is_writable t levels ≡ true → IsSound t → (u : Tree) × Spells levels (tree_text t) u × (aside u ≡ aside t)
unfolding Spells
written_spelled t levels w s = (placed 0 t, plain_item (SpellsAt levels) 0 (tree_text t) (placed 0 t) (tree_spelled t levels 0 w s), placed_aside 0 t)

pub spelled_again : (t : Tree) (levels : ℕ) (bytes : List ℕ) → is_writable t levels ≡ true → IsSound t → bytes ≡ tree_text t → SpellsAgain levels bytes t
spelled_again t levels bytes w s e = subst (λ (l : List ℕ). SpellsAgain levels l t) (sym e) (written_spelled t levels w s)
