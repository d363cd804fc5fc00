-- The digits at the front of a list.
use Rattle.std.proofs.Common.{◌≡◌, ℕ, ◌+◌, ◌-◌, ◌*◌, ◌≤◌, ◌<◌, Bool, true, false, cond, List, [], ◌∷◌, ◌++◌, length, take, drop, get_or, refl, sym, ap, ◌∙◌, arith}
use Rattle.std.proofs.lemmas.Bool.Decides.{nat_tests}
use Rattle.std.proofs.lemmas.List.{take_more, take_at, drop_at, at_drop_all, length-append}
use Rattle.std.proofs.lemmas.List.Elements.{All-from_recursion}
use Rattle.std.specs.List.{AllByRecursion}
use Rattle.json_tokens.specs.ReadingNumerals.{digits_of, past_digits, is_digit, AreDigits}
use Rattle.json_tokens.specs.Decimal.{number_from}

split_if : (t : Bool) (b : ℕ) (bs : List ℕ) → digits_of bs ++ past_digits bs ≡ bs → cond t (b ∷ digits_of bs) [] ++ cond t (past_digits bs) (b ∷ bs) ≡ b ∷ bs
split_if true b bs e = ap (λ (r : List ℕ). b ∷ r) e
split_if false b bs e = refl

pub digits_split : (bs : List ℕ) → digits_of bs ++ past_digits bs ≡ bs
digits_split [] = refl
digits_split (b ∷ bs) = split_if (is_digit b) b bs (digits_split bs)

abbrev Digit : ℕ → Type 0
Digit d = (48 ≤ d) × (d ≤ 57)

test_digit : (b : ℕ) → is_digit b ≡ true → Digit b
test_digit b e = (grind (arith, nat_tests), grind (arith, nat_tests))

are_if : (t : Bool) (b : ℕ) (bs : List ℕ) → is_digit b ≡ t → AllByRecursion Digit (digits_of bs) → AllByRecursion Digit (cond t (b ∷ digits_of bs) [])
are_if true b bs e h = (test_digit b e, h)
are_if false b bs e h = tt

are : (bs : List ℕ) → AllByRecursion Digit (digits_of bs)
are [] = tt
are (b ∷ bs) = are_if (is_digit b) b bs refl (are bs)

pub are_digits : (bs : List ℕ) → AreDigits (digits_of bs)
are_digits bs = All-from_recursion Digit (digits_of bs) (are bs)

pub front_digits : (n : ℕ) (bs : List ℕ) → n ≡ length (digits_of bs) → take n bs ≡ digits_of bs
front_digits n bs e = ap (take n) (sym (digits_split bs)) ∙ take_at (digits_of bs) (past_digits bs) n (sym e)

pub behind_digits : (n : ℕ) (bs : List ℕ) → n ≡ length (digits_of bs) → drop n bs ≡ past_digits bs
behind_digits n bs e = ap (drop n) (sym (digits_split bs)) ∙ drop_at (digits_of bs) (past_digits bs) n (sym e)

pub few_digits : (bs : List ℕ) → length (digits_of bs) ≤ length bs
few_digits bs = omega (arith, length-append (digits_of bs) (past_digits bs), ap length (digits_split bs))

pub none_left : (bs : List ℕ) (i : ℕ) → length bs ≤ i → length (digits_of (drop i bs)) ≡ 0
none_left bs i le = ap length (at_drop_all digits_of bs i le)

-- ---- the number that digits write
pub number_append : (n : ℕ) (ds : List ℕ) (d : ℕ) → number_from n (ds ++ d ∷ []) ≡ number_from n ds * 10 + (d - 48)
number_append n [] d = refl
number_append n (e ∷ ds) d = number_append (n * 10 + (e - 48)) ds d

pub number_more : (n : ℕ) (ds : List ℕ) (i : ℕ) → i < length ds → number_from n (take (i + 1) ds) ≡ number_from n (take i ds) * 10 + (get_or ds i 0 - 48)
number_more n ds i lt = ap (number_from n) (take_more ds i 0 lt) ∙ number_append n (take i ds) (get_or ds i 0)

pub digit_in : (ds : List ℕ) (i : ℕ) → AreDigits ds → i < length ds → (48 ≤ get_or ds i 0) × (get_or ds i 0 ≤ 57)
digit_in ds i h lt = h i 0 lt
