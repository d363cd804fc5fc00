-- Lists made by counting up, and the names of plain reels.
use Rattle.std.proofs.Common.{◌≡◌, ℕ, zero, suc, ◌+◌, ◌<◌, ◌≤◌, ◌^◌, Bool, true, false, cond, ◌||◌, List, [], ◌∷◌, ◌++◌, map, Result, Ok, refl, sym, ap, ◌∙◌, arith}
use Rattle.std.specs.Prelude.{codes, decimal}
use Rattle.std.specs.List.{range_with_len, list_any}
use Rattle.std.specs.Str.{bytes_eq}
use Rattle.std.proofs.lemmas.List.{map-append}
use Rattle.std.proofs.lemmas.Slice.Eq.{bytes_eq-Decides}
use Rattle.line_words.specs.Digits.{number_of}
use Rattle.line_words.specs.declared.numbers.NumberFault.{NumberFault}
use Rattle.line_words.proofs.DigitLaws.{number_of-decimal}
use Rattle.reel_table.specs.ReelNames.{with_name}
use Rattle.otio_json.specs.Openings.{plain_reel}

range_push : (a n : ℕ) → range_with_len a (suc n) ≡ range_with_len a n ++ (a + n) ∷ []
range_push a zero = let e : a ≡ a + 0 = omega arith in ap (λ m. m ∷ []) e
range_push a (suc n) =
    let e : a + 1 + n ≡ a + suc n = omega arith in
    ap (λ ns. a ∷ ns) (range_push (a + 1) n ∙ ap (λ m. range_with_len (a + 1) n ++ m ∷ []) e)

-- one more
pub counted_more : {A : Type 0} (f : ℕ → A) (n : ℕ) → map f (range_with_len 0 (n + 1)) ≡ map f (range_with_len 0 n) ++ f n ∷ []
counted_more f n =
    let e : n + 1 ≡ suc n = omega arith in
    let z : 0 + n ≡ n = omega arith in
    ap (λ m. map f (range_with_len 0 m)) e
    ∙ (ap (map f) (range_push 0 n ∙ ap (λ m. range_with_len 0 n ++ m ∷ []) z) ∙ map-append f (range_with_len 0 n) (n ∷ []))

pub counted_push : {A : Type 0} (f : ℕ → A) (n : ℕ) (old new : List A) (x : A) → old ≡ map f (range_with_len 0 n) → x ≡ f n → new ≡ old ++ x ∷ [] → new ≡ map f (range_with_len 0 (n + 1))
counted_push f n old new x is same pushed = pushed ∙ (ap (λ xs. xs ++ x ∷ []) is ∙ (ap (λ y. map f (range_with_len 0 n) ++ y ∷ []) same ∙ sym (counted_more f n)))

-- plain reels have names of their own
read : (m n : ℕ) → ◌≡◌ {A = Result ℕ NumberFault} (Ok m) (Ok n) → m ≡ n
read m n h = cc

same_digits : (m n : ℕ) → m < 2 ^ 32 → n < 2 ^ 32 → decimal m ≡ decimal n → m ≡ n
same_digits m n small fits e = read m n (sym (number_of-decimal m small) ∙ (ap number_of e ∙ number_of-decimal n fits))

after_r : (xs ys : List ℕ) → codes "R" ++ xs ≡ codes "R" ++ ys → xs ≡ ys
after_r xs ys e = cc

same_reel : (m n : ℕ) → m < 2 ^ 32 → n < 2 ^ 32 → plain_reel m ≡ plain_reel n → m ≡ n
same_reel m n small fits e = same_digits m n small fits (after_r (decimal m) (decimal n) e)

apart : (m n : ℕ) (b : Bool) → bytes_eq (plain_reel m) (plain_reel n) ≡ b → n < m → m < 2 ^ 32 → b ≡ false
apart m n true e less small = absurd (omega (arith, same_reel m n small (omega arith) ((bytes_eq-Decides (plain_reel m) (plain_reel n)).0 e), less))
apart m n false e less small = refl

none_from : (m a n : ℕ) → a + n ≤ m → m < 2 ^ 32 → list_any (bytes_eq (plain_reel m)) (map plain_reel (range_with_len a n)) ≡ false
none_from m a zero le small = refl
none_from m a (suc n) le small =
    ap (λ b. b || list_any (bytes_eq (plain_reel m)) (map plain_reel (range_with_len (a + 1) n))) (apart m a (bytes_eq (plain_reel m) (plain_reel a)) refl (omega arith) small)
    ∙ none_from m (a + 1) n (omega arith) small

pub reel_more : (m : ℕ) (old new : List (List ℕ)) (name : List ℕ) → m < 2 ^ 32 → old ≡ map plain_reel (range_with_len 0 m) → name ≡ plain_reel m → new ≡ with_name old name → new ≡ map plain_reel (range_with_len 0 (m + 1))
reel_more m old new name small is named made =
    let here = map plain_reel (range_with_len 0 m) in
    let none : list_any (bytes_eq (plain_reel m)) here ≡ false = none_from m 0 m (omega arith) small in
    let fresh : with_name here (plain_reel m) ≡ here ++ plain_reel m ∷ [] = ap (λ (b : Bool). cond b here (here ++ plain_reel m ∷ [])) none in
    made ∙ (ap (λ xs. with_name xs name) is ∙ (ap (with_name here) named ∙ (fresh ∙ sym (counted_more plain_reel m))))
