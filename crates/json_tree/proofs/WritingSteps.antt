-- Writing digits, characters and elements one after the other, as the loops do.
use Rattle.std.proofs.Common.{◌≡◌, ℕ, zero, suc, ◌+◌, ◌-◌, ◌/◌, ◌%◌, ◌^◌, ◌≤◌, ◌<◌, List, [], ◌∷◌, ◌++◌, length, map, get_or, refl, sym, ap, append_assoc, arith}
use Rattle.std.proofs.lemmas.Bool.{lt-ltb, le-ltb}
use Rattle.std.proofs.Math.Nat.{one-le-pow}
use Rattle.json_tree.proofs.Levels.{one_less}
use Rattle.json_tree.specs.Tree.{Tree, trees, members}
use Rattle.json_tree.specs.View.{tree_of, member_of}
use Rattle.json_tree.specs.Size.{tree_size, items_size, named_size}
use Rattle.json_tree.specs.declared.tree.Json.{Json}
use Rattle.json_tree.specs.declared.tree.Member.{Member}
use Rattle.json_tree.specs.Writing.{digits_needed, last_digits, places_text, tree_text, member_text, trees_texts, members_texts}

pub ten_positive : (places : ℕ) → 0 < 10 ^ places
ten_positive places = one-le-pow places 10 (omega arith)

pub needed_here : (n count : ℕ) → count < 18 → n < 10 ^ count → digits_needed n (18 - count) count ≡ count
unfolding digits_needed
needed_here n count lt less =
    let k : 18 - count ≡ suc (18 - (count + 1)) = omega arith in
    rw (k, lt-ltb n (10 ^ count) less) refl

pub needed_on : (n count : ℕ) → count < 18 → 10 ^ count ≤ n → digits_needed n (18 - count) count ≡ digits_needed n (18 - (count + 1)) (count + 1)
unfolding digits_needed
needed_on n count lt le =
    let k : 18 - count ≡ suc (18 - (count + 1)) = omega arith in
    rw (k, le-ltb n (10 ^ count) le) refl

pub needed_last : (n count : ℕ) → 18 ≤ count → digits_needed n (18 - count) count ≡ count
unfolding digits_needed
needed_last n count le =
    let k : 18 - count ≡ 0 = omega arith in
    rw k refl

pub digit_first : (n place : ℕ) → 0 < place → last_digits n place ≡ (48 + n / 10 ^ (place - 1) % 10) ∷ last_digits n (place - 1)
digit_first n zero h = absurd (omega arith)
digit_first n (suc place) h = ap (λ p. (48 + n / 10 ^ p % 10) ∷ last_digits n p) (sym (one_less place))

pub digit_put : (out rest : List ℕ) (d : ℕ) → out ++ d ∷ rest ≡ (out ++ d ∷ []) ++ rest
digit_put out rest d = sym (append_assoc out (d ∷ []) rest)

pub places_are : (n places : ℕ) → 0 < places → places_text n places ≡ last_digits n places
places_are n zero h = absurd (omega arith)
places_are n (suc places) h = refl

pub texts_are : (ts : List Tree) → trees_texts (trees ts) ≡ map tree_text ts
texts_are [] = refl
texts_are (t ∷ ts) = ap (λ xs. tree_text t ∷ xs) (texts_are ts)

pub named_texts_are : (ms : List (List ℕ × Tree)) → members_texts (members ms) ≡ map member_text ms
named_texts_are [] = refl
named_texts_are (m ∷ ms) = ap (λ xs. member_text m ∷ xs) (named_texts_are ms)

-- what stands in a list or an object is no larger
pub item_within : (js : List Json) (i : ℕ) (d : Json) → i < length js → tree_size (tree_of (get_or js i d)) ≤ items_size (map tree_of js)
item_within [] i d lt = absurd (omega arith)
item_within (j ∷ js) zero d lt = omega arith
item_within (j ∷ js) (suc i) d lt = omega (arith, item_within js i d (omega arith))

pub member_within : (ms : List Member) (i : ℕ) (d : Member) → i < length ms → tree_size (tree_of (get_or ms i d).value) ≤ named_size (map member_of ms)
member_within [] i d lt = absurd (omega arith)
member_within (m ∷ ms) zero d lt = omega arith
member_within (m ∷ ms) (suc i) d lt = omega (arith, member_within ms i d (omega arith))
