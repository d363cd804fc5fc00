-- The parts that a set names, one after another.
use Rattle.std.proofs.Common.{◌≡◌, ℕ, zero, suc, ◌+◌, ◌<◌, List, [], ◌∷◌, ◌++◌, append_assoc, Bool, true, false, All}
use Rattle.std.proofs.Common.{Some, None, slice_get, slice_index_or, drop, length, refl, sym, ap, ◌∙◌, arith}
use Rattle.std.proofs.Common.{if◌then◌else◌}
use Rattle.std.proofs.lemmas.List.{append-nil}
use Rattle.part_sets.specs.Members.{has, members}
use Rattle.part_sets.proofs.Looking.{members_after, at_start, next_member, no_more}
use Rattle.room_core.specs.Whole.{picked, with_picked}

pub none_yet : (set : ℕ) (numbers : List ℕ) → numbers ≡ [] → numbers ++ members_after set 0 ≡ members set
none_yet set numbers e = ap (λ ns. ns ++ members_after set 0) e ∙ sym (at_start set)

chosen : (b : Bool) (set t : ℕ) → t < 32 → has set t ≡ b → members_after set t ≡ (if b then t ∷ members_after set
    (t + 1) else members_after set (t + 1))
chosen b set t h e = next_member set t h ∙ ap (λ c. if c then t ∷ members_after set (t + 1) else members_after set
    (t + 1)) e

pub one_listed : (set t : ℕ) (numbers : List ℕ) → t < 32 → has set t ≡ true → numbers
    ++ members_after set t ≡ members set
    → (numbers ++ t ∷ []) ++ members_after set (t + 1) ≡ members set
one_listed set t numbers h e so_far =
    append_assoc numbers (t ∷ []) (members_after set (t + 1))
    ∙ (ap (λ ns. numbers ++ ns) (sym (chosen true set t h e)) ∙ so_far)

pub one_passed : (set t : ℕ) (numbers : List ℕ) → t < 32 → has set t ≡ false → numbers
    ++ members_after set t ≡ members set
    → numbers ++ members_after set (t + 1) ≡ members set
one_passed set t numbers h e so_far = ap (λ ns. numbers ++ ns) (sym (chosen false set t h e)) ∙ so_far

pub all_listed : (set t : ℕ) (numbers : List ℕ) → t ≡ 32 → numbers ++ members_after set t ≡ members set
    → numbers ≡ members set
all_listed set t numbers e so_far = sym (append-nil numbers)
    ∙ (ap (λ ns. numbers ++ ns) (sym (no_more set t e)) ∙ so_far)

one_picked : {P : Type 0} (parts named : List P) (n : ℕ) (p : P) (rest all : List ℕ) → slice_get parts n ≡ Some p
    → named ++ picked parts (n ∷ rest) ≡ picked parts all → (named ++ p ∷ []) ++ picked parts rest ≡ picked parts all
one_picked parts named n p rest all is so_far =
    append_assoc named (p ∷ []) (picked parts rest)
    ∙ (ap (λ ps. named ++ ps) (sym (ap (λ o. with_picked o (picked parts rest)) is)) ∙ so_far)

pub get-index : {A : Type 0} (xs : List A) (n : ℕ) (d : A) → n < length xs
    → slice_get xs n ≡ Some (slice_index_or xs n d)
get-index [] n d h = absurd (omega (arith, h))
get-index (x ∷ xs) zero d h = refl
get-index (x ∷ xs) (suc n) d h = get-index xs n d (omega (arith, h))

drop-index : {A : Type 0} (xs : List A) (k : ℕ) (d : A) → k < length xs → drop k xs ≡ slice_index_or xs k d ∷ drop
    (suc k) xs
drop-index [] k d h = absurd (omega (arith, h))
drop-index (x ∷ xs) zero d h = refl
drop-index (x ∷ xs) (suc k) d h = drop-index xs k d (omega (arith, h))

-- one part more is copied
pub copy_next : {P : Type 0} (parts named : List P) (names : List ℕ) (k d : ℕ) (p : P)
    → All (λ n. n < length parts) names → k < length names
    → p ≡ slice_index_or parts (slice_index_or names k d) p → named ++ picked parts (drop k names) ≡ picked parts names
    → (named ++ p ∷ []) ++ picked parts (drop (k + 1) names) ≡ picked parts names
copy_next parts named names k d p within there is so_far =
    let n = slice_index_or names k d in
    let next : k + 1 ≡ suc k = omega arith in
    ap (λ (j : ℕ). (named ++ p ∷ []) ++ picked parts (drop j names)) next
    ∙ one_picked parts named n p (drop (suc k) names) names (get-index parts n p (within k d there) ∙ ap Some (sym is))
    (ap (λ ns. named ++ picked parts ns) (sym (drop-index names k d there)) ∙ so_far)
