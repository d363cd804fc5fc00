-- Places out of which parts are taken, and into which they are put.
use Rattle.std.proofs.Common.{append_assoc, drop, ◌≡◌, ◌≢◌, ℕ, zero, suc, ◌+◌, ◌<◌, ◌≤◌, List, [], ◌∷◌, ◌++◌, length, Option, Some, None, refl, sym, ap, ◌∙◌, arith, slice_get, slice_set, get_or, subst, map}
use Rattle.std.proofs.Math.ListN.{length-set}
use Rattle.std.proofs.lemmas.Option.{slice_get-get_or}
use Rattle.std.proofs.lemmas.List.{drop_more, map-append, map-set}
use Rattle.room_core.specs.Parts.{AscendBetween}
use Rattle.room_core.specs.Whole.{picked, put_back}
use Rattle.room_core.proofs.WholeParts.{get-set_other}
use Rattle.history_points.specs.Slots.{present, emptied, IsWhole}
use Rattle.history_points.proofs.Sets.{lower}

pub present-map : {P : Type 0} (ps : List P) → present (map Some ps) ≡ ps
present-map [] = refl
present-map (p ∷ ps) = ap (λ qs. p ∷ qs) (present-map ps)

pub whole-map : {P : Type 0} (ps : List P) → IsWhole (map Some ps)
whole-map ps = ap (map Some) (present-map ps)

standing_in : {P : Type 0} (ps : List P) (n : ℕ) (d : Option P) → n < length ps → (p : P) × (get_or (map Some ps) n d ≡ Some p) × (slice_get ps n ≡ Some p)
standing_in [] n d h = absurd (omega (arith, h))
standing_in (p ∷ ps) zero d h = (p, refl, refl)
standing_in (p ∷ ps) (suc n) d h = standing_in ps n d (omega (arith, h))

no_hole_in : {P : Type 0} (ps : List P) (n : ℕ) → slice_get (map Some ps) n ≡ Some None → ⊥
no_hole_in [] n e = absurd (Prim.grind (arith, e))
no_hole_in (p ∷ ps) zero e = absurd (Prim.grind (arith, e))
no_hole_in (p ∷ ps) (suc n) e = no_hole_in ps n e

part_in : {P : Type 0} (ps : List P) (n : ℕ) (p : P) → slice_get (map Some ps) n ≡ Some (Some p) → slice_get ps n ≡ Some p
part_in [] n p e = absurd (Prim.grind (arith, e))
part_in (q ∷ ps) zero p e = Prim.grind (arith, e)
part_in (q ∷ ps) (suc n) p e = part_in ps n p e

-- while parts are taken out, in ascending order: the places not reached yet stand
pub record Taking {P : Type 0} (before : List (Option P)) (names : List ℕ) (i : ℕ) (slots : List (Option P)) (named : List P) : Type 0 where
  pub least : ℕ
  pub ascend : AscendBetween least (length before) (drop i names)
  pub stands : (k : ℕ) → least ≤ k → slice_get slots k ≡ slice_get before k
  pub left : emptied slots (drop i names) ≡ emptied before names
  pub taken : named ++ picked (present before) (drop i names) ≡ picked (present before) names
  pub as_many : length slots ≡ length before

next_name : {P : Type 0} (before : List (Option P)) (names : List ℕ) (i d : ℕ) (slots : List (Option P)) (named : List P)
    → i < length names → Taking before names i slots named → (t : Taking before names i slots named) × (drop i names ≡ get_or names i d ∷ drop (i + 1) names)
    × AscendBetween t.least (length before) (get_or names i d ∷ drop (i + 1) names)
next_name before names i d slots named h t = (t, drop_more names i d h, subst (AscendBetween t.least (length before)) (drop_more names i d h) t.ascend)

-- a name that comes next has its part standing
pub no_hole : {P : Type 0} (before : List (Option P)) (names : List ℕ) (i d : ℕ) (slots : List (Option P)) (named : List P) (e : Option P)
    → IsWhole before → i < length names → Taking before names i slots named → get_or slots (get_or names i d) e ≡ None → ⊥
no_hole before names i d slots named e whole h t none =
    let r = next_name before names i d slots named h t in
    let n = get_or names i d in
    let found : slice_get slots n ≡ Some None = slice_get-get_or slots n e (omega (arith, t.as_many, r.2.1)) ∙ ap Some none in
    let stood : slice_get before n ≡ Some None = sym (r.0.stands n r.2.0) ∙ found in
    no_hole_in (present before) n (ap (λ xs. slice_get xs n) whole ∙ stood)

picked_cons : {P : Type 0} (ps : List P) (n : ℕ) (ns : List ℕ) (p : P) → slice_get ps n ≡ Some p → picked ps (n ∷ ns) ≡ p ∷ picked ps ns
picked_cons ps n ns p at = rw at refl

pub one_taken : {P : Type 0} (before : List (Option P)) (names : List ℕ) (i d : ℕ) (slots : List (Option P)) (named more : List P) (e : Option P) (p : P)
    → IsWhole before → i < length names → Taking before names i slots named → get_or slots (get_or names i d) e ≡ Some p → more ≡ named ++ p ∷ []
    → Taking before names (i + 1) (slice_set slots (get_or names i d) None) more
one_taken before names i d slots named more e p whole h t is pushed =
    let r = next_name before names i d slots named h t in
    let n = get_or names i d in
    let rest = drop (i + 1) names in
    let found : slice_get slots n ≡ Some (Some p) = slice_get-get_or slots n e (omega (arith, t.as_many, r.2.1)) ∙ ap Some is in
    let stood : slice_get before n ≡ Some (Some p) = sym (r.0.stands n r.2.0) ∙ found in
    let part = part_in (present before) n p (ap (λ xs. slice_get xs n) whole ∙ stood) in
    record {
      least = n + 1;
      ascend = r.2.2;
      stands = λ k le. get-set_other slots n k None (λ (same : n ≡ k). absurd (omega (arith, le, same))) ∙ r.0.stands k (omega (arith, le, r.2.0));
      left = ap (emptied slots) (sym r.1) ∙ t.left;
      taken = ap (λ ps. ps ++ picked (present before) rest) pushed ∙ (append_assoc named (p ∷ []) (picked (present before) rest)
          ∙ (ap (λ ps. named ++ ps) (sym (picked_cons (present before) n rest p part)) ∙ (ap (λ ns. named ++ picked (present before) ns) (sym r.1) ∙ t.taken)));
      as_many = length-set slots n None ∙ t.as_many;
    }

set_again : {X : Type 0} (xs : List X) (n : ℕ) (x y : X) → slice_set (slice_set xs n x) n y ≡ slice_set xs n y
set_again [] n x y = refl
set_again (z ∷ xs) zero x y = refl
set_again (z ∷ xs) (suc n) x y = ap (λ ys. z ∷ ys) (set_again xs n x y)

set_apart : {X : Type 0} (xs : List X) (n k : ℕ) (x y : X) → n ≢ k → slice_set (slice_set xs n x) k y ≡ slice_set (slice_set xs k y) n x
set_apart [] n k x y h = refl
set_apart (z ∷ xs) zero zero x y h = absurd (h refl)
set_apart (z ∷ xs) zero (suc k) x y h = refl
set_apart (z ∷ xs) (suc n) zero x y h = refl
set_apart (z ∷ xs) (suc n) (suc k) x y h = ap (λ ys. z ∷ ys) (set_apart xs n k x y (λ e. h (ap suc e)))

set_same : {X : Type 0} (xs : List X) (n : ℕ) (x : X) → slice_get xs n ≡ Some x → slice_set xs n x ≡ xs
set_same [] n x e = refl
set_same (y ∷ xs) zero x e = Prim.grind (arith, e)
set_same (y ∷ xs) (suc n) x e = ap (λ ys. y ∷ ys) (set_same xs n x e)

emptied-set : {P : Type 0} (slots : List (Option P)) (n count : ℕ) (q : Option P) (ns : List ℕ) → AscendBetween (n + 1) count ns
    → slice_set (emptied slots ns) n q ≡ emptied (slice_set slots n q) ns
emptied-set slots n count q [] h = refl
emptied-set slots n count q (m ∷ ms) h =
    emptied-set (slice_set slots m None) n count q ms (lower (n + 1) (m + 1) count ms (omega (arith, h.0)) h.2)
    ∙ ap (λ xs. emptied xs ms) (set_apart slots m n None q (λ (e : m ≡ n). absurd (omega (arith, h.0, e))))

-- the places are filled again, the named ones with these parts
pub refilled : {P : Type 0} (ps : List P) (least count : ℕ) (names : List ℕ) (qs : List P) → AscendBetween least count names → length qs ≡ length names
    → put_back (emptied (map Some ps) names) names (map Some qs) ≡ map Some (put_back ps names qs)
refilled ps least count [] qs a e = refl
refilled ps least count (n ∷ ns) [] a e = absurd (omega (arith, e))
refilled ps least count (n ∷ ns) (q ∷ qs) a e =
    let filled : slice_set (emptied (slice_set (map Some ps) n None) ns) n (Some q) ≡ emptied (map Some (slice_set ps n q)) ns =
    emptied-set (slice_set (map Some ps) n None) n count (Some q) ns a.2
    ∙ ap (λ xs. emptied xs ns) (set_again (map Some ps) n None (Some q) ∙ sym (map-set Some ps n q)) in
    ap (λ xs. put_back xs ns (map Some qs)) filled ∙ refilled (slice_set ps n q) (n + 1) count ns qs a.2 (omega (arith, e))

-- what was taken out is put back unchanged
pub put_same : {P : Type 0} (ps : List P) (least : ℕ) (names : List ℕ) → AscendBetween least (length ps) names → put_back ps names (picked ps names) ≡ ps
put_same ps least [] a = refl
put_same ps least (n ∷ ns) a =
    let found = standing_in ps n None a.1 in
    rw (picked_cons ps n ns found.0 found.2, set_same ps n found.0 found.2) (put_same ps (n + 1) ns a.2)

-- moving the parts out of their places, one after another
pub no_hole_first : {P : Type 0} (slots rest : List (Option P)) → IsWhole slots → slots ≡ None ∷ rest → ⊥
no_hole_first slots rest whole is = no_hole_in (present slots) 0 (ap (λ xs. slice_get xs 0) (whole ∙ is))

-- one place more
pub present-more : {P : Type 0} (slots : List (Option P)) (p : P) → present (slots ++ Some p ∷ []) ≡ present slots ++ p ∷ []
present-more [] p = refl
present-more (None ∷ slots) p = present-more slots p
present-more (Some q ∷ slots) p = ap (λ ps. q ∷ ps) (present-more slots p)

pub whole-more : {P : Type 0} (slots : List (Option P)) (p : P) → IsWhole slots → IsWhole (slots ++ Some p ∷ [])
whole-more slots p whole =
    ap (map Some) (present-more slots p) ∙ (map-append Some (present slots) (p ∷ []) ∙ ap (λ xs. xs ++ Some p ∷ []) whole)
