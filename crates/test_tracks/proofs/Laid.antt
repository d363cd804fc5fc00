-- A track of items and gaps that can be laid.
use Rattle.std.proofs.Common.{◌≡◌, ◌≢◌, ◌↔◌, IsTrue, ℕ, zero, suc, ◌+◌, ◌<◌, ◌≤◌, ◌/◌, ◌^◌, max, Bool, true, false, ltb, List, [], ◌∷◌, ◌++◌, length, drop, get_or, Option, Some, None, IfSome, refl, sym, ap, ◌∙◌, arith, subst, IsBitSet}
use Rattle.std.proofs.lemmas.Bool.{eq-eqb, eqb-true, ltb-false, ltb-true, ne_eqb}
use Rattle.std.proofs.Math.Nat.{div-eq_of_lt, pow-le-pow_right}
use Rattle.std.proofs.lemmas.Nat.{bit_set_by_shift}
use Rattle.std.specs.Int.Bits.{and_zero_l, bit_and}
use Rattle.std.specs.List.{slice_get}
use Rattle.std.proofs.lemmas.List.{append-nil, drop_more}
use Rattle.frame_meaning.specs.declared.cells.Mark.{Mark}
use Rattle.frame_meaning.specs.declared.cells.Cell.{Cell}
use Rattle.frame_meaning.specs.Cells.{same_number}
use Rattle.composables.specs.declared.items.ItemView.{ItemView}
use Rattle.composables.specs.declared.media.Table.{Table}
use Rattle.composables.specs.Good.{EachLiesIn, SideLiesIn}
use Rattle.composables.specs.Items.{cells_of, items_of}
use Rattle.composables.specs.Joined.{IsTight, AllFilled}
use Rattle.composables.specs.TrackFacts.{Holds, EachHolds, Lacks, Apart, NumbersBelow, IsKept, first_mark, left_reach, right_reach}
use Rattle.composables.specs.TrackSets.{has_track}
use Rattle.composables.specs.TrackState.{TrackState, next_past, next_past_all, replaced}
use Rattle.composables.proofs.Joining.{items_of-tight, length-cells_of}
use Rattle.test_tracks.specs.Laid.{mark_of}
use Rattle.test_tracks.specs.Laid.{is_gap, number_after, Follows, Laid, CanBeLaid}

-- the dissolve before what is behind an index
mark_after : (vs : List ItemView) (i : ℕ) → mark_of (slice_get vs i) ≡ first_mark (drop i vs)
mark_after [] zero = refl
mark_after [] (suc i) = refl
mark_after (v ∷ vs) zero = refl
mark_after (v ∷ vs) (suc i) = mark_after vs i

each_of : (next : ℕ) (gap : Bool) (vs : List ItemView) → Laid next gap vs → EachHolds vs
each_of next gap [] h = tt
each_of next gap (v ∷ vs) h = (h.0, each_of (number_after v.item next) (is_gap v.item) vs h.2)

pub filled_of : (next : ℕ) (gap : Bool) (vs : List ItemView) → Laid next gap vs → AllFilled vs
filled_of next gap [] h = tt
filled_of next gap (v ∷ vs) h = (h.0.filled, filled_of (number_after v.item next) (is_gap v.item) vs h.2)

apart_numbers : (p q : Option ℕ) (next : ℕ) → Follows q (number_after p next) (is_gap p) → same_number p q ≡ false
apart_numbers None None next h = cc
apart_numbers None (Some j) next h = refl
apart_numbers (Some i) None next h = refl
apart_numbers (Some i) (Some j) next h = ne_eqb i j (λ e. absurd (omega (arith, h.0)))

tight_of : (next : ℕ) (gap : Bool) (vs : List ItemView) → Laid next gap vs → IsTight vs
tight_of next gap [] h = tt
tight_of next gap (v ∷ []) h = tt
tight_of next gap (v ∷ w ∷ ws) h =
    (apart_numbers v.item w.item next h.2.1, tight_of (number_after v.item next) (is_gap v.item) (w ∷ ws) h.2)

rises : (item : Option ℕ) (next : ℕ) (gap : Bool) → Follows item next gap → next ≤ number_after item next
rises None next gap h = omega arith
rises (Some i) next gap h = omega (arith, h.0)

other_number : (item : Option ℕ) (next i : ℕ) (gap : Bool) → Follows item next gap → i < next → item ≢ Some i
other_number None next i gap h l e = cc
other_number (Some j) next i gap h l e = let same : j ≡ i = cc in absurd (omega (arith, h.0, same))

lacks_of : (next i : ℕ) (gap : Bool) (vs : List ItemView) → i < next → Laid next gap vs → Lacks i vs
lacks_of next i gap [] l h = tt
lacks_of next i gap (v ∷ vs) l h = (
  other_number v.item next i gap h.1 l,
  lacks_of (number_after v.item next) i (is_gap v.item) vs (omega (arith, rises v.item next gap h.1)) h.2,
)

apart_of : (next : ℕ) (gap : Bool) (vs : List ItemView) → Laid next gap vs → Apart vs
apart_of next gap [] h = tt
apart_of next gap (v ∷ vs) h = (own v.item refl, apart_of (number_after v.item next) (is_gap v.item) vs h.2) where
  own : (o : Option ℕ) → v.item ≡ o → IfSome o (λ i. Lacks i vs)
  own None e = tt
  own (Some i) e =
      let after : number_after v.item next ≡ i + 1 = ap (λ (p : Option ℕ). number_after p next) e in
      lacks_of (number_after v.item next) i (is_gap v.item) vs (omega (arith, after)) h.2

pub below_of : (next : ℕ) (gap : Bool) (vs : List ItemView) → Laid next gap vs → NumbersBelow 4294967295 vs
below_of next gap [] h = tt
below_of next gap (v ∷ vs) h = (own v.item h.1, below_of (number_after v.item next) (is_gap v.item) vs h.2) where
  own : (o : Option ℕ) → Follows o next gap → IfSome o (λ i. i < 4294967295)
  own None f = tt
  own (Some i) f = f.1

past_rises : (vs : List ItemView) (next : ℕ) → next ≤ next_past_all next vs
past_rises [] next = omega arith
past_rises (v ∷ vs) next = omega (arith, one v.item, past_rises vs (next_past next v.item)) where
  one : (o : Option ℕ) → next ≤ next_past next o
  one None = omega arith
  one (Some i) = omega arith

below_past : (vs : List ItemView) (next : ℕ) → NumbersBelow (next_past_all next vs) vs
below_past [] next = tt
below_past (v ∷ vs) next = (own v.item refl, below_past vs (next_past next v.item)) where
  own : (o : Option ℕ) → v.item ≡ o → IfSome o (λ i. i < next_past_all (next_past next v.item) vs)
  own None e = tt
  own (Some i) e =
      let at : next_past next v.item ≡ max next (i + 1) = ap (next_past next) e in
      omega (arith, at, past_rises vs (next_past next v.item))

kept_cells : (vs : List ItemView) (number link : ℕ) (cs : List Cell) → cs ≡ cells_of vs → CanBeLaid vs → IsKept (record { number = number; cells = cs; next_item = next_past_all 0 vs; next_link = link })
kept_cells vs number link cs is h =
    let items : items_of cs ≡ vs = ap items_of is ∙ items_of-tight vs (filled_of 0 false vs h.each) (tight_of 0 false vs h.each) in
    record {
      whole = ap cells_of items ∙ sym is;
      not_before = ap first_mark items ∙ h.first;
      each = subst EachHolds (sym items) (each_of 0 false vs h.each);
      apart = subst Apart (sym items) (apart_of 0 false vs h.each);
      below = subst (λ (ws : List ItemView). NumbersBelow (next_past_all 0 vs) ws) (sym items) (below_past vs 0);
      short = omega (arith, ap length is, length-cells_of vs, h.short);
    }

pub kept_laid : (vs : List ItemView) (t : TrackState) (number : ℕ) → t ≡ record { number = number; cells = []; next_item = 0; next_link = 0 } → CanBeLaid vs → IsKept (replaced t 0 0 vs)
kept_laid vs t number is h =
    subst (λ (u : TrackState). IsKept (replaced u 0 0 vs)) (sym is) (kept_cells vs number 0 (cells_of vs ++ []) (append-nil (cells_of vs)) h)

-- the track has exactly these items and gaps
pub items_laid : (vs : List ItemView) (t : TrackState) (number : ℕ) → t ≡ record { number = number; cells = []; next_item = 0; next_link = 0 } → CanBeLaid vs → items_of (replaced t 0 0 vs).cells ≡ vs
items_laid vs t number is h =
    ap (λ (u : TrackState). items_of (replaced u 0 0 vs).cells) is
    ∙ (ap items_of (append-nil (cells_of vs)) ∙ items_of-tight vs (filled_of 0 false vs h.each) (tight_of 0 false vs h.each))

-- those from an index on can be laid behind what is before them where the first holds and the others can
pub laid_at : (vs : List ItemView) (i next : ℕ) (gap : Bool) (d : ItemView) (tail : Option Mark) → i < length vs → tail ≡ mark_of (slice_get vs (i + 1))
    → (Laid next gap (drop i vs)
    ↔ (Holds (get_or vs i d) tail × Follows (get_or vs i d).item next gap × Laid (number_after (get_or vs i d).item next) (is_gap (get_or vs i d).item) (drop (i + 1) vs)))
laid_at vs i next gap d tail inside is =
    let v = get_or vs i d in
    let after : tail ≡ first_mark (drop (i + 1) vs) = is ∙ mark_after vs (i + 1) in (
      λ h. let all = subst (Laid next gap) (drop_more vs i d inside) h in (subst (λ (m : Option Mark). Holds v m) (sym after) all.0, all.1, all.2),
      λ h. subst (Laid next gap) (sym (drop_more vs i d inside)) (subst (λ (m : Option Mark). Holds v m) after h.0, h.1, h.2),
    )

-- one item or gap more was found to hold, of those from an index on
pub laid_more : (vs : List ItemView) (i next number : ℕ) (gap dark : Bool) (d : ItemView) (tail : Option Mark) → i < length vs → tail ≡ mark_of (slice_get vs (i + 1))
    → Holds (get_or vs i d) tail → Follows (get_or vs i d).item next gap → number ≡ number_after (get_or vs i d).item next → dark ≡ is_gap (get_or vs i d).item
    → (Laid next gap (drop i vs) ↔ Laid 0 false vs) → (Laid number dark (drop (i + 1) vs) ↔ Laid 0 false vs)
laid_more vs i next number gap dark d tail inside is_tail holds follows is_number is_dark so_far =
    let v = get_or vs i d in
    let at = laid_at vs i next gap d tail inside is_tail in
    let after = drop (i + 1) vs in (
      λ rest. so_far.0 (at.1 (holds, follows, subst (λ (b : Bool). Laid (number_after v.item next) b after) is_dark (subst (λ (n : ℕ). Laid n dark after) is_number rest))),
      λ all. subst (λ (n : ℕ). Laid n dark after) (sym is_number) (subst (λ (b : Bool). Laid (number_after v.item next) b after) (sym is_dark) (at.0 (so_far.1 all)).2),
    )

-- and what each shows to lie in the ranges of a table
pub lies_at : (table : Table) (vs : List ItemView) (i : ℕ) (d : ItemView) (tail : Option Mark) → i < length vs → tail ≡ mark_of (slice_get vs (i + 1))
    → (EachLiesIn table (drop i vs)
    ↔ (SideLiesIn table (get_or vs i d).first (get_or vs i d).len (left_reach (get_or vs i d).mark) (right_reach tail) × EachLiesIn table (drop (i + 1) vs)))
lies_at table vs i d tail inside is =
    let v = get_or vs i d in
    let after : tail ≡ first_mark (drop (i + 1) vs) = is ∙ mark_after vs (i + 1) in
    let P : Option Mark → Type 0 = λ m. SideLiesIn table v.first v.len (left_reach v.mark) (right_reach m) in (
      λ h. let all = subst (EachLiesIn table) (drop_more vs i d inside) h in (subst P (sym after) all.0, all.1),
      λ h. subst (EachLiesIn table) (sym (drop_more vs i d inside)) (subst P after h.0, h.1),
    )

pub lies_more : (table : Table) (vs : List ItemView) (i : ℕ) (d : ItemView) (tail : Option Mark) → i < length vs → tail ≡ mark_of (slice_get vs (i + 1))
    → SideLiesIn table (get_or vs i d).first (get_or vs i d).len (left_reach (get_or vs i d).mark) (right_reach tail)
    → (EachLiesIn table (drop i vs) ↔ EachLiesIn table vs) → (EachLiesIn table (drop (i + 1) vs) ↔ EachLiesIn table vs)
lies_more table vs i d tail inside is lies so_far =
    let at = lies_at table vs i d tail inside is in
    (λ rest. so_far.0 (at.1 (lies, rest)), λ all. (at.0 (so_far.1 all)).1)

-- what does not hold of one is not to be had of all
pub unequal : IsTrue false → ⊥
unequal e = cc

pub not_laid : (vs : List ItemView) (i next : ℕ) (gap : Bool) (d : ItemView) (tail : Option Mark) (found : Bool) → i < length vs → tail ≡ mark_of (slice_get vs (i + 1))
    → (IsTrue found ↔ Holds (get_or vs i d) tail) → found ≡ false → (Laid next gap (drop i vs) ↔ Laid 0 false vs) → (IsTrue false ↔ Laid 0 false vs)
not_laid vs i next gap d tail found inside is holds none so_far =
    (λ e. absurd (unequal e), λ all. sym none ∙ holds.1 ((laid_at vs i next gap d tail inside is).0 (so_far.1 all)).0)

pub not_inside : (table : Table) (vs : List ItemView) (i : ℕ) (d : ItemView) (tail : Option Mark) (found : Bool) → i < length vs → tail ≡ mark_of (slice_get vs (i + 1))
    → (IsTrue found ↔ SideLiesIn table (get_or vs i d).first (get_or vs i d).len (left_reach (get_or vs i d).mark) (right_reach tail)) → found ≡ false
    → (EachLiesIn table (drop i vs) ↔ EachLiesIn table vs) → (IsTrue false ↔ EachLiesIn table vs)
not_inside table vs i d tail found inside is lies none so_far =
    (λ e. absurd (unequal e), λ all. sym none ∙ lies.1 ((lies_at table vs i d tail inside is).0 (so_far.1 all)).0)

pub bit_is_set : (set n : ℕ) → (has_track set n ≡ true) ↔ IsBitSet set n
bit_is_set set n = (
  λ e. (bit_set_by_shift set n).0 (eqb-true (bit_and (set / 2 ^ n) 1) 1 e),
  λ is. eq-eqb (bit_and (set / 2 ^ n) 1) 1 ((bit_set_by_shift set n).1 is),
)

pub bit_below : (set n : ℕ) → set < 2 ^ 32 → IsBitSet set n → n < 32
bit_below set n short is = by (ltb n 32) refl where
  by : (b : Bool) → ltb n 32 ≡ b → n < 32
  by true e = ltb-true n 32 e
  by false e =
      let more : 2 ^ 32 ≤ 2 ^ n = pow-le-pow_right (omega arith) (ltb-false n 32 e) in
      let less : set < 2 ^ n = omega (arith, short, more) in
      let none : bit_and 0 1 ≡ 1 = ap (λ (k : ℕ). bit_and k 1) (sym (div-eq_of_lt less)) ∙ (bit_set_by_shift set n).1 is in
      absurd (omega (arith, and_zero_l 1, none))
