-- A dissolve put at a cut leaves a track, and a place lies in one item.
use Rattle.std.proofs.Common.{◌≡◌, ℕ, zero, suc, ◌+◌, ◌<◌, ◌≤◌, List, [], ◌∷◌, length, take, Option, Some, None, IfSome, refl, sym, ap, ◌∙◌, arith, subst, ◌⊎◌, inl, inr}
use Rattle.frame_meaning.specs.declared.cells.Mark.{Mark}
use Rattle.composables.specs.declared.items.ItemView.{ItemView}
use Rattle.composables.specs.declared.items.Place.{Place}
use Rattle.composables.specs.Items.{cells_of, items_of}
use Rattle.composables.specs.Joined.{joined, IsTight, AllFilled, frames_in}
use Rattle.composables.specs.Changes.{changed_at, changed_track, with_mark}
use Rattle.composables.specs.Places.{StandsAt}
use Rattle.composables.specs.Standing.{HaveRoom}
use Rattle.composables.specs.TrackFacts.{EachHolds, Apart, Lacks, NumbersBelow, IsKept, first_mark}
use Rattle.composables.specs.TrackState.{TrackState}
use Rattle.composables.proofs.Joining.{items_of-cells_of, items_of-tight, length-cells_of, tight-joined}
use Rattle.composables.proofs.Changing.{LeavesShape, frames_in-changed, filled-changed, tight-changed}

-- the frames before an index are no more than those before a later one
frames_rise : (i j : ℕ) (vs : List ItemView) → i ≤ j → frames_in (take i vs) ≤ frames_in (take j vs)
frames_rise zero j vs h = omega arith
frames_rise (suc i) zero vs h = absurd (omega (arith, h))
frames_rise (suc i) (suc j) [] h = omega arith
frames_rise (suc i) (suc j) (v ∷ vs) h = omega (arith, frames_rise i j vs (omega (arith, h)))

not_before : (vs : List ItemView) (p q : Place) (at : ℕ) → StandsAt vs p → StandsAt vs q → at < p.to → q.from ≤ at → q.index ≤ p.index
not_before vs p q at s r behind before = by_order (compare p.index q.index) where
  compare : (i j : ℕ) → (j ≤ i) ⊎ (i + 1 ≤ j)
  compare i j = grind arith

  by_order : (q.index ≤ p.index) ⊎ (p.index + 1 ≤ q.index) → q.index ≤ p.index
  by_order (inl h) = h
  by_order (inr h) = absurd (omega (arith, behind, before, s.to, r.from, frames_rise (p.index + 1) q.index vs h))

same_place : (i j a b c d : ℕ) → i ≡ j → a ≡ b → c ≡ d → ◌≡◌ {A = Place} (record { index = i; from = a; to = c }) (record { index = j; from = b; to = d })
same_place i j a b c d e f g = rw (e, f, g) refl

pub one_place : (vs : List ItemView) (p q : Place) (at : ℕ) → StandsAt vs p → StandsAt vs q → p.from ≤ at → at < p.to → q.from ≤ at → at < q.to → p ≡ q
one_place vs p q at s r a b c d =
    let index : p.index ≡ q.index = omega (arith, not_before vs p q at s r b c, not_before vs q p at r s d a) in
    same_place p.index q.index p.from q.from p.to q.to index
    (s.from ∙ (ap (λ (i : ℕ). frames_in (take i vs)) index ∙ sym r.from))
    (s.to ∙ (ap (λ (i : ℕ). frames_in (take (i + 1) vs)) index ∙ sym r.to))

-- a mark changes no number
lacks-marked : (n : ℕ) (mark : Option Mark) (i : ℕ) (vs : List ItemView) → Lacks n vs → Lacks n (changed_at (with_mark mark) i vs)
lacks-marked n mark i [] l = tt
lacks-marked n mark zero (v ∷ vs) l = l
lacks-marked n mark (suc i) (v ∷ vs) l = (l.0, lacks-marked n mark i vs l.1)

if-lacks-marked : (o : Option ℕ) (mark : Option Mark) (i : ℕ) (vs : List ItemView) → IfSome o (λ n. Lacks n vs) → IfSome o (λ n. Lacks n (changed_at (with_mark mark) i vs))
if-lacks-marked None mark i vs l = tt
if-lacks-marked (Some n) mark i vs l = lacks-marked n mark i vs l

apart-marked : (mark : Option Mark) (i : ℕ) (vs : List ItemView) → Apart vs → Apart (changed_at (with_mark mark) i vs)
apart-marked mark i [] a = tt
apart-marked mark zero (v ∷ vs) a = a
apart-marked mark (suc i) (v ∷ vs) a = (if-lacks-marked v.item mark i vs a.0, apart-marked mark i vs a.1)

below-marked : (next : ℕ) (mark : Option Mark) (i : ℕ) (vs : List ItemView) → NumbersBelow next vs → NumbersBelow next (changed_at (with_mark mark) i vs)
below-marked next mark i [] b = tt
below-marked next mark zero (v ∷ vs) b = b
below-marked next mark (suc i) (v ∷ vs) b = (b.0, below-marked next mark i vs b.1)

each-marked : (mark : Option Mark) (i : ℕ) (vs : List ItemView) → EachHolds vs → HaveRoom vs i mark → EachHolds (changed_at (with_mark mark) (suc i) vs)
each-marked mark i [] e h = absurd h
each-marked mark i (v ∷ []) e h = absurd h
each-marked mark zero (v ∷ w ∷ ws) e h = (h.0, (h.1, e.1.1))
each-marked mark (suc i) (v ∷ w ∷ ws) e h = (e.0, each-marked mark i (w ∷ ws) e.1 h)

first-marked : (mark : Option Mark) (i : ℕ) (vs : List ItemView) → first_mark (changed_at (with_mark mark) (suc i) vs) ≡ first_mark vs
first-marked mark i [] = refl
first-marked mark i (v ∷ vs) = refl

pub filled_of : (vs : List ItemView) → EachHolds vs → AllFilled vs
filled_of [] e = tt
filled_of (v ∷ vs) e = (e.0.filled, filled_of vs e.1)

-- the items and gaps of a track are tight
pub tight_of : (t : TrackState) → IsKept t → IsTight (items_of t.cells)
tight_of t k =
    let P : List ItemView → Type 0 = λ vs. IsTight vs in
    let is : joined (items_of t.cells) ≡ items_of t.cells = sym (items_of-cells_of (items_of t.cells) (filled_of (items_of t.cells) k.each)) ∙ ap items_of k.whole in
    subst P is (tight-joined (items_of t.cells))

pub kept-marked : (t : TrackState) (i : ℕ) (mark : Option Mark) → IsKept t → HaveRoom (items_of t.cells) i mark → IsKept (changed_track t (suc i) (with_mark mark))
kept-marked t i mark k h =
    let vs = items_of t.cells in
    let zs = changed_at (with_mark mark) (suc i) vs in
    let shape : LeavesShape (with_mark mark) = record { item = λ v. refl; len = λ v. refl } in
    let same : items_of (cells_of zs) ≡ zs = items_of-tight zs (filled-changed (with_mark mark) shape (suc i) vs (filled_of vs k.each)) (tight-changed (with_mark mark) shape (suc i) vs (tight_of t k)) in
    record {
      whole = ap cells_of same;
      not_before = rw same (first-marked mark i vs ∙ k.not_before);
      each = rw same (each-marked mark i vs k.each h);
      apart = rw same (apart-marked mark (suc i) vs k.apart);
      below = rw same (below-marked t.next_item mark (suc i) vs k.below);
      short = omega (arith, k.short, length-cells_of zs, length-cells_of vs, frames_in-changed (with_mark mark) shape (suc i) vs, ap length k.whole);
    }
