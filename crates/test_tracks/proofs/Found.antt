-- Where a track of these items and gaps is there, they can be laid, and the track that is laid of them is as good.
use Rattle.std.proofs.Common.{◌≡◌, ℕ, ◌<◌, ◌≤◌, Bool, false, List, [], ◌∷◌, length, Option, Some, None, IfSome, refl, sym, ap, ◌∙◌, arith, subst}
use Rattle.frame_meaning.specs.Cells.{same_number}
use Rattle.composables.specs.declared.items.ItemView.{ItemView}
use Rattle.composables.specs.declared.media.Table.{Table}
use Rattle.composables.specs.Good.{EachLiesIn, EachLinkOf, IsGood}
use Rattle.composables.specs.Items.{cells_of, items_of}
use Rattle.composables.specs.Joined.{IsTight}
use Rattle.composables.specs.Roomy.{IsRoomy}
use Rattle.composables.specs.TrackFacts.{EachHolds, IsKept, NumbersBelow, first_mark}
use Rattle.composables.specs.TrackState.{TrackState, next_past, next_past_all}
use Rattle.composables.proofs.Joining.{length-cells_of}
use Rattle.composables.proofs.MarkStanding.{tight_of}
use Rattle.test_tracks.specs.Laid.{CanBeLaid, Follows, IsLaid, IsLinked, Laid, NumbersRise, is_gap, number_after}

-- a gap begins these only where none is before them
abbrev Begins : Bool → List ItemView → Type 0
Begins gap [] = Unit {0}
Begins gap (v ∷ vs) = v.item ≡ None → gap ≡ false

alone : (vs : List ItemView) → Begins false vs
alone [] = tt
alone (v ∷ vs) = λ e. refl

no_two_gaps : (p q : Option ℕ) → same_number p q ≡ false → q ≡ None → is_gap p ≡ false
no_two_gaps None None h e = cc
no_two_gaps None (Some j) h e = cc
no_two_gaps (Some i) q h e = refl

after : (v : ItemView) (vs : List ItemView) → IsTight (v ∷ vs) → Begins (is_gap v.item) vs
after v [] t = tt
after v (w ∷ ws) t = no_two_gaps v.item w.item t.0

tight_rest : (v : ItemView) (vs : List ItemView) → IsTight (v ∷ vs) → IsTight vs
tight_rest v [] t = tt
tight_rest v (w ∷ ws) t = t.1

laid_from : (next : ℕ) (gap : Bool) (vs : List ItemView) → EachHolds vs → NumbersRise next vs → NumbersBelow 4294967295 vs → IsTight vs → Begins gap vs → Laid next gap vs
laid_from next gap [] each rise below tight begins = tt
laid_from next gap (v ∷ vs) each rise below tight begins = (
  each.0,
  one v.item begins rise.0 below.0,
  laid_from (number_after v.item next) (is_gap v.item) vs each.1 rise.1 below.1 (tight_rest v vs tight) (after v vs tight),
) where
  one : (o : Option ℕ) → (o ≡ None → gap ≡ false) → IfSome o (λ i. next ≤ i) → IfSome o (λ i. i < 4294967295) → Follows o next gap
  one None b r l = b refl
  one (Some i) b r l = (r, l)

below_more : (m n : ℕ) (vs : List ItemView) → m ≤ n → NumbersBelow m vs → NumbersBelow n vs
below_more m n [] le h = tt
below_more m n (v ∷ vs) le h = (one v.item h.0, below_more m n vs le h.1) where
  one : (o : Option ℕ) → IfSome o (λ i. i < m) → IfSome o (λ i. i < n)
  one None g = tt
  one (Some i) g = omega (arith, g, le)

past_least : (vs : List ItemView) (m n : ℕ) → m ≤ n → NumbersBelow n vs → next_past_all m vs ≤ n
past_least [] m n le h = le
past_least (v ∷ vs) m n le h = past_least vs (next_past m v.item) n (one v.item h.0) h.1 where
  one : (o : Option ℕ) → IfSome o (λ i. i < n) → next_past m o ≤ n
  one None g = le
  one (Some i) g = omega (arith, le, g)

cells_are : (t : TrackState) (vs : List ItemView) → IsKept t → items_of t.cells ≡ vs → t.cells ≡ cells_of vs
cells_are t vs kept items = sym kept.whole ∙ ap cells_of items

pub can-be : (table : Table) (n : ℕ) (vs : List ItemView) (u : TrackState) → NumbersRise 0 vs → IsLinked table n vs u → CanBeLaid vs
can-be table n vs u rise h =
    record {
      each = laid_from 0 false vs (subst EachHolds h.items h.good.kept.each) rise
          (below_more u.next_item 4294967295 vs (omega (arith, h.roomy.item)) (subst (λ (ws : List ItemView). NumbersBelow u.next_item ws) h.items h.good.kept.below))
          (subst (λ (ws : List ItemView). IsTight ws) h.items (tight_of u h.good.kept)) (alone vs);
      first = ap first_mark (sym h.items) ∙ h.good.kept.not_before;
      short = omega (arith, h.good.frames, length-cells_of vs, ap length (cells_are u vs h.good.kept h.items));
    }

pub is-good : (table : Table) (n : ℕ) (vs : List ItemView) (t u : TrackState) → IsLinked table n vs u → IsKept t → t.number ≡ n → items_of t.cells ≡ vs → t.next_item ≡ next_past_all 0 vs → t.next_link ≡ 0
    → IsGood table t × IsRoomy t
is-good table n vs t u h kept number items next link =
    let all : items_of u.cells ≡ items_of t.cells = h.items ∙ sym items in
    let same : t.cells ≡ u.cells = cells_are t vs kept items ∙ sym (cells_are u vs h.good.kept h.items) in
    let below = subst (λ (ws : List ItemView). NumbersBelow u.next_item ws) h.items h.good.kept.below in (
      record {
        kept = kept;
        ranges = subst (EachLiesIn table) all h.good.ranges;
        links = subst (λ (m : ℕ). EachLinkOf m (items_of t.cells)) (h.numbered ∙ sym number) (subst (EachLinkOf u.number) all h.good.links);
        frames = omega (arith, h.good.frames, ap length same);
        items = omega (arith, h.good.items, ap length all);
      },
      record {
        item = omega (arith, next, past_least vs 0 u.next_item (omega arith) below, h.roomy.item);
        link = omega (arith, link);
      },
    )

pub linked-of : (table : Table) (n : ℕ) (vs : List ItemView) (u : TrackState) → IsLaid table n vs u → IsLinked table n vs u
linked-of table n vs u h = record { numbered = h.numbered; items = h.items; good = h.good; roomy = h.roomy }
