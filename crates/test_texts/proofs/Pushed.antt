-- Track 0 with items of one frame each, for the tests.
use Rattle.std.proofs.Common.{◌≡◌, ℕ, zero, suc, ◌+◌, ◌<◌, ◌≤◌, max, List, [], ◌∷◌, ◌++◌, length, None, Option, Some, ap, sym, ◌∙◌, arith, refl, subst}
use Rattle.std.proofs.lemmas.Bool.{ne_eqb}
use Rattle.std.proofs.lemmas.List.{append-nil}
use Rattle.frame_meaning.specs.declared.cells.Cell.{Cell}
use Rattle.frame_meaning.specs.declared.cells.What.TheVariants.{Media}
use Rattle.composables.specs.declared.items.ItemView.{ItemView}
use Rattle.composables.specs.declared.media.Table.{Table}
use Rattle.composables.specs.declared.TheConstants.{MAX_ITEMS}
use Rattle.composables.specs.Bounds.{bounds_of}
use Rattle.composables.specs.Good.{EachLiesIn, EachLinkOf, LiesIn}
use Rattle.composables.specs.Items.{cells_of, items_of, view_cells}
use Rattle.composables.specs.Joined.{AllFilled, IsTight, frames_in}
use Rattle.composables.specs.TrackFacts.{Apart, EachHolds, Holds, IsKept, Lacks, NumbersBelow, first_mark, right_reach}
use Rattle.composables.specs.TrackState.{TrackState, pushed}
use Rattle.composables.specs.Views.{clip_view}
use Rattle.composables.proofs.Joining.{cells_of-append, items_of-tight, length-cells_of}
use Rattle.edit_apply.specs.RoomTracks.{IsTrackOf}

abbrev pub frame_view : ℕ → ItemView
frame_view k = clip_view k (Media 0) 0 1

-- so many such items, numbered from here
pub row_from : ℕ → ℕ → List ItemView
row_from n zero = []
row_from n (suc k) = frame_view n ∷ row_from (n + 1) k

row-more : (n k : ℕ) → row_from n (k + 1) ≡ row_from n k ++ frame_view (n + k) ∷ []
unfolding row_from
row-more n zero = let e : n ≡ n + 0 = omega arith in ap (λ (m : ℕ). frame_view m ∷ []) e
row-more n (suc k) =
    let e : n + 1 + k ≡ n + suc k = omega arith in
    let f : suc k + 1 ≡ suc (k + 1) = omega arith in
    ap (row_from n) f ∙ ap (λ (vs : List ItemView). frame_view n ∷ vs) (row-more (n + 1) k ∙ ap (λ (m : ℕ). row_from (n + 1) k ++ frame_view m ∷ []) e)

row-filled : (n k : ℕ) → AllFilled (row_from n k)
unfolding row_from
row-filled n zero = tt
row-filled n (suc k) = (omega arith, row-filled (n + 1) k)

row-frames : (n k : ℕ) → frames_in (row_from n k) ≡ k
unfolding row_from
row-frames n zero = refl
row-frames n (suc k) = omega (arith, row-frames (n + 1) k)

row-count : (n k : ℕ) → length (row_from n k) ≡ k
unfolding row_from
row-count n zero = refl
row-count n (suc k) = omega (arith, row-count (n + 1) k)

row-tight : (n k : ℕ) → IsTight (row_from n k)
unfolding row_from
row-tight n zero = tt
row-tight n (suc zero) = tt
row-tight n (suc (suc k)) = (ne_eqb n (n + 1) (λ e. absurd (omega (arith, e))), row-tight (n + 1) (suc k))

first_row : (n k : ℕ) → first_mark (row_from n k) ≡ None
unfolding row_from
first_row n zero = refl
first_row n (suc k) = refl

row-holds : (n k : ℕ) → EachHolds (row_from n k)
unfolding row_from
row-holds n zero = tt
row-holds n (suc k) = (subst (Holds (frame_view n)) (sym (first_row (n + 1) k)) one, row-holds (n + 1) k) where
  one : Holds (frame_view n) None
  one = record { filled = omega arith; shows = tt; mark_filled = tt; room = omega arith; source = (omega arith, omega arith); head_no_nest = tt; tail_no_nest = tt }

row-lacks : (i n k : ℕ) → i < n → Lacks i (row_from n k)
unfolding row_from
row-lacks i n zero h = tt
row-lacks i n (suc k) h = (other, row-lacks i (n + 1) k (omega (arith, h))) where
  other : (Some n ≡ Some i) → ⊥
  other e = let same : n ≡ i = cc in omega (arith, same, h)

row-apart : (n k : ℕ) → Apart (row_from n k)
unfolding row_from
row-apart n zero = tt
row-apart n (suc k) = (row-lacks n (n + 1) k (omega arith), row-apart (n + 1) k)

row-below : (n k : ℕ) → NumbersBelow (n + k) (row_from n k)
unfolding row_from
row-below n zero = tt
row-below n (suc k) =
    let e : n + 1 + k ≡ n + suc k = omega arith in
    (omega arith, subst (λ (m : ℕ). NumbersBelow m (row_from (n + 1) k)) e (row-below (n + 1) k))

row-lies : (table : Table) (n k : ℕ) → bounds_of table (Media 0) ≡ Some (0, 86400) → EachLiesIn table (row_from n k)
unfolding row_from
row-lies table n zero media = tt
row-lies table n (suc k) media =
    (subst (λ (r : Option (ℕ × ℕ)). LiesIn r 0 1 0 right) (sym media) (omega arith, reach), row-lies table (n + 1) k media) where
      right : ℕ
      right = right_reach (first_mark (row_from (n + 1) k))

      reach : 0 + 1 + right ≤ 86400
      reach = let none : right ≡ 0 = ap right_reach (first_row (n + 1) k) in omega (arith, none)

row-linked : (number n k : ℕ) → EachLinkOf number (row_from n k)
unfolding row_from
row-linked number n zero = tt
row-linked number n (suc k) = (tt, row-linked number (n + 1) k)

pub row_track : ℕ → TrackState
row_track k = record { number = 0; cells = cells_of (row_from 0 k); next_item = k; next_link = 0 }

row-items : (k : ℕ) → items_of (cells_of (row_from 0 k)) ≡ row_from 0 k
row-items k = items_of-tight (row_from 0 k) (row-filled 0 k) (row-tight 0 k)

row-length : (k : ℕ) → length (cells_of (row_from 0 k)) ≡ k
row-length k = length-cells_of (row_from 0 k) ∙ row-frames 0 k

by-items : (P : List ItemView → Type 0) (k : ℕ) → P (row_from 0 k) → P (items_of (cells_of (row_from 0 k)))
by-items P k h = subst P (sym (row-items k)) h

row-kept : (k : ℕ) → k ≤ MAX_ITEMS → IsKept (row_track k)
unfolding row_track
row-kept k few = record {
  whole = ap cells_of (row-items k);
  not_before = by-items (λ (vs : List ItemView). first_mark vs ≡ None) k (first_row 0 k);
  each = by-items EachHolds k (row-holds 0 k);
  apart = by-items Apart k (row-apart 0 k);
  below = by-items (NumbersBelow k) k (let e : 0 + k ≡ k = omega arith in subst (λ (m : ℕ). NumbersBelow m (row_from 0 k)) e (row-below 0 k));
  short = omega (arith, few, row-length k);
}

row-good : (table : Table) (k : ℕ) → k ≤ MAX_ITEMS → bounds_of table (Media 0) ≡ Some (0, 86400) → IsTrackOf table 0 (row_track k)
unfolding row_track
row-good table k few media = record {
  good = record {
    kept = row-kept k few;
    ranges = by-items (EachLiesIn table) k (row-lies table 0 k media);
    links = by-items (EachLinkOf 0) k (row-linked 0 0 k);
    frames = omega (arith, few, row-length k);
    items = omega (arith, few, ap length (row-items k), row-count 0 k);
  };
  number_is = refl;
}

-- a track of so many
pub record IsRow (k : ℕ) (t : TrackState) : Type 0 where
  pub is : t ≡ row_track k

pub row-track : (table : Table) (t : TrackState) (k : ℕ) → IsRow k t → k ≤ MAX_ITEMS → bounds_of table (Media 0) ≡ Some (0, 86400) → IsTrackOf table 0 t
row-track table t k r few media = subst (IsTrackOf table 0) (sym r.is) (row-good table k few media)

pub row-first : (t : TrackState) → t ≡ record { number = 0; cells = []; next_item = 0; next_link = 0 } → IsRow 0 t
unfolding row_track row_from
row-first t e = record { is = e }

pub row-next : (t : TrackState) (v : ItemView) (k : ℕ) → IsRow k t → v ≡ frame_view k → IsRow (k + 1) (pushed t v)
unfolding row_track
row-next t v k r e = record { is = ap (λ (u : TrackState). pushed u v) r.is ∙ ap (pushed (row_track k)) e ∙ one } where
  cells : cells_of (row_from 0 k) ++ view_cells (frame_view k) ≡ cells_of (row_from 0 (k + 1))
  cells =
      ap (λ (cs : List Cell). cells_of (row_from 0 k) ++ cs) (sym (append-nil (view_cells (frame_view k))))
      ∙ sym (ap cells_of (row-more 0 k ∙ ap (λ (m : ℕ). row_from 0 k ++ frame_view m ∷ []) (let f : 0 + k ≡ k = omega arith in f)) ∙ cells_of-append (row_from 0 k) (frame_view k ∷ []))

  next : max k (k + 1) ≡ k + 1
  next = omega arith

  one : pushed (row_track k) (frame_view k) ≡ row_track (k + 1)
  one = ap (λ (cs : List Cell). record (row_track k) { cells = cs; next_item = max k (k + 1) }) cells ∙ ap (λ (m : ℕ). record (row_track (k + 1)) { next_item = m }) next
