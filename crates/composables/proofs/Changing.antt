-- Items and gaps of which one is changed in place.
use Rattle.std.proofs.Common.{◌≡◌, ℕ, zero, suc, ◌<◌, List, [], ◌∷◌, length, slice_get, sym, ap, ◌∙◌, arith, Option, Some, refl}
use Rattle.std.proofs.Math.ListN.{set}
use Rattle.frame_meaning.specs.Cells.{same_number}
use Rattle.composables.specs.declared.items.ItemView.{ItemView}
use Rattle.composables.specs.Items.{cells_of, items_of}
use Rattle.composables.specs.Joined.{IsTight, AllFilled, frames_in}
use Rattle.composables.specs.Changes.{changed_at}
use Rattle.composables.specs.declared.tracks.Track.TheInside.{Inside}
use Rattle.composables.specs.TrackInside.{IsTrack}
use Rattle.composables.proofs.Joining.{items_of-tight}

-- a change leaves an item or gap its number and its frames
pub record LeavesShape (change : ItemView → ItemView) : Type 0 where
  pub item : (v : ItemView) → (change v).item ≡ v.item
  pub len : (v : ItemView) → (change v).len ≡ v.len

set-changed : (change : ItemView → ItemView) (xs : List ItemView) (i : ℕ) (w : ItemView) → slice_get xs i ≡ Some w
    → set xs i (change w) ≡ changed_at change i xs
set-changed change [] i w e = refl
set-changed change (x ∷ xs) zero w e = let same : w ≡ x = cc in ap (λ (v : ItemView). change v ∷ xs) same
set-changed change (x ∷ xs) (suc i) w e = ap (λ zs. x ∷ zs) (set-changed change xs i w e)

pub frames_in-changed : (change : ItemView → ItemView) → LeavesShape change → (i : ℕ) (xs : List ItemView) → frames_in (changed_at change i xs) ≡ frames_in xs
frames_in-changed change k i [] = refl
frames_in-changed change k zero (x ∷ xs) = omega (arith, k.len x)
frames_in-changed change k (suc i) (x ∷ xs) = omega (arith, frames_in-changed change k i xs)

pub filled-changed : (change : ItemView → ItemView) → LeavesShape change → (i : ℕ) (xs : List ItemView) → AllFilled xs → AllFilled (changed_at change i xs)
filled-changed change k i [] f = tt
filled-changed change k zero (x ∷ xs) f = (omega (arith, k.len x, f.0), f.1)
filled-changed change k (suc i) (x ∷ xs) f = (f.0, filled-changed change k i xs f.1)

pub tight-changed : (change : ItemView → ItemView) → LeavesShape change → (i : ℕ) (xs : List ItemView) → IsTight xs → IsTight (changed_at change i xs)
tight-changed change k i [] t = tt
tight-changed change k zero (x ∷ []) t = tt
tight-changed change k (suc i) (x ∷ []) t = tt
tight-changed change k zero (x ∷ y ∷ ys) t = (ap (λ (o : Option ℕ). same_number o y.item) (k.item x) ∙ t.0, t.1)
tight-changed change k (suc zero) (x ∷ y ∷ ys) t =
    (ap (λ (o : Option ℕ). same_number x.item o) (k.item y) ∙ t.0, tight-changed change k zero (y ∷ ys) t.1)
tight-changed change k (suc (suc i)) (x ∷ y ∷ ys) t = (t.0, tight-changed change k (suc i) (y ∷ ys) t.1)

-- the items and gaps of a track, of which one is changed
pub record Changed (change : ItemView → ItemView) (i : ℕ) (xs zs : List ItemView) : Type 0 where
  pub tight : IsTight zs
  pub filled : AllFilled zs
  pub cells : cells_of zs ≡ cells_of (changed_at change i (items_of (cells_of xs)))

-- an index of the track's items and gaps is one of those kept
pub index_within : (t : Inside) (i : ℕ) → IsTrack t → i < length (items_of (cells_of t.items)) → i < length t.items
index_within t i v h = omega (arith, h, ap length (items_of-tight t.items v.filled v.tight))

pub change_keeps : (change : ItemView → ItemView) (t : Inside) (i : ℕ) (w : ItemView) → LeavesShape change → IsTrack t
    → slice_get t.items i ≡ Some w → Changed change i t.items (set t.items i (change w))
change_keeps change t i w k v e =
    let xs = t.items in
    let is = set-changed change xs i w e in
    record {
      tight = rw is (tight-changed change k i xs v.tight);
      filled = rw is (filled-changed change k i xs v.filled);
      cells = ap cells_of (is ∙ sym (ap (changed_at change i) (items_of-tight xs v.filled v.tight)));
    }
