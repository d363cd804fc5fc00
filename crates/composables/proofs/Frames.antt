-- Frames of items and gaps that are put one after another.
use Rattle.std.proofs.Common.{◌≡◌, ℕ, zero, suc, ◌+◌, ◌<◌, ◌≤◌, Bool, true, false, cond, List, [], ◌∷◌, ◌++◌, length, slice_get, None, Some, refl, sym, ap, ◌∙◌, arith, take, drop, get_or, add-one, sum_by, ◌-◌}
use Rattle.std.proofs.Math.ListN.{set}
use Rattle.std.proofs.lemmas.List.Sums.{sum_by-cons}
use Rattle.frame_meaning.specs.Cells.{same_number}
use Rattle.frame_meaning.specs.declared.frames.Side.TheVariants.{Dark}
use Rattle.composables.specs.declared.items.ItemView.{ItemView}
use Rattle.composables.specs.Joined.{with_view, joined, push_view, frames_in}

-- the places that they span
pub frames_in-sum : (vs : List ItemView) → sum_by (λ (v : ItemView). v.len) vs ≡ frames_in vs
frames_in-sum [] = refl
frames_in-sum (v ∷ vs) = omega (arith, sum_by-cons (λ (w : ItemView). w.len) v vs, frames_in-sum vs)

pub frames_in-append : (xs ys : List ItemView) → frames_in (xs ++ ys) ≡ frames_in xs + frames_in ys
frames_in-append [] ys = omega arith
frames_in-append (x ∷ xs) ys = omega (arith, frames_in-append xs ys)

take_suc_more : (xs : List ItemView) (i : ℕ) (d : ItemView) → i < length xs → frames_in (take (suc i) xs) ≡ frames_in (take i xs) + (get_or xs i d).len
take_suc_more [] i d h = absurd (omega arith)
take_suc_more (x ∷ xs) zero d h = omega arith
take_suc_more (x ∷ xs) (suc i) d h = omega (arith, take_suc_more xs i d (omega arith))

pub frames_in-take_more : (xs : List ItemView) (i : ℕ) (d : ItemView) → i < length xs → frames_in (take (i + 1) xs) ≡ frames_in (take i xs) + (get_or xs i d).len
frames_in-take_more xs i d h = rw add-one (take_suc_more xs i d h)

pub frames_in-take_le : (n : ℕ) (xs : List ItemView) → frames_in (take n xs) ≤ frames_in xs
frames_in-take_le zero xs = omega arith
frames_in-take_le (suc n) [] = omega arith
frames_in-take_le (suc n) (x ∷ xs) = omega (arith, frames_in-take_le n xs)

-- up to an index, and with the one there
pub frames_at : (xs : List ItemView) (i : ℕ) (v : ItemView) → slice_get xs i ≡ Some v → frames_in (take (i + 1) xs) ≡ frames_in (take i xs) + v.len
frames_at xs i v e = rw add-one (at xs i e) where
  at : (ys : List ItemView) (k : ℕ) → slice_get ys k ≡ Some v → frames_in (take (suc k) ys) ≡ frames_in (take k ys) + v.len
  at [] k f = absurd (never f) where
    never : None ≡ Some v → ⊥
    never h = cc
  at (y ∷ ys) zero f = let same : v ≡ y = cc in omega (arith, ap (λ (w : ItemView). w.len) same)
  at (y ∷ ys) (suc k) f = omega (arith, at ys k f)

pub frames_in-drop : (xs : List ItemView) (i : ℕ) (d : ItemView) → i < length xs → frames_in (drop i xs) ≡ (get_or xs i d).len + frames_in (drop (suc i) xs)
frames_in-drop [] i d h = absurd (omega arith)
frames_in-drop (x ∷ xs) zero d h = refl
frames_in-drop (x ∷ xs) (suc i) d h = frames_in-drop xs i d (omega arith)

pub drop_at : (xs : List ItemView) (i : ℕ) (d : ItemView) → i < length xs → drop i xs ≡ get_or xs i d ∷ drop (suc i) xs
drop_at [] i d h = absurd (omega arith)
drop_at (x ∷ xs) zero d h = refl
drop_at (x ∷ xs) (suc i) d h = drop_at xs i d (omega arith)

frames_in-split : (n : ℕ) (xs : List ItemView) → frames_in (take n xs) + frames_in (drop n xs) ≡ frames_in xs
frames_in-split zero xs = omega arith
frames_in-split (suc n) [] = omega arith
frames_in-split (suc n) (x ∷ xs) = omega (arith, frames_in-split n xs)

-- those before an index, those up to another, and those from there on
pub frames_in-between : (from to : ℕ) (xs : List ItemView) → from ≤ to
    → frames_in (take from xs) + frames_in (take (to - from) (drop from xs)) + frames_in (drop to xs) ≡ frames_in xs
frames_in-between zero to xs h = let e : to - 0 ≡ to = omega arith in rw e (omega (arith, frames_in-split to xs))
frames_in-between (suc f) zero xs h = absurd (omega (arith, h))
frames_in-between (suc f) (suc t) [] h = omega (arith, frames_in-take_le (suc t - suc f) [])
frames_in-between (suc f) (suc t) (x ∷ xs) h =
    let e : suc t - suc f ≡ t - f = omega arith in
    rw e (omega (arith, frames_in-between f t xs (omega (arith, h))))

frames_in-onto : (r : ItemView) (vs : List ItemView) → frames_in (with_view r vs) ≡ r.len + frames_in vs
frames_in-onto r [] = omega arith
frames_in-onto r (v ∷ vs) = by_test (same_number r.item v.item) where
  by_test : (b : Bool) → frames_in (cond b (record r { len = r.len + v.len } ∷ vs) (r ∷ v ∷ vs)) ≡ r.len + frames_in (v ∷ vs)
  by_test true = omega arith
  by_test false = omega arith

pub frames_in-joined : (vs : List ItemView) → frames_in (joined vs) ≡ frames_in vs
frames_in-joined [] = refl
frames_in-joined (v ∷ vs) = omega (arith, frames_in-onto v (joined vs), frames_in-joined vs)

frames_in-with_view : (r v : ItemView) → frames_in (with_view r (v ∷ [])) ≡ r.len + v.len
frames_in-with_view r v = by_test (same_number r.item v.item) where
  by_test : (b : Bool) → frames_in (cond b (record r { len = r.len + v.len } ∷ []) (r ∷ v ∷ [])) ≡ r.len + v.len
  by_test true = omega arith
  by_test false = omega arith

pub frames_in-push : (xs : List ItemView) (v : ItemView) → frames_in (push_view xs v) ≡ frames_in xs + v.len
frames_in-push [] v = omega arith
frames_in-push (x ∷ []) v = omega (arith, frames_in-with_view x v)
frames_in-push (x ∷ y ∷ ys) v = omega (arith, frames_in-push (y ∷ ys) v)

-- the last item or gap belongs together with what comes behind it
last_joined_at : (x : ItemView) (xs : List ItemView) (v d : ItemView) → same_number (get_or (x ∷ xs) (length xs) d).item v.item ≡ true
    → set (x ∷ xs) (length xs) (record (get_or (x ∷ xs) (length xs) d) { len = (get_or (x ∷ xs) (length xs) d).len + v.len }) ≡ push_view (x ∷ xs) v
last_joined_at x [] v d h = sym (ap (λ (b : Bool). cond b (record x { len = x.len + v.len } ∷ []) (x ∷ v ∷ [])) h)
last_joined_at x (y ∷ ys) v d h = ap (λ zs. x ∷ zs) (last_joined_at y ys v d h)

pub last_joined : (xs : List ItemView) (v w : ItemView) (i : ℕ) → suc i ≡ length xs → w ≡ get_or xs i w → same_number w.item v.item ≡ true
    → set xs i (record w { len = w.len + v.len }) ≡ push_view xs v
last_joined [] v w i e is h = absurd (omega arith)
last_joined (x ∷ xs) v w i e is h =
    let n : i ≡ length xs = omega arith in
    let at : w ≡ get_or (x ∷ xs) (length xs) w = is ∙ ap (λ (k : ℕ). get_or (x ∷ xs) k w) n in
    ap (λ (k : ℕ). set (x ∷ xs) k (record w { len = w.len + v.len })) n
    ∙ (ap (λ (u : ItemView). set (x ∷ xs) (length xs) (record u { len = u.len + v.len })) at
    ∙ last_joined_at x xs v w (sym (ap (λ (u : ItemView). same_number u.item v.item) at) ∙ h))

last_apart_at : (x : ItemView) (xs : List ItemView) (v d : ItemView) → same_number (get_or (x ∷ xs) (length xs) d).item v.item ≡ false
    → (x ∷ xs) ++ v ∷ [] ≡ push_view (x ∷ xs) v
last_apart_at x [] v d h = sym (ap (λ (b : Bool). cond b (record x { len = x.len + v.len } ∷ []) (x ∷ v ∷ [])) h)
last_apart_at x (y ∷ ys) v d h = ap (λ zs. x ∷ zs) (last_apart_at y ys v d h)

pub last_apart : (xs : List ItemView) (v w : ItemView) (i : ℕ) → suc i ≡ length xs → w ≡ get_or xs i w → same_number w.item v.item ≡ false
    → xs ++ v ∷ [] ≡ push_view xs v
last_apart [] v w i e is h = refl
last_apart (x ∷ xs) v w i e is h =
    let n : i ≡ length xs = omega arith in
    let at : w ≡ get_or (x ∷ xs) (length xs) w = is ∙ ap (λ (k : ℕ). get_or (x ∷ xs) k w) n in
    last_apart_at x xs v w (sym (ap (λ (u : ItemView). same_number u.item v.item) at) ∙ h)

pub first_pushed : (xs : List ItemView) (v : ItemView) → length xs ≡ 0 → xs ++ v ∷ [] ≡ push_view xs v
first_pushed [] v h = refl
first_pushed (x ∷ xs) v h = absurd (omega arith)

pub len_below : (xs : List ItemView) (i : ℕ) (d : ItemView) → i < length xs → (get_or xs i d).len ≤ frames_in xs
len_below [] i d h = absurd (omega arith)
len_below (x ∷ xs) zero d h = omega arith
len_below (x ∷ xs) (suc i) d h = omega (arith, len_below xs i d (omega arith))

pub read_same : (xs : List ItemView) (i : ℕ) (u w : ItemView) → i < length xs → u ≡ get_or xs i u → w ≡ get_or xs i w → u ≡ w
read_same [] i u w h e f = absurd (omega arith)
read_same (x ∷ xs) zero u w h e f = e ∙ sym f
read_same (x ∷ xs) (suc i) u w h e f = read_same xs i u w (omega arith) e f

-- what a look past the end of items and gaps gives
abbrev pub no_view : ItemView
no_view = record { item = None; first = Dark; len = 0; mark = None; link = None }
