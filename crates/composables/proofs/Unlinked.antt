-- Items and gaps of which none is linked.
use Rattle.std.proofs.Common.{◌≡◌, ℕ, zero, suc, ◌+◌, ◌<◌, Bool, true, false, ◌||◌, cond, List, [], ◌∷◌, ◌++◌, length, Option, Some, None, is_some, get_or, slice_get, add-one, sym, ap, ◌∙◌, arith, take, drop, refl, subst}
use Rattle.std.proofs.Math.ListN.{set}
use Rattle.frame_meaning.specs.declared.cells.Link.{Link}
use Rattle.frame_meaning.specs.Cells.{same_number}
use Rattle.composables.specs.declared.items.ItemView.{ItemView}
use Rattle.composables.specs.Good.{AllUnlinked}
use Rattle.composables.specs.Joined.{with_view, joined, push_view}

pub no_link : (o : Option Link) → is_some o ≡ false → o ≡ None
no_link None h = refl
no_link (Some l) h = cc

both_false : (a b : Bool) → (a || b) ≡ false → (a ≡ false) × (b ≡ false)
both_false true b h = cc
both_false false b h = (refl, h)

unlinked-with_view : (r : ItemView) (vs : List ItemView) → r.link ≡ None → AllUnlinked vs → AllUnlinked (with_view r vs)
unlinked-with_view r [] h u = (h, tt)
unlinked-with_view r (v ∷ vs) h u = by_test (same_number r.item v.item) where
  by_test : (b : Bool) → AllUnlinked (cond b (record r { len = r.len + v.len } ∷ vs) (r ∷ v ∷ vs))
  by_test true = (h, u.1)
  by_test false = (h, u)

unlinked-joined : (vs : List ItemView) → AllUnlinked vs → AllUnlinked (joined vs)
unlinked-joined [] u = tt
unlinked-joined (v ∷ vs) u = unlinked-with_view v (joined vs) u.0 (unlinked-joined vs u.1)

unlinked-push : (xs : List ItemView) (v : ItemView) → AllUnlinked xs → v.link ≡ None → AllUnlinked (push_view xs v)
unlinked-push [] v u h = (h, tt)
unlinked-push (r ∷ []) v u h = unlinked-with_view r (v ∷ []) u.0 (h, tt)
unlinked-push (r ∷ s ∷ rs) v u h = (u.0, unlinked-push (s ∷ rs) v u.1 h)

unlinked-append : (xs ys : List ItemView) → AllUnlinked xs → AllUnlinked ys → AllUnlinked (xs ++ ys)
unlinked-append [] ys u w = w
unlinked-append (x ∷ xs) ys u w = (u.0, unlinked-append xs ys u.1 w)

unlinked-take : (n : ℕ) (xs : List ItemView) → AllUnlinked xs → AllUnlinked (take n xs)
unlinked-take zero xs u = tt
unlinked-take (suc n) [] u = tt
unlinked-take (suc n) (x ∷ xs) u = (u.0, unlinked-take n xs u.1)

unlinked-drop : (n : ℕ) (xs : List ItemView) → AllUnlinked xs → AllUnlinked (drop n xs)
unlinked-drop zero xs u = u
unlinked-drop (suc n) [] u = tt
unlinked-drop (suc n) (x ∷ xs) u = unlinked-drop n xs u.1

unlinked-around : (xs ws : List ItemView) (from to : ℕ) → AllUnlinked xs → AllUnlinked ws → AllUnlinked (joined (take from xs ++ ws ++ drop to xs))
unlinked-around xs ws from to u w =
    unlinked-joined (take from xs ++ ws ++ drop to xs)
    (unlinked-append (take from xs ++ ws) (drop to xs) (unlinked-append (take from xs) ws (unlinked-take from xs u) w) (unlinked-drop to xs u))

unlinked-set : (xs : List ItemView) (i : ℕ) (w : ItemView) → w.link ≡ None → AllUnlinked xs → AllUnlinked (set xs i w)
unlinked-set [] i w h u = tt
unlinked-set (x ∷ xs) zero w h u = (h, u.1)
unlinked-set (x ∷ xs) (suc i) w h u = (u.0, unlinked-set xs i w h u.1)

unlinked-at : (xs : List ItemView) (i : ℕ) (w : ItemView) → slice_get xs i ≡ Some w → AllUnlinked xs → w.link ≡ None
unlinked-at [] i w e u = absurd (never e) where
  never : None ≡ Some w → ⊥
  never h = cc
unlinked-at (x ∷ xs) zero w e u = let same : w ≡ x = cc in ap (λ (v : ItemView). v.link) same ∙ u.0
unlinked-at (x ∷ xs) (suc i) w e u = unlinked-at xs i w e u.1

-- those up to an index, and one more
unlinked-suc : (xs : List ItemView) (i : ℕ) (d : ItemView) → i < length xs → (get_or xs i d).link ≡ None → AllUnlinked (take i xs) → AllUnlinked (take (suc i) xs)
unlinked-suc [] i d b h u = tt
unlinked-suc (x ∷ xs) zero d b h u = (h, tt)
unlinked-suc (x ∷ xs) (suc i) d b h u = (u.0, unlinked-suc xs i d (omega (arith, b)) h u.1)

pub unlinked-more : (xs : List ItemView) (i : ℕ) (d : ItemView) → i < length xs → (get_or xs i d).link ≡ None → AllUnlinked (take i xs) → AllUnlinked (take (i + 1) xs)
unlinked-more xs i d b h u = rw add-one (unlinked-suc xs i d b h u)

-- whether items may have a link, once one is put behind, these are put in, or one is given a link
pub push_unlinked : (xs zs : List ItemView) (v : ItemView) (a b : Bool) → (a ≡ false → AllUnlinked xs) → b ≡ is_some v.link → zs ≡ push_view xs v
    → (a || b) ≡ false → AllUnlinked zs
push_unlinked xs zs v a b u is e h =
    let two = both_false a b h in
    subst (λ (vs : List ItemView). AllUnlinked vs) (sym e) (unlinked-push xs v (u two.0) (no_link v.link (sym is ∙ two.1)))

pub put_unlinked : (xs zs ws : List ItemView) (from to : ℕ) (a b : Bool) → (a ≡ false → AllUnlinked xs) → (b ≡ false → AllUnlinked ws)
    → zs ≡ joined (take from xs ++ ws ++ drop to xs) → (a || b) ≡ false → AllUnlinked zs
put_unlinked xs zs ws from to a b u w e h =
    let two = both_false a b h in
    subst (λ (vs : List ItemView). AllUnlinked vs) (sym e) (unlinked-around xs ws from to (u two.0) (w two.1))

pub link_unlinked : (xs : List ItemView) (i : ℕ) (w : ItemView) (l : Option Link) (a b : Bool) → (a ≡ false → AllUnlinked xs) → b ≡ is_some l
    → (a || b) ≡ false → AllUnlinked (set xs i (record w { link = l }))
link_unlinked xs i w l a b u is h =
    let two = both_false a b h in
    unlinked-set xs i (record w { link = l }) (no_link l (sym is ∙ two.1)) (u two.0)

-- or is changed in another way
pub stays_unlinked : (xs : List ItemView) (i : ℕ) (w z : ItemView) → slice_get xs i ≡ Some w → z.link ≡ w.link → AllUnlinked xs → AllUnlinked (set xs i z)
stays_unlinked xs i w z e same u = unlinked-set xs i z (same ∙ unlinked-at xs i w e u) u
