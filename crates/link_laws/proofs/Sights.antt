-- The links of cells with the offsets of their cells.
use Rattle.std.proofs.Common.{◌≡◌, ℕ, zero, suc, ◌+◌, ◌⊎◌, inl, inr, ⊎_elim, ℤ, pos, neg_ℤ, ◌+ℤ◌, ◌-ℤ◌, Bool, true, false, cond, List, [], ◌∷◌, ◌++◌, take, drop, map, length, Option, Some, None, refl, sym, ap, ◌∙◌, arith, subst}
use Rattle.std.proofs.Math.IntN.{+ℤ_assoc, +ℤ_comm, +ℤ_idl, +ℤ_invl, +ℤ_invr, neg_ℤ-+ℤ, pos-+ℤ-pos}
use Rattle.frame_meaning.specs.Render.{cell_at}
use Rattle.frame_meaning.specs.declared.cells.Cell.{Cell}
use Rattle.frame_meaning.specs.declared.cells.Link.{Link}
use Rattle.frame_meaning.specs.declared.cells.Mark.{Mark}
use Rattle.frame_meaning.specs.declared.cells.What.{What}
use Rattle.frame_meaning.specs.declared.frames.Side.{Side}
use Rattle.frame_meaning.specs.declared.frames.Side.TheVariants.{Dark, Pic}
use Rattle.frame_meaning.specs.Cells.{next_side, same_number, span}
use Rattle.frame_meaning.specs.Splice.{Rule, renumbered, with_marks}
use Rattle.composables.specs.declared.items.ItemView.{ItemView}
use Rattle.composables.specs.Good.{AllUnlinked}
use Rattle.composables.specs.Items.{cells_of, marked, view_cells}
use Rattle.composables.specs.Ranges.{offset_of}

-- cells from a place on have a cell with this link and this offset
abbrev pub Shows : ℕ → List Cell → Link → Option ℤ → Type 0
Shows p [] l o = ⊥
Shows p (c ∷ cs) l o = ((c.link ≡ Some l) × (offset_of c.side p ≡ o)) ⊎ Shows (p + 1) cs l o

pub shows-at : (p q : ℕ) (cs : List Cell) (l : Link) (o : Option ℤ) → p ≡ q → Shows p cs l o → Shows q cs l o
shows-at p q cs l o e h = subst (λ (n : ℕ). Shows n cs l o) e h

pub shows-append : (p : ℕ) (cs ds : List Cell) (l : Link) (o : Option ℤ) → Shows p (cs ++ ds) l o → Shows p cs l o ⊎ Shows (p + length cs) ds l o
shows-append p [] ds l o h = inr (shows-at p (p + 0) ds l o (omega arith) h)
shows-append p (c ∷ cs) ds l o (inl h) = inl (inl h)
shows-append p (c ∷ cs) ds l o (inr h) =
    ⊎_elim (λ x. inl (inr x)) (λ y. inr (shows-at (p + 1 + length cs) (p + suc (length cs)) ds l o (omega arith) y)) (shows-append (p + 1) cs ds l o h)

pub shows-left : (p : ℕ) (cs ds : List Cell) (l : Link) (o : Option ℤ) → Shows p cs l o → Shows p (cs ++ ds) l o
shows-left p [] ds l o h = absurd h
shows-left p (c ∷ cs) ds l o (inl h) = inl h
shows-left p (c ∷ cs) ds l o (inr h) = inr (shows-left (p + 1) cs ds l o h)

pub shows-take : (n p : ℕ) (cs : List Cell) (l : Link) (o : Option ℤ) → Shows p (take n cs) l o → Shows p cs l o
shows-take zero p cs l o h = absurd h
shows-take (suc n) p [] l o h = absurd h
shows-take (suc n) p (c ∷ cs) l o (inl h) = inl h
shows-take (suc n) p (c ∷ cs) l o (inr h) = inr (shows-take n (p + 1) cs l o h)

pub shows-drop : (n p : ℕ) (cs : List Cell) (l : Link) (o : Option ℤ) → Shows (p + n) (drop n cs) l o → Shows p cs l o
shows-drop zero p cs l o h = shows-at (p + 0) p cs l o (omega arith) h
shows-drop (suc n) p [] l o h = absurd h
shows-drop (suc n) p (c ∷ cs) l o h = inr (shows-drop n (p + 1) cs l o (shows-at (p + suc n) (p + 1 + n) (drop n cs) l o (omega arith) h))

-- cells that have the same links and sides
abbrev pub Alike : List Cell → List Cell → Type 0
Alike [] [] = Unit {0}
Alike [] (d ∷ ds) = ⊥
Alike (c ∷ cs) [] = ⊥
Alike (c ∷ cs) (d ∷ ds) = (c.link ≡ d.link) × (c.side ≡ d.side) × Alike cs ds

pub alike-self : (cs : List Cell) → Alike cs cs
alike-self [] = tt
alike-self (c ∷ cs) = (refl, refl, alike-self cs)

pub alike-sym : (cs ds : List Cell) → Alike cs ds → Alike ds cs
alike-sym [] [] h = tt
alike-sym [] (d ∷ ds) h = absurd h
alike-sym (c ∷ cs) [] h = absurd h
alike-sym (c ∷ cs) (d ∷ ds) h = (sym h.0, sym h.1, alike-sym cs ds h.2)

pub alike-then : (bs cs ds : List Cell) → Alike bs cs → Alike cs ds → Alike bs ds
alike-then [] [] ds h k = k
alike-then [] (c ∷ cs) ds h k = absurd h
alike-then (b ∷ bs) [] ds h k = absurd h
alike-then (b ∷ bs) (c ∷ cs) [] h k = absurd k
alike-then (b ∷ bs) (c ∷ cs) (d ∷ ds) h k = (h.0 ∙ k.0, h.1 ∙ k.1, alike-then bs cs ds h.2 k.2)

pub alike-take : (n : ℕ) (cs ds : List Cell) → Alike cs ds → Alike (take n cs) (take n ds)
alike-take zero cs ds h = tt
alike-take (suc n) [] [] h = tt
alike-take (suc n) [] (d ∷ ds) h = absurd h
alike-take (suc n) (c ∷ cs) [] h = absurd h
alike-take (suc n) (c ∷ cs) (d ∷ ds) h = (h.0, h.1, alike-take n cs ds h.2)

pub alike-drop : (n : ℕ) (cs ds : List Cell) → Alike cs ds → Alike (drop n cs) (drop n ds)
alike-drop zero cs ds h = h
alike-drop (suc n) [] [] h = tt
alike-drop (suc n) [] (d ∷ ds) h = absurd h
alike-drop (suc n) (c ∷ cs) [] h = absurd h
alike-drop (suc n) (c ∷ cs) (d ∷ ds) h = alike-drop n cs ds h.2

pub alike-length : (cs ds : List Cell) → Alike cs ds → length cs ≡ length ds
alike-length [] [] h = refl
alike-length [] (d ∷ ds) h = absurd h
alike-length (c ∷ cs) [] h = absurd h
alike-length (c ∷ cs) (d ∷ ds) h = ap suc (alike-length cs ds h.2)

pub alike-marks : (rule : Rule) (x y p : ℕ) (cs : List Cell) → Alike (with_marks rule x y p cs) cs
alike-marks rule x y p [] = tt
alike-marks rule x y p (c ∷ cs) = (refl, refl, alike-marks rule x y (p + 1) cs)

link_as : (s : Option ℕ) (fresh : ℕ) (c : Cell) → ((renumbered s fresh c).link ≡ c.link) × ((renumbered s fresh c).side ≡ c.side)
link_as None fresh c = (refl, refl)
link_as (Some i) fresh c = by (same_number c.item (Some i)) where
  by : (b : Bool) → ((cond b (record c { item = Some fresh }) c).link ≡ c.link) × ((cond b (record c { item = Some fresh }) c).side ≡ c.side)
  by true = (refl, refl)
  by false = (refl, refl)

pub alike-numbers : (s : Option ℕ) (fresh : ℕ) (cs : List Cell) → Alike (map (renumbered s fresh) cs) cs
alike-numbers s fresh [] = tt
alike-numbers s fresh (c ∷ cs) = let k = link_as s fresh c in (k.0, k.1, alike-numbers s fresh cs)

pub shows-alike : (p : ℕ) (cs ds : List Cell) (l : Link) (o : Option ℤ) → Alike cs ds → Shows p cs l o → Shows p ds l o
shows-alike p [] [] l o a h = absurd h
shows-alike p [] (d ∷ ds) l o a h = absurd h
shows-alike p (c ∷ cs) [] l o a h = absurd a
shows-alike p (c ∷ cs) (d ∷ ds) l o a (inl h) = inl (sym a.0 ∙ h.0, ap (λ (s : Side What). offset_of s p) (sym a.1) ∙ h.1)
shows-alike p (c ∷ cs) (d ∷ ds) l o a (inr h) = inr (shows-alike (p + 1) cs ds l o a.2 h)

-- offsets

sum_neg : (a b e : ℤ) → (a +ℤ e) +ℤ neg_ℤ (b +ℤ e) ≡ a +ℤ neg_ℤ b
sum_neg a b e =
    ap (λ (z : ℤ). (a +ℤ e) +ℤ z) (neg_ℤ-+ℤ b e ∙ +ℤ_comm (neg_ℤ b) (neg_ℤ e))
    ∙ (+ℤ_assoc a e (neg_ℤ e +ℤ neg_ℤ b)
    ∙ ap (λ (z : ℤ). a +ℤ z) (sym (+ℤ_assoc e (neg_ℤ e) (neg_ℤ b)) ∙ (ap (λ (z : ℤ). z +ℤ neg_ℤ b) (+ℤ_invr e) ∙ +ℤ_idl (neg_ℤ b))))

-- the same number of frames more on both sides
pub int-shift : (p s n : ℕ) → pos (p + n) -ℤ pos (s + n) ≡ pos p -ℤ pos s
int-shift p s n =
    ap (λ (z : ℤ). z +ℤ neg_ℤ (pos (s + n))) (sym (pos-+ℤ-pos p n))
    ∙ (ap (λ (z : ℤ). (pos p +ℤ pos n) +ℤ neg_ℤ z) (sym (pos-+ℤ-pos s n)) ∙ sum_neg (pos p) (pos s) (pos n))

sum_moved : (y z k n : ℤ) → (z +ℤ k) +ℤ n ≡ ((y +ℤ k) +ℤ n) +ℤ (z +ℤ neg_ℤ y)
sum_moved y z k n =
    let w : ℤ = k +ℤ n in
    let whole : (neg_ℤ y +ℤ (y +ℤ w)) ≡ w = sym (+ℤ_assoc (neg_ℤ y) y w) ∙ (ap (λ (x : ℤ). x +ℤ w) (+ℤ_invl y) ∙ +ℤ_idl w) in
    let right : ((y +ℤ k) +ℤ n) +ℤ (z +ℤ neg_ℤ y) ≡ z +ℤ w =
    ap (λ (x : ℤ). x +ℤ (z +ℤ neg_ℤ y)) (+ℤ_assoc y k n)
    ∙ (+ℤ_comm (y +ℤ w) (z +ℤ neg_ℤ y)
    ∙ (+ℤ_assoc z (neg_ℤ y) (y +ℤ w) ∙ ap (λ (x : ℤ). z +ℤ x) whole)) in
    +ℤ_assoc z k n ∙ sym right

moved_int : (y z k s : ℕ) → pos (z + k) -ℤ pos s ≡ (pos (y + k) -ℤ pos s) +ℤ (pos z -ℤ pos y)
moved_int y z k s =
    ap (λ (x : ℤ). x +ℤ neg_ℤ (pos s)) (sym (pos-+ℤ-pos z k))
    ∙ (sum_moved (pos y) (pos z) (pos k) (neg_ℤ (pos s))
    ∙ ap (λ (x : ℤ). (x +ℤ neg_ℤ (pos s)) +ℤ (pos z -ℤ pos y)) (pos-+ℤ-pos y k))

pub offset-next : (s : Side What) (p : ℕ) → offset_of (next_side s) (p + 1) ≡ offset_of s p
offset-next Dark p = refl
offset-next (Pic w s) p = ap Some (int-shift p s 1)

-- the offset of what stood so far behind y, and stands as far behind z
abbrev pub rebased : ℕ → ℕ → Option ℤ → Option ℤ
rebased y z None = None
rebased y z (Some d) = Some (d +ℤ (pos z -ℤ pos y))

pub offset-moved : (s : Side What) (y z k : ℕ) → offset_of s (z + k) ≡ rebased y z (offset_of s (y + k))
offset-moved Dark y z k = refl
offset-moved (Pic w s) y z k = ap Some (moved_int y z k s)

shows_moved : (y z k : ℕ) (cs : List Cell) (l : Link) (o : Option ℤ) → Shows (z + k) cs l o → (b : Option ℤ) × Shows (y + k) cs l b × (o ≡ rebased y z b)
shows_moved y z k [] l o h = absurd h
shows_moved y z k (c ∷ cs) l o (inl h) = (offset_of c.side (y + k), inl (h.0, refl), sym h.1 ∙ offset-moved c.side y z k)
shows_moved y z k (c ∷ cs) l o (inr h) =
    let r : (b : Option ℤ) × Shows (y + (k + 1)) cs l b × (o ≡ rebased y z b) = shows_moved y z (k + 1) cs l o (shows-at (z + k + 1) (z + (k + 1)) cs l o (omega arith) h) in
    (r.0, inr (shows-at (y + (k + 1)) (y + k + 1) cs l r.0 (omega arith) r.1), r.2)

pub shows-moved : (y z : ℕ) (cs : List Cell) (l : Link) (o : Option ℤ) → Shows z cs l o → (b : Option ℤ) × Shows y cs l b × (o ≡ rebased y z b)
shows-moved y z cs l o h =
    let r = shows_moved y z 0 cs l o (shows-at z (z + 0) cs l o (omega arith) h) in
    (r.0, shows-at (y + 0) y cs l r.0 (omega arith) r.1, r.2)

-- the cells of an item or gap have one link and one offset
shows_span : (p : ℕ) (i : Option ℕ) (s : Side What) (k : Option Link) (n : ℕ) (l : Link) (o : Option ℤ) → Shows p (span i s k n) l o → (k ≡ Some l) × (offset_of s p ≡ o)
shows_span p i s k zero l o h = absurd h
shows_span p i s k (suc n) l o (inl h) = h
shows_span p i s k (suc n) l o (inr h) =
    let r = shows_span (p + 1) i (next_side s) k n l o h in
    (r.0, sym (offset-next s p) ∙ r.1)

shows_marked : (p : ℕ) (m : Option Mark) (cs : List Cell) (l : Link) (o : Option ℤ) → Shows p (marked m cs) l o → Shows p cs l o
shows_marked p m [] l o h = h
shows_marked p m (c ∷ cs) l o (inl h) = inl h
shows_marked p m (c ∷ cs) l o (inr h) = inr h

pub shows-view : (p : ℕ) (v : ItemView) (l : Link) (o : Option ℤ) → Shows p (view_cells v) l o → (v.link ≡ Some l) × (offset_of v.first p ≡ o)
shows-view p v l o h = shows_span p v.item v.first v.link v.len l o (shows_marked p v.mark (span v.item v.first v.link v.len) l o h)

pub none-some : (l : Link) (o : Option Link) → o ≡ None → o ≡ Some l → ⊥
none-some l o e f = Prim.grind (arith, e, f)

pub shows-none : (p : ℕ) (vs : List ItemView) (l : Link) (o : Option ℤ) → AllUnlinked vs → Shows p (cells_of vs) l o → ⊥
shows-none p [] l o u h = h
shows-none p (v ∷ vs) l o u h =
    ⊎_elim (λ x. none-some l v.link u.0 (shows-view p v l o x).0) (λ y. shows-none (p + length (view_cells v)) vs l o u.1 y) (shows-append p (view_cells v) (cells_of vs) l o h)

-- a cell by its place
shows_cell : (q p : ℕ) (cs : List Cell) (l : Link) → (cell_at cs p).link ≡ Some l → Shows q cs l (offset_of (cell_at cs p).side (q + p))
shows_cell q p [] l e = absurd (none-some l None refl e)
shows_cell q zero (c ∷ cs) l e = let z : q ≡ q + 0 = omega arith in inl (e, ap (λ (n : ℕ). offset_of c.side n) z)
shows_cell q (suc p) (c ∷ cs) l e =
    let z : q + 1 + p ≡ q + suc p = omega arith in
    inr (subst (λ (n : ℕ). Shows (q + 1) cs l (offset_of (cell_at cs p).side n)) z (shows_cell (q + 1) p cs l e))

pub shows-cell : (p : ℕ) (cs : List Cell) (l : Link) → (cell_at cs p).link ≡ Some l → Shows 0 cs l (offset_of (cell_at cs p).side p)
shows-cell p cs l e =
    let z : 0 + p ≡ p = omega arith in
    subst (λ (n : ℕ). Shows 0 cs l (offset_of (cell_at cs p).side n)) z (shows_cell 0 p cs l e)
