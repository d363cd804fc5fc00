-- Items and gaps joined are those of their cells.
use Rattle.std.proofs.Common.{◌≡◌, ℕ, zero, suc, ◌+◌, ◌<◌, ◌≤◌, Bool, true, false, cond, eqb, List, [], ◌∷◌, ◌++◌, length, Option, Some, None, IsNone, refl, sym, ap, subst, ◌∙◌, arith, take, drop, append_assoc}
use Rattle.std.specs.Option.{option_to_list}
use Rattle.std.proofs.lemmas.Grind.{flat_map-append}
use Rattle.std.proofs.lemmas.List.{length-append, append-nil}
use Rattle.std.proofs.lemmas.Bool.Decides.{nat_tests}
use Rattle.frame_meaning.specs.declared.cells.What.{What}
use Rattle.frame_meaning.specs.declared.cells.Mark.{Mark}
use Rattle.frame_meaning.specs.declared.cells.Link.{Link}
use Rattle.frame_meaning.specs.declared.cells.Cell.{Cell}
use Rattle.frame_meaning.specs.declared.frames.Side.{Side}
use Rattle.frame_meaning.specs.Cells.{same_number, span, next_side}
use Rattle.composables.specs.declared.items.ItemView.{ItemView}
use Rattle.composables.specs.Items.{marked, view_cells, cells_of, view_from, with_cell, items_of}
use Rattle.composables.specs.Joined.{with_view, joined, push_view, push_views, IsTight, AllFilled, frames_in}

pub eqb-refl : (n : ℕ) → eqb n n ≡ true
eqb-refl n = grind (arith, nat_tests)

pub same-refl : (o : Option ℕ) → same_number o o ≡ true
same-refl None = refl
same-refl (Some i) = eqb-refl i

eqb-is : (m n : ℕ) → eqb m n ≡ true → m ≡ n
eqb-is m n h = grind (arith, nat_tests)

pub same-is : (p q : Option ℕ) → same_number p q ≡ true → p ≡ q
same-is None None h = refl
same-is None (Some j) h = cc
same-is (Some i) None h = cc
same-is (Some i) (Some j) h = ap Some (eqb-is i j h)

-- a cell in front of what begins with an item or gap of its own number
cell_onto : (c : Cell) (v : ItemView) (vs : List ItemView) → v.item ≡ c.item → with_cell c (v ∷ vs) ≡ view_from c v.len ∷ vs
cell_onto c v vs e = ap (λ (b : Bool). cond b (view_from c v.len ∷ vs) (view_from c 0 ∷ v ∷ vs)) (ap (same_number c.item) e ∙ same-refl c.item)

-- one cell in front
one_cell : (i : Option ℕ) (s : Side What) (m : Option Mark) (l : Option Link) (zs : List ItemView)
    → with_cell (record { item = i; side = s; mark = m; link = l }) zs ≡ with_view (record { item = i; first = s; len = 1; mark = m; link = l }) zs
one_cell i s m l [] = refl
one_cell i s m l (v ∷ vs) =
    let n : v.len + 1 ≡ 1 + v.len = omega arith in
    ap (λ (k : ℕ). cond (same_number i v.item) (record { item = i; first = s; len = k; mark = m; link = l } ∷ vs) (record { item = i; first = s; len = 1; mark = m; link = l } ∷ v ∷ vs)) n

-- a cell in front of n more of the same item or gap
more_cells : (i : Option ℕ) (s t : Side What) (m : Option Mark) (l : Option Link) (n : ℕ) (zs : List ItemView)
    → with_cell (record { item = i; side = s; mark = m; link = l }) (with_view (record { item = i; first = t; len = n; mark = None; link = l }) zs)
    ≡ with_view (record { item = i; first = s; len = suc n; mark = m; link = l }) zs
more_cells i s t m l n [] =
    let k : n + 1 ≡ suc n = omega arith in
    cell_onto (record { item = i; side = s; mark = m; link = l }) (record { item = i; first = t; len = n; mark = None; link = l }) [] refl
    ∙ ap (λ (x : ℕ). record { item = i; first = s; len = x; mark = m; link = l } ∷ []) k
more_cells i s t m l n (v ∷ vs) = by_test (same_number i v.item) where
  by_test : (b : Bool) → with_cell (record { item = i; side = s; mark = m; link = l }) (cond b (record { item = i; first = t; len = n + v.len; mark = None; link = l } ∷ vs) (record { item = i; first = t; len = n; mark = None; link = l } ∷ v ∷ vs))
      ≡ cond b (record { item = i; first = s; len = suc n + v.len; mark = m; link = l } ∷ vs) (record { item = i; first = s; len = suc n; mark = m; link = l } ∷ v ∷ vs)
  by_test true =
      let k : (n + v.len) + 1 ≡ suc n + v.len = omega arith in
      cell_onto (record { item = i; side = s; mark = m; link = l }) (record { item = i; first = t; len = n + v.len; mark = None; link = l }) vs refl
      ∙ ap (λ (x : ℕ). record { item = i; first = s; len = x; mark = m; link = l } ∷ vs) k
  by_test false =
      let k : n + 1 ≡ suc n = omega arith in
      cell_onto (record { item = i; side = s; mark = m; link = l }) (record { item = i; first = t; len = n; mark = None; link = l }) (v ∷ vs) refl
      ∙ ap (λ (x : ℕ). record { item = i; first = s; len = x; mark = m; link = l } ∷ v ∷ vs) k

span_items : (i : Option ℕ) (s : Side What) (l : Option Link) (n : ℕ) (ys : List Cell)
    → items_of (span i s l (suc n) ++ ys) ≡ with_view (record { item = i; first = s; len = suc n; mark = None; link = l }) (items_of ys)
span_items i s l zero ys = one_cell i s None l (items_of ys)
span_items i s l (suc n) ys =
    ap (with_cell (record { item = i; side = s; mark = None; link = l })) (span_items i (next_side s) l n ys)
    ∙ more_cells i s (next_side s) None l (suc n) (items_of ys)

marked_items : (i : Option ℕ) (s : Side What) (m : Option Mark) (l : Option Link) (n : ℕ) (ys : List Cell)
    → items_of (marked m (span i s l (suc n)) ++ ys) ≡ with_view (record { item = i; first = s; len = suc n; mark = m; link = l }) (items_of ys)
marked_items i s m l zero ys = one_cell i s m l (items_of ys)
marked_items i s m l (suc n) ys =
    ap (with_cell (record { item = i; side = s; mark = m; link = l })) (span_items i (next_side s) l n ys)
    ∙ more_cells i s (next_side s) m l (suc n) (items_of ys)

-- the items of an item's cells in front of others
pub view_items : (v : ItemView) (ys : List Cell) → 0 < v.len → items_of (view_cells v ++ ys) ≡ with_view v (items_of ys)
view_items v ys h = by_len v.len refl h where
  by_len : (n : ℕ) → v.len ≡ n → 0 < n → items_of (view_cells v ++ ys) ≡ with_view v (items_of ys)
  by_len zero e p = absurd (omega arith)
  by_len (suc n) e p =
      ap (λ (k : ℕ). items_of (marked v.mark (span v.item v.first v.link k) ++ ys)) e
      ∙ (marked_items v.item v.first v.mark v.link n ys ∙ ap (λ (k : ℕ). with_view (record v { len = k }) (items_of ys)) (sym e))

-- the items of the cells of items and gaps are those joined
pub items_of-cells_of : (vs : List ItemView) → AllFilled vs → items_of (cells_of vs) ≡ joined vs
items_of-cells_of [] f = refl
items_of-cells_of (v ∷ vs) f = view_items v (cells_of vs) f.0 ∙ ap (with_view v) (items_of-cells_of vs f.1)

-- how many items and gaps there are
length-with_cell : (c : Cell) (vs : List ItemView) → length (with_cell c vs) ≤ suc (length vs)
length-with_cell c [] = omega arith
length-with_cell c (v ∷ vs) = by_test (same_number c.item v.item) where
  by_test : (b : Bool) → length (cond b (view_from c v.len ∷ vs) (view_from c 0 ∷ v ∷ vs)) ≤ suc (suc (length vs))
  by_test true = omega arith
  by_test false = omega arith

pub length-items_of : (cs : List Cell) → length (items_of cs) ≤ length cs
length-items_of [] = omega arith
length-items_of (c ∷ cs) = omega (arith, length-with_cell c (items_of cs), length-items_of cs)

-- the frames of items and gaps
length-span : (i : Option ℕ) (s : Side What) (l : Option Link) (n : ℕ) → length (span i s l n) ≡ n
length-span i s l zero = refl
length-span i s l (suc n) = ap suc (length-span i (next_side s) l n)

length-marked : (m : Option Mark) (cs : List Cell) → length (marked m cs) ≡ length cs
length-marked m [] = refl
length-marked m (c ∷ cs) = refl

pub length-view_cells : (v : ItemView) → length (view_cells v) ≡ v.len
length-view_cells v = length-marked v.mark (span v.item v.first v.link v.len) ∙ length-span v.item v.first v.link v.len

pub length-cells_of : (vs : List ItemView) → length (cells_of vs) ≡ frames_in vs
length-cells_of [] = refl
length-cells_of (v ∷ vs) = length-append (view_cells v) (cells_of vs) ∙ omega (arith, length-view_cells v, length-cells_of vs)

-- what stays as it is when it is joined
pub joined-tight : (vs : List ItemView) → IsTight vs → joined vs ≡ vs
joined-tight [] t = refl
joined-tight (r ∷ []) t = refl
joined-tight (r ∷ s ∷ rs) t =
    ap (with_view r) (joined-tight (s ∷ rs) t.1)
    ∙ ap (λ (b : Bool). cond b (record r { len = r.len + s.len } ∷ rs) (r ∷ s ∷ rs)) t.0

pub items_of-tight : (vs : List ItemView) → AllFilled vs → IsTight vs → items_of (cells_of vs) ≡ vs
items_of-tight vs f t = items_of-cells_of vs f ∙ joined-tight vs t

tight_head : (r s : ItemView) (vs : List ItemView) → r.item ≡ s.item → IsTight (s ∷ vs) → IsTight (r ∷ vs)
tight_head r s [] e t = tt
tight_head r s (w ∷ ws) e t = (ap (λ (o : Option ℕ). same_number o w.item) e ∙ t.0, t.1)

tight-with_view : (r : ItemView) (vs : List ItemView) → IsTight vs → IsTight (with_view r vs)
tight-with_view r [] t = tt
tight-with_view r (v ∷ vs) t = by_test (same_number r.item v.item) refl where
  by_test : (b : Bool) → same_number r.item v.item ≡ b → IsTight (cond b (record r { len = r.len + v.len } ∷ vs) (r ∷ v ∷ vs))
  by_test true e = tight_head (record r { len = r.len + v.len }) v vs (same-is r.item v.item e) t
  by_test false e = (e, t)

pub tight-joined : (vs : List ItemView) → IsTight (joined vs)
tight-joined [] = tt
tight-joined (v ∷ vs) = tight-with_view v (joined vs) (tight-joined vs)

filled-with_view : (r : ItemView) (vs : List ItemView) → 0 < r.len → AllFilled vs → AllFilled (with_view r vs)
filled-with_view r [] h f = (h, tt)
filled-with_view r (v ∷ vs) h f = by_test (same_number r.item v.item) where
  by_test : (b : Bool) → AllFilled (cond b (record r { len = r.len + v.len } ∷ vs) (r ∷ v ∷ vs))
  by_test true = (omega (arith, h), f.1)
  by_test false = (h, f)

pub filled-joined : (vs : List ItemView) → AllFilled vs → AllFilled (joined vs)
filled-joined [] f = tt
filled-joined (v ∷ vs) f = filled-with_view v (joined vs) f.0 (filled-joined vs f.1)

-- an item or gap behind others that are joined
same-along : (p q r : Option ℕ) → same_number p q ≡ true → same_number q r ≡ same_number p r
same-along p q r e = ap (λ (o : Option ℕ). same_number o r) (sym (same-is p q e))

with_with : (r w v : ItemView) → push_view (with_view r (w ∷ [])) v ≡ with_view r (push_view (w ∷ []) v)
with_with r w v = by_test (same_number r.item w.item) refl where
  inner : (b : Bool) → same_number w.item v.item ≡ b → same_number r.item w.item ≡ true →
      cond b (record r { len = (r.len + w.len) + v.len } ∷ []) (record r { len = r.len + w.len } ∷ v ∷ [])
      ≡ with_view r (cond b (record w { len = w.len + v.len } ∷ []) (w ∷ v ∷ []))
  inner true e same =
      let n : (r.len + w.len) + v.len ≡ r.len + (w.len + v.len) = omega arith in
      ap (λ (k : ℕ). record r { len = k } ∷ []) n
      ∙ sym (ap (λ (b : Bool). cond b (record r { len = r.len + (w.len + v.len) } ∷ []) (r ∷ record w { len = w.len + v.len } ∷ [])) same)
  inner false e same = sym (ap (λ (b : Bool). cond b (record r { len = r.len + w.len } ∷ v ∷ []) (r ∷ w ∷ v ∷ [])) same)

  apart : (b : Bool) → same_number r.item w.item ≡ false →
      r ∷ cond b (record w { len = w.len + v.len } ∷ []) (w ∷ v ∷ [])
      ≡ with_view r (cond b (record w { len = w.len + v.len } ∷ []) (w ∷ v ∷ []))
  apart true e = sym (ap (λ (b : Bool). cond b (record r { len = r.len + (w.len + v.len) } ∷ []) (r ∷ record w { len = w.len + v.len } ∷ [])) e)
  apart false e = sym (ap (λ (b : Bool). cond b (record r { len = r.len + w.len } ∷ v ∷ []) (r ∷ w ∷ v ∷ [])) e)

  by_test : (b : Bool) → same_number r.item w.item ≡ b → push_view (cond b (record r { len = r.len + w.len } ∷ []) (r ∷ w ∷ [])) v ≡ with_view r (push_view (w ∷ []) v)
  by_test true e =
      ap (λ (b : Bool). cond b (record r { len = (r.len + w.len) + v.len } ∷ []) (record r { len = r.len + w.len } ∷ v ∷ [])) (sym (same-along r.item w.item v.item e))
      ∙ inner (same_number w.item v.item) refl e
  by_test false e = apart (same_number w.item v.item) e

push-with_view : (r : ItemView) (zs : List ItemView) (v : ItemView) → push_view (with_view r zs) v ≡ with_view r (push_view zs v)
push-with_view r [] v = refl
push-with_view r (w ∷ []) v = with_with r w v
push-with_view r (w ∷ x ∷ xs) v = by_test (same_number r.item w.item) where
  by_test : (b : Bool) → push_view (cond b (record r { len = r.len + w.len } ∷ x ∷ xs) (r ∷ w ∷ x ∷ xs)) v
      ≡ cond b (record r { len = r.len + w.len } ∷ push_view (x ∷ xs) v) (r ∷ w ∷ push_view (x ∷ xs) v)
  by_test true = refl
  by_test false = refl

pub push-joined : (vs : List ItemView) (v : ItemView) → push_view (joined vs) v ≡ joined (vs ++ v ∷ [])
push-joined [] v = refl
push-joined (r ∷ rs) v = push-with_view r (joined rs) v ∙ ap (with_view r) (push-joined rs v)

pub pushes-joined : (vs ws : List ItemView) → push_views (joined vs) ws ≡ joined (vs ++ ws)
pushes-joined vs [] = ap joined (sym (append-nil vs))
pushes-joined vs (w ∷ ws) =
    ap (λ zs. push_views zs ws) (push-joined vs w)
    ∙ (pushes-joined (vs ++ w ∷ []) ws ∙ ap joined (append_assoc vs (w ∷ []) ws))

pub push-tight : (vs : List ItemView) (v : ItemView) → IsTight vs → push_view vs v ≡ joined (vs ++ v ∷ [])
push-tight vs v t = ap (λ zs. push_view zs v) (sym (joined-tight vs t)) ∙ push-joined vs v

pub filled-append : (vs ws : List ItemView) → AllFilled vs → AllFilled ws → AllFilled (vs ++ ws)
filled-append [] ws f g = g
filled-append (v ∷ vs) ws f g = (f.0, filled-append vs ws f.1 g)

pub filled-take : (n : ℕ) (vs : List ItemView) → AllFilled vs → AllFilled (take n vs)
filled-take zero vs f = tt
filled-take (suc n) [] f = tt
filled-take (suc n) (v ∷ vs) f = (f.0, filled-take n vs f.1)

pub filled-drop : (n : ℕ) (vs : List ItemView) → AllFilled vs → AllFilled (drop n vs)
filled-drop zero vs f = f
filled-drop (suc n) [] f = tt
filled-drop (suc n) (v ∷ vs) f = filled-drop n vs f.1

pub cells_of-append : (vs ws : List ItemView) → cells_of (vs ++ ws) ≡ cells_of vs ++ cells_of ws
cells_of-append vs ws = flat_map-append view_cells vs ws

-- one in front of what it does not belong to
apart_onto : (a l : ItemView) (zs : List ItemView) → same_number a.item l.item ≡ false → with_view a (with_view l zs) ≡ a ∷ with_view l zs
apart_onto a l [] e = ap (λ (b : Bool). cond b (record a { len = a.len + l.len } ∷ []) (a ∷ l ∷ [])) e
apart_onto a l (z ∷ zs) e = by_test (same_number l.item z.item) where
  by_test : (b : Bool) → with_view a (cond b (record l { len = l.len + z.len } ∷ zs) (l ∷ z ∷ zs)) ≡ a ∷ cond b (record l { len = l.len + z.len } ∷ zs) (l ∷ z ∷ zs)
  by_test true = ap (λ (b : Bool). cond b (record a { len = a.len + (l.len + z.len) } ∷ zs) (a ∷ record l { len = l.len + z.len } ∷ zs)) e
  by_test false = ap (λ (b : Bool). cond b (record a { len = a.len + l.len } ∷ z ∷ zs) (a ∷ l ∷ z ∷ zs)) e

-- what stands before an item or gap, and does not belong to it, stays as it is
joined_past : (fs ks : List ItemView) (l : ItemView) → IsTight (fs ++ l ∷ []) → joined (fs ++ l ∷ ks) ≡ fs ++ joined (l ∷ ks)
joined_past [] ks l t = refl
joined_past (a ∷ []) ks l t = apart_onto a l (joined ks) t.0
joined_past (a ∷ c ∷ cs) ks l t =
    ap (with_view a) (joined_past (c ∷ cs) ks l t.1)
    ∙ ap (λ (b : Bool). cond b (record a { len = a.len + c.len } ∷ (cs ++ joined (l ∷ ks))) (a ∷ c ∷ (cs ++ joined (l ∷ ks)))) t.0

-- and so does what stands behind one
onto_front : (m : ItemView) (xs cs : List ItemView) → 0 < length xs → with_view m (xs ++ cs) ≡ with_view m xs ++ cs
onto_front m [] cs h = absurd (omega (arith, h))
onto_front m (x ∷ xs) cs h = by_test (same_number m.item x.item) where
  by_test : (b : Bool) → cond b (record m { len = m.len + x.len } ∷ (xs ++ cs)) (m ∷ x ∷ (xs ++ cs)) ≡ cond b (record m { len = m.len + x.len } ∷ xs) (m ∷ x ∷ xs) ++ cs
  by_test true = refl
  by_test false = refl

length-with_view : (r : ItemView) (vs : List ItemView) → 0 < length (with_view r vs)
length-with_view r [] = omega arith
length-with_view r (v ∷ vs) = by_test (same_number r.item v.item) where
  by_test : (b : Bool) → 0 < length (cond b (record r { len = r.len + v.len } ∷ vs) (r ∷ v ∷ vs))
  by_test true = omega arith
  by_test false = omega arith

length-joined_onto : (ms : List ItemView) (r : ItemView) → 0 < length (joined (ms ++ r ∷ []))
length-joined_onto [] r = omega arith
length-joined_onto (m ∷ ms) r = length-with_view m (joined (ms ++ r ∷ []))

joined_before : (ms cs : List ItemView) (r : ItemView) → IsTight (r ∷ cs) → joined (ms ++ r ∷ cs) ≡ joined (ms ++ r ∷ []) ++ cs
joined_before [] cs r t = joined-tight (r ∷ cs) t
joined_before (m ∷ ms) cs r t =
    ap (with_view m) (joined_before ms cs r t) ∙ onto_front m (joined (ms ++ r ∷ [])) cs (length-joined_onto ms r)

-- so of those that are put between others only the two beside them are joined with them
behind_part : (ms cs : List ItemView) (r : Option ItemView) → IsTight (option_to_list r ++ cs) → (IsNone r → cs ≡ [])
    → joined (ms ++ (option_to_list r ++ cs)) ≡ joined (ms ++ option_to_list r) ++ cs
behind_part ms cs None t none = rw (none cc) (sym (append-nil (joined (ms ++ []))))
behind_part ms cs (Some r) t none = joined_before ms cs r t

before_part : (fs ks : List ItemView) (l : Option ItemView) → IsTight (fs ++ option_to_list l) → (IsNone l → fs ≡ [])
    → joined ((fs ++ option_to_list l) ++ ks) ≡ fs ++ joined (option_to_list l ++ ks)
before_part fs ks None t none = rw (none cc) refl
before_part fs ks (Some l) t none = ap joined (append_assoc fs (l ∷ []) ks) ∙ joined_past fs ks l t

pub joined_between : (hs cs ms fs bs : List ItemView) (l r : Option ItemView) → fs ≡ hs ++ option_to_list l → bs ≡ option_to_list r ++ cs
    → IsTight fs → IsTight bs → (IsNone l → hs ≡ []) → (IsNone r → cs ≡ [])
    → joined (fs ++ ms ++ bs) ≡ hs ++ (joined (option_to_list l ++ ms ++ option_to_list r) ++ cs)
joined_between hs cs ms fs bs l r front back f b before behind =
    let P : List ItemView → Type 0 = λ vs. IsTight vs in
    ap joined (append_assoc fs ms bs)
    ∙ (ap (λ (vs : List ItemView). joined (vs ++ (ms ++ bs))) front
    ∙ (before_part hs (ms ++ bs) l (subst P front f) before
    ∙ ap (λ (vs : List ItemView). hs ++ vs)
    (ap joined (sym (append_assoc (option_to_list l) ms bs))
    ∙ (ap (λ (vs : List ItemView). joined ((option_to_list l ++ ms) ++ vs)) back ∙ behind_part (option_to_list l ++ ms) cs r (subst P back b) behind))))

pub tight-take : (n : ℕ) (vs : List ItemView) → IsTight vs → IsTight (take n vs)
tight-take zero vs t = tt
tight-take (suc n) [] t = tt
tight-take (suc n) (v ∷ []) t = lone n v where
  lone : (n : ℕ) (v : ItemView) → IsTight (v ∷ take n [])
  lone zero v = tt
  lone (suc n) v = tt
tight-take (suc zero) (v ∷ w ∷ ws) t = tt
tight-take (suc (suc n)) (v ∷ w ∷ ws) t = (t.0, tight-take (suc n) (w ∷ ws) t.1)

pub tight-drop : (n : ℕ) (vs : List ItemView) → IsTight vs → IsTight (drop n vs)
tight-drop zero vs t = t
tight-drop (suc n) [] t = tt
tight-drop (suc zero) (v ∷ []) t = tt
tight-drop (suc (suc n)) (v ∷ []) t = tt
tight-drop (suc n) (v ∷ w ∷ ws) t = tight-drop n (w ∷ ws) t.1
