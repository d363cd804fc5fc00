-- Cuts of a track, and the items or gaps at their sides.
use Rattle.std.proofs.Common.{◌≡◌, ℕ, zero, suc, ◌+◌, ◌-◌, ◌<◌, ◌≤◌, Bool, true, false, not, ltb, eqb, cond, ◌&&◌, List, [], ◌∷◌, ◌++◌, length, take, drop, get_or, Option, Some, None, refl, sym, ap, ◌∙◌, arith, subst, append_assoc, get_or-drop, length-take}
use Rattle.std.specs.List.{slice_get}
use Rattle.std.proofs.lemmas.Bool.{lt-ltb, and_from, and_right}
use Rattle.std.proofs.lemmas.List.{drop_at, take_at, drop_more, take-append-drop, length-append}
use Rattle.std.proofs.lemmas.Option.{slice_get_within}
use Rattle.frame_meaning.specs.declared.cells.What.{What}
use Rattle.frame_meaning.specs.declared.cells.Mark.{Mark}
use Rattle.frame_meaning.specs.declared.cells.Link.{Link}
use Rattle.frame_meaning.specs.declared.cells.Cell.{Cell}
use Rattle.frame_meaning.specs.declared.frames.Side.{Side}
use Rattle.frame_meaning.specs.Cells.{span, next_side, dark_cell, same_number, belong}
use Rattle.frame_meaning.specs.Render.{cell_at}
use Rattle.composables.specs.declared.items.ItemView.{ItemView}
use Rattle.composables.specs.declared.items.Place.{Place}
use Rattle.composables.specs.declared.media.Table.{Table}
use Rattle.composables.specs.declared.refusals.Refusal.{Refusal}
use Rattle.composables.specs.declared.refusals.Refusal.TheVariants.{EmptyRange, NotACut}
use Rattle.composables.specs.Items.{marked, view_cells, cells_of, items_of}
use Rattle.composables.specs.Joined.{frames_in, IsTight, AllFilled}
use Rattle.composables.specs.Places.{StandsAt}
use Rattle.composables.specs.Ranges.{is_cut}
use Rattle.composables.specs.TrackFacts.{EachHolds, IsKept, first_mark}
use Rattle.composables.specs.TrackState.{TrackState}
use Rattle.composables.proofs.Joining.{same-refl, items_of-tight, items_of-cells_of, tight-joined, length-cells_of, cells_of-append, filled-take, filled-drop, tight-take, tight-drop}
use Rattle.composables.proofs.Frames.{frames_in-append, frames_in-take_more, no_view}
use Rattle.dissolves.specs.Parts.{mark_of, item_before}
use Rattle.dissolves.specs.declared.cuts.Cut.{Cut}
use Rattle.dissolves.specs.Cuts.{IsNoCut, IsCutAt, dissolve_refusal, room_between, room_refusal}
use Rattle.dissolves.proofs.Whole.{first_at, mark-first}

-- the cells of an item or gap, by their place in it

item_in_span : (i : Option ℕ) (s : Side What) (l : Option Link) (n k : ℕ) (ys : List Cell) → k < n → (get_or (span i s l n ++ ys) k dark_cell).item ≡ i
item_in_span i s l zero k ys h = absurd (omega arith)
item_in_span i s l (suc n) zero ys h = refl
item_in_span i s l (suc n) (suc k) ys h = item_in_span i (next_side s) l n k ys (omega arith)

bare_in_span : (i : Option ℕ) (s : Side What) (l : Option Link) (n k : ℕ) (ys : List Cell) → k < n → (get_or (span i s l n ++ ys) k dark_cell).mark ≡ None
bare_in_span i s l zero k ys h = absurd (omega arith)
bare_in_span i s l (suc n) zero ys h = refl
bare_in_span i s l (suc n) (suc k) ys h = bare_in_span i (next_side s) l n k ys (omega arith)

item_in_marked : (m : Option Mark) (i : Option ℕ) (s : Side What) (l : Option Link) (n k : ℕ) (ys : List Cell) → k < n → (get_or (marked m (span i s l n) ++ ys) k dark_cell).item ≡ i
item_in_marked m i s l zero k ys h = absurd (omega arith)
item_in_marked m i s l (suc n) zero ys h = refl
item_in_marked m i s l (suc n) (suc k) ys h = item_in_span i (next_side s) l n k ys (omega arith)

bare_in_marked : (m : Option Mark) (i : Option ℕ) (s : Side What) (l : Option Link) (n k : ℕ) (ys : List Cell) → 0 < k → k < n → (get_or (marked m (span i s l n) ++ ys) k dark_cell).mark ≡ None
bare_in_marked m i s l zero k ys o h = absurd (omega arith)
bare_in_marked m i s l (suc n) zero ys o h = absurd (omega arith)
bare_in_marked m i s l (suc n) (suc k) ys o h = bare_in_span i (next_side s) l n k ys (omega arith)

mark_in_marked : (m : Option Mark) (i : Option ℕ) (s : Side What) (l : Option Link) (n : ℕ) (ys : List Cell) → 0 < n → (get_or (marked m (span i s l n) ++ ys) 0 dark_cell).mark ≡ m
mark_in_marked m i s l zero ys h = absurd (omega arith)
mark_in_marked m i s l (suc n) ys h = refl

at_place : (cs : List Cell) (p k : ℕ) (ds : List Cell) → drop p cs ≡ ds → cell_at cs (p + k) ≡ get_or ds k dark_cell
at_place cs p k ds is = sym (get_or-drop p cs k dark_cell) ∙ ap (λ (es : List Cell). get_or es k dark_cell) is

item_here : (cs : List Cell) (p k : ℕ) (v : ItemView) (ys : List Cell) → drop p cs ≡ view_cells v ++ ys → k < v.len → (cell_at cs (p + k)).item ≡ v.item
item_here cs p k v ys is h = ap (λ (c : Cell). c.item) (at_place cs p k (view_cells v ++ ys) is) ∙ item_in_marked v.mark v.item v.first v.link v.len k ys h

bare_here : (cs : List Cell) (p k : ℕ) (v : ItemView) (ys : List Cell) → drop p cs ≡ view_cells v ++ ys → 0 < k → k < v.len → (cell_at cs (p + k)).mark ≡ None
bare_here cs p k v ys is o h = ap (λ (c : Cell). c.mark) (at_place cs p k (view_cells v ++ ys) is) ∙ bare_in_marked v.mark v.item v.first v.link v.len k ys o h

mark_here : (cs : List Cell) (p : ℕ) (v : ItemView) (ys : List Cell) → drop p cs ≡ view_cells v ++ ys → 0 < v.len → (cell_at cs p).mark ≡ v.mark
mark_here cs p v ys is h =
    let e : p ≡ p + 0 = omega arith in
    ap (λ (k : ℕ). (cell_at cs k).mark) e
    ∙ (ap (λ (c : Cell). c.mark) (at_place cs p 0 (view_cells v ++ ys) is) ∙ mark_in_marked v.mark v.item v.first v.link v.len ys h)

-- the cells before some items and gaps, and theirs

pub cells_before : (us ws : List ItemView) (p : ℕ) → p ≡ frames_in us → take p (cells_of (us ++ ws)) ≡ cells_of us
cells_before us ws p is = ap (take p) (cells_of-append us ws) ∙ take_at (cells_of us) (cells_of ws) p (length-cells_of us ∙ sym is)

pub cells_behind : (us ws : List ItemView) (p : ℕ) → p ≡ frames_in us → drop p (cells_of (us ++ ws)) ≡ cells_of ws
cells_behind us ws p is = ap (drop p) (cells_of-append us ws) ∙ drop_at (cells_of us) (cells_of ws) p (length-cells_of us ∙ sym is)

-- no cut stands inside an item or gap

within : (cs : List Cell) (from at : ℕ) (v : ItemView) (ys : List Cell) → drop from cs ≡ view_cells v ++ ys → from < at → at < from + v.len → IsNoCut cs at
within cs from at v ys is less more =
    let k = at - from in
    let e : from + k ≡ at = omega arith in
    let f : from + (k - 1) ≡ at - 1 = omega arith in
    let here : (cell_at cs at).item ≡ v.item = ap (λ (n : ℕ). (cell_at cs n).item) (sym e) ∙ item_here cs from k v ys is (omega arith) in
    let before : (cell_at cs (at - 1)).item ≡ v.item = ap (λ (n : ℕ). (cell_at cs n).item) (sym f) ∙ item_here cs from (k - 1) v ys is (omega arith) in
    let one : belong (cell_at cs (at - 1)) (cell_at cs at) ≡ true =
    ap (λ (o : Option ℕ). same_number o (cell_at cs at).item) before ∙ (ap (same_number v.item) here ∙ same-refl v.item) in
    record {
      none = and_right (ltb 0 at && ltb at (length cs)) (not (belong (cell_at cs (at - 1)) (cell_at cs at))) (ap not one);
      bare = ap (λ (n : ℕ). (cell_at cs n).mark) (sym e) ∙ bare_here cs from k v ys is (omega arith) (omega arith);
    }

pub no_cut_inside : (cs : List Cell) (p : Place) (at : ℕ) → cells_of (items_of cs) ≡ cs → StandsAt (items_of cs) p → p.from < at → at < p.to → IsNoCut cs at
no_cut_inside cs p at whole stands less more =
    let vs = items_of cs in
    let v = get_or vs p.index no_view in
    let all = take-append-drop p.index vs in
    let rest : drop p.from cs ≡ view_cells v ++ cells_of (drop (p.index + 1) vs) =
    ap (drop p.from) (sym whole ∙ ap cells_of (sym all))
    ∙ (cells_behind (take p.index vs) (drop p.index vs) p.from stands.from ∙ ap cells_of (drop_more vs p.index no_view stands.index)) in
    within cs p.from at v (cells_of (drop (p.index + 1) vs)) rest less
    (omega (arith, more, stands.from, stands.to, frames_in-take_more vs p.index no_view stands.index))

-- nor before the first

first_zero : (vs : List ItemView) (i : ℕ) → i < length vs → item_before vs i ≡ None → i ≡ 0
first_zero vs zero h e = refl
first_zero vs (suc i) h e = absurd (there vs i (omega arith) e) where
  there : (ws : List ItemView) (j : ℕ) → j < length ws → slice_get ws j ≡ None → ⊥
  there [] j h e = omega arith
  there (w ∷ ws) zero h e = cc
  there (w ∷ ws) (suc j) h e = there ws j (omega arith) e

bare_first : (vs : List ItemView) → AllFilled vs → first_mark vs ≡ None → (cell_at (cells_of vs) 0).mark ≡ None
bare_first [] f e = refl
bare_first (v ∷ vs) f e = mark_in_marked v.mark v.item v.first v.link v.len (cells_of vs) f.0 ∙ e

pub filled_each : (vs : List ItemView) → EachHolds vs → AllFilled vs
filled_each [] h = tt
filled_each (v ∷ vs) h = (h.0.filled, filled_each vs h.1)

pub no_cut_first : (t : TrackState) (p : Place) (at : ℕ) → IsKept t → StandsAt (items_of t.cells) p → p.from ≤ at → at ≤ p.from → item_before (items_of t.cells) p.index ≡ None → IsNoCut t.cells at
no_cut_first t p at kept stands ge le none =
    let vs = items_of t.cells in
    let index = first_zero vs p.index stands.index none in
    let from : frames_in (take p.index vs) ≡ 0 = ap (λ (i : ℕ). frames_in (take i vs)) index in
    let zero_at : at ≡ 0 = omega (arith, stands.from, from) in
    let bare = ap (λ (ds : List Cell). (cell_at ds 0).mark) (sym kept.whole) ∙ bare_first vs (filled_each vs kept.each) kept.not_before in
    subst (IsNoCut t.cells) (sym zero_at) (record { none = refl; bare = bare })

-- a cut, where an item or gap begins behind another

split_two : (vs : List ItemView) (j : ℕ) (l r : ItemView) → slice_get vs j ≡ Some l → slice_get vs (suc j) ≡ Some r → vs ≡ take j vs ++ l ∷ r ∷ drop (suc (suc j)) vs
split_two [] zero l r p q = cc
split_two [] (suc j) l r p q = cc
split_two (x ∷ []) zero l r p q = cc
split_two (x ∷ y ∷ ys) zero l r p q =
    let a : x ≡ l = cc in
    let b : y ≡ r = cc in
    ap (λ (u : ItemView). u ∷ y ∷ ys) a ∙ ap (λ (u : ItemView). l ∷ u ∷ ys) b
split_two (x ∷ xs) (suc j) l r p q = ap (λ zs. x ∷ zs) (split_two xs j l r p q)

take_one : (vs : List ItemView) (j : ℕ) (l : ItemView) → slice_get vs j ≡ Some l → frames_in (take (suc j) vs) ≡ frames_in (take j vs) + l.len
take_one [] zero l p = cc
take_one [] (suc j) l p = cc
take_one (x ∷ xs) zero l p = let a : x ≡ l = cc in omega (arith, ap (λ (u : ItemView). u.len) a)
take_one (x ∷ xs) (suc j) l p = omega (arith, take_one xs j l p)

cut_between : (cs : List Cell) (p : Place) (at : ℕ) (i : ℕ) (l r : ItemView) (tail : Option Mark) → p.index ≡ i → at ≡ frames_in (take i (items_of cs)) → item_before (items_of cs) i ≡ Some l
    → slice_get (items_of cs) i ≡ Some r → tail ≡ mark_of (slice_get (items_of cs) (i + 1)) → IsCutAt cs at (record { index = p.index; left = l; right = r; tail = tail })
cut_between cs p at zero l r tail is place before here after = cc
cut_between cs p at (suc j) l r tail is place before here after =
    let vs = items_of cs in
    let e : suc j + 1 ≡ suc (suc j) = omega arith in
    let inside = slice_get_within vs j l before in
    record {
      before = take j vs;
      behind = drop (suc (suc j)) vs;
      all = split_two vs j l r before here;
      place = place ∙ take_one vs j l before;
      index = omega (arith, is, length-take j vs);
      tail = after ∙ (ap (λ (k : ℕ). mark_of (slice_get vs k)) e ∙ (ap mark_of (first_at vs (suc (suc j))) ∙ mark-first (drop (suc (suc j)) vs)));
    }

pub cut_is : (cs : List Cell) (p : Place) (at : ℕ) (l r : ItemView) (o : Option ItemView) (tail : Option Mark) → StandsAt (items_of cs) p → p.from ≤ at → at ≤ p.from
    → item_before (items_of cs) p.index ≡ Some l → slice_get (items_of cs) p.index ≡ Some r → o ≡ slice_get (items_of cs) (p.index + 1) → tail ≡ mark_of o
    → IsCutAt cs at (record { index = p.index; left = l; right = r; tail = tail })
cut_is cs p at l r o tail stands ge le before here after is =
    cut_between cs p at p.index l r tail refl (omega (arith, stands.from)) before here (is ∙ ap mark_of after)

-- every item or gap that a place names is there
pub is_there : (cs : List Cell) (p : Place) → StandsAt (items_of cs) p → slice_get (items_of cs) p.index ≡ None → ⊥
is_there cs p stands none = there (items_of cs) p.index stands.index none where
  there : (ws : List ItemView) (j : ℕ) → j < length ws → slice_get ws j ≡ None → ⊥
  there [] j h e = omega arith
  there (w ∷ ws) zero h e = cc
  there (w ∷ ws) (suc j) h e = there ws j (omega arith) e

-- the items and gaps of a track
pub tight_items : (t : TrackState) → IsKept t → IsTight (items_of t.cells)
tight_items t kept =
    let vs = items_of t.cells in
    subst IsTight (sym (items_of-cells_of vs (filled_each vs kept.each)) ∙ ap items_of kept.whole) (tight-joined vs)

-- those before a cut and those behind it
pub record Sides (t : TrackState) (p : ℕ) (c : Cut) : Type 0 where
  pub before : List ItemView
  pub behind : List ItemView
  pub all : items_of t.cells ≡ (before ++ c.left ∷ []) ++ c.right ∷ behind
  pub tail : c.tail ≡ first_mark behind
  pub index : c.index ≡ length (before ++ c.left ∷ [])
  pub place : p ≡ frames_in (before ++ c.left ∷ [])
  pub cells : t.cells ≡ cells_of ((before ++ c.left ∷ []) ++ c.right ∷ behind)

pub sides_of : (t : TrackState) (p : ℕ) (c : Cut) → IsKept t → IsCutAt t.cells p c → Sides t p c
sides_of t p c kept at =
    let all : items_of t.cells ≡ (at.before ++ c.left ∷ []) ++ c.right ∷ at.behind = at.all ∙ sym (append_assoc at.before (c.left ∷ []) (c.right ∷ at.behind)) in
    record {
      before = at.before;
      behind = at.behind;
      all = all;
      tail = at.tail;
      index = omega (arith, at.index, length-append at.before (c.left ∷ []));
      place = omega (arith, at.place, frames_in-append at.before (c.left ∷ []));
      cells = sym kept.whole ∙ ap cells_of all;
    }

tight_pair : (us ws : List ItemView) (l r : ItemView) → IsTight ((us ++ l ∷ []) ++ r ∷ ws) → same_number l.item r.item ≡ false
tight_pair [] ws l r h = h.0
tight_pair (u ∷ []) ws l r h = h.1.0
tight_pair (u ∷ v ∷ us) ws l r h = tight_pair (v ∷ us) ws l r h.1

filled_both : (us ws : List ItemView) (l r : ItemView) → AllFilled ((us ++ l ∷ []) ++ r ∷ ws) → (0 < l.len) × (0 < r.len)
filled_both [] ws l r h = (h.0, h.1.0)
filled_both (u ∷ us) ws l r h = filled_both us ws l r h.1

belong_not : (cs : List Cell) (p : ℕ) (us ws : List ItemView) (l r : ItemView) → cs ≡ cells_of ((us ++ l ∷ []) ++ r ∷ ws) → p ≡ frames_in (us ++ l ∷ []) → 0 < l.len → 0 < r.len
    → same_number l.item r.item ≡ false → belong (cell_at cs (p - 1)) (cell_at cs p) ≡ false
belong_not cs p us ws l r is place some more apart =
    let from = frames_in us in
    let long : frames_in (us ++ l ∷ []) ≡ from + (l.len + 0) = frames_in-append us (l ∷ []) in
    let e : from + (l.len - 1) ≡ p - 1 = omega (arith, long, place) in
    let f : p + 0 ≡ p = omega arith in
    let left : drop from cs ≡ view_cells l ++ cells_of (r ∷ ws) =
    ap (drop from) (is ∙ ap cells_of (append_assoc us (l ∷ []) (r ∷ ws))) ∙ cells_behind us (l ∷ r ∷ ws) from refl in
    let right : drop p cs ≡ view_cells r ++ cells_of ws = ap (drop p) is ∙ cells_behind (us ++ l ∷ []) (r ∷ ws) p place in
    let one : (cell_at cs (p - 1)).item ≡ l.item = ap (λ (n : ℕ). (cell_at cs n).item) (sym e) ∙ item_here cs from (l.len - 1) l (cells_of (r ∷ ws)) left (omega arith) in
    let two : (cell_at cs p).item ≡ r.item = ap (λ (n : ℕ). (cell_at cs n).item) (sym f) ∙ item_here cs p 0 r (cells_of ws) right more in
    ap (λ (o : Option ℕ). same_number o (cell_at cs p).item) one ∙ (ap (same_number l.item) two ∙ apart)

pub cut_true : (t : TrackState) (p : ℕ) (c : Cut) → IsKept t → Sides t p c → is_cut t.cells p ≡ true
cut_true t p c kept s =
    let cs = t.cells in
    let filled = filled_both s.before s.behind c.left c.right (subst AllFilled s.all (filled_each (items_of cs) kept.each)) in
    let apart = tight_pair s.before s.behind c.left c.right (subst IsTight s.all (tight_items t kept)) in
    let ls = s.before ++ c.left ∷ [] in
    let len : length cs ≡ frames_in ls + (c.right.len + frames_in s.behind) =
    ap length s.cells ∙ (length-cells_of (ls ++ c.right ∷ s.behind) ∙ frames_in-append ls (c.right ∷ s.behind)) in
    let inside : p < length cs = omega (arith, s.place, len, filled.1) in
    let some : 0 < p = omega (arith, s.place, frames_in-append s.before (c.left ∷ []), filled.0) in
    and_from (ltb 0 p && ltb p (length cs)) (not (belong (cell_at cs (p - 1)) (cell_at cs p)))
    (and_from (ltb 0 p) (ltb p (length cs)) (lt-ltb 0 p some) (lt-ltb p (length cs) inside))
    (ap not (belong_not cs p s.before s.behind c.left c.right s.cells s.place filled.0 filled.1 apart))

-- the mark that stands there
pub mark_there : (t : TrackState) (p : ℕ) (c : Cut) → IsKept t → Sides t p c → (cell_at t.cells p).mark ≡ c.right.mark
mark_there t p c kept s =
    let filled = filled_both s.before s.behind c.left c.right (subst AllFilled s.all (filled_each (items_of t.cells) kept.each)) in
    mark_here t.cells p c.right (cells_of s.behind)
    (ap (drop p) s.cells ∙ cells_behind (s.before ++ c.left ∷ []) (c.right ∷ s.behind) p s.place) filled.1

-- why it has no room

room_at : (table : Table) (us ws : List ItemView) (l r : ItemView) (m : Mark) → room_between table (us ++ l ∷ []) (r ∷ ws) m ≡ room_refusal table l r (first_mark ws) m
room_at table [] ws l r m = refl
room_at table (u ∷ []) ws l r m = refl
room_at table (u ∷ v ∷ us) ws l r m = room_at table (v ∷ us) ws l r m

part_items : (us ws : List ItemView) → AllFilled (us ++ ws) → IsTight (us ++ ws) → (items_of (cells_of us) ≡ us) × (items_of (cells_of ws) ≡ ws)
part_items us ws f h =
    let n = length us in
    let front = take_at us ws n refl in
    let back = drop_at us ws n refl in (
      items_of-tight us (subst AllFilled front (filled-take n (us ++ ws) f)) (subst IsTight front (tight-take n (us ++ ws) h)),
      items_of-tight ws (subst AllFilled back (filled-drop n (us ++ ws) f)) (subst IsTight back (tight-drop n (us ++ ws) h)),
    )

pub refusal_is : (table : Table) (t : TrackState) (p : ℕ) (c : Cut) (m : Mark) → IsKept t → Sides t p c → eqb (m.a + m.b) 0 ≡ false
    → dissolve_refusal table t.cells p m ≡ room_refusal table c.left c.right c.tail m
refusal_is table t p c m kept s filled =
    let ls = s.before ++ c.left ∷ [] in
    let rs = c.right ∷ s.behind in
    let parts = part_items ls rs (subst AllFilled s.all (filled_each (items_of t.cells) kept.each)) (subst IsTight s.all (tight_items t kept)) in
    let front : items_of (take p t.cells) ≡ ls = ap items_of (ap (take p) s.cells ∙ cells_before ls rs p s.place) ∙ parts.0 in
    let back : items_of (drop p t.cells) ≡ rs = ap items_of (ap (drop p) s.cells ∙ cells_behind ls rs p s.place) ∙ parts.1 in
    let between : List ItemView → List ItemView → Option Refusal = λ xs ys. room_between table xs ys m in
    ap (λ (b : Bool). cond b (Some EmptyRange) (cond (is_cut t.cells p) (between (items_of (take p t.cells)) (items_of (drop p t.cells))) (Some (NotACut p)))) filled
    ∙ (ap (λ (b : Bool). cond b (between (items_of (take p t.cells)) (items_of (drop p t.cells))) (Some (NotACut p))) (cut_true t p c kept s)
    ∙ (ap (λ (xs : List ItemView). between xs (items_of (drop p t.cells))) front
    ∙ (ap (λ (ys : List ItemView). between ls ys) back
    ∙ (room_at table s.before s.behind c.left c.right m
    ∙ ap (λ (o : Option Mark). room_refusal table c.left c.right o m) (sym s.tail)))))
