-- What a track shows, item by item and gap by gap.
use Rattle.std.proofs.Common.{◌≡◌, ℕ, zero, suc, ◌+◌, ◌-◌, ◌<◌, ◌≤◌, Bool, true, false, cond, leb, ltb, List, [], ◌∷◌, ◌++◌, map, length, take, drop, get_or, Option, Some, None, refl, sym, ap, ◌∙◌, arith, subst, get_or-drop}
use Rattle.std.specs.List.{range_with_len, slice_get}
use Rattle.std.proofs.lemmas.Bool.{le-leb, lt-leb, lt-ltb, le-ltb, and_from, and_left, and_right}
use Rattle.std.proofs.lemmas.List.{map-append, drop-drop, drop_at}
use Rattle.std.proofs.lemmas.List.FromFn.{length-map-range_with_len}
use Rattle.frame_meaning.specs.declared.cells.What.{What}
use Rattle.frame_meaning.specs.declared.cells.Mark.{Mark}
use Rattle.frame_meaning.specs.declared.cells.Link.{Link}
use Rattle.frame_meaning.specs.declared.cells.Cell.{Cell}
use Rattle.frame_meaning.specs.declared.frames.Side.{Side}
use Rattle.frame_meaning.specs.declared.frames.Side.TheVariants.{Dark, Pic}
use Rattle.frame_meaning.specs.declared.frames.Frame.{Frame}
use Rattle.frame_meaning.specs.declared.frames.Frame.TheVariants as frame
use Rattle.frame_meaning.specs.Cells.{span, next_side, later_side, dark_cell}
use Rattle.frame_meaning.specs.Marks.{covers, dissolve_from}
use Rattle.frame_meaning.specs.Render.{frame_of, moved, cell_at, mix_at, shown_in, shown_at, render}
use Rattle.composables.specs.declared.items.ItemView.{ItemView}
use Rattle.composables.specs.Items.{marked, view_cells, cells_of}
use Rattle.composables.specs.Joined.{frames_in}
use Rattle.composables.specs.TrackFacts.{EachHolds, HasSource, first_mark, left_reach, right_reach}
use Rattle.composables.proofs.Joining.{length-view_cells, length-cells_of}
use Rattle.composables.proofs.Spans.{later-zero}
use Rattle.dissolves.specs.Pieces.{later_frame, frames_from}
use Rattle.dissolves.specs.Parts.{first_of, item_before, head_frames, mix_before, tail_frames, own_frames, item_frames, frames_shown, HoldsBefore, EachBetween}
use Rattle.composables.specs.Views.{earlier_side}
use Rattle.dissolves.proofs.Whole.{mark-first, each_numbered, between_all, unmarked_reach}
use Rattle.dissolves.proofs.Behind.{frame-zero, frame-twice, side-twice}

-- where a mark is looked for

no_marks : (p : ℕ) (i : Option ℕ) (s : Side What) (l : Option Link) (n : ℕ) (ys : List Cell) (q : ℕ) → dissolve_from p (span i s l n ++ ys) q ≡ dissolve_from (p + n) ys q
no_marks p i s l zero ys q = let e : p ≡ p + 0 = omega arith in ap (λ (k : ℕ). dissolve_from k ys q) e
no_marks p i s l (suc n) ys q =
    let e : p + 1 + n ≡ p + suc n = omega arith in
    no_marks (p + 1) i (next_side s) l n ys q ∙ ap (λ (k : ℕ). dissolve_from k ys q) e

one_mark : (p : ℕ) (i : Option ℕ) (s : Side What) (m : Option Mark) (l : Option Link) (n : ℕ) (ys : List Cell) (q : ℕ) → 0 < n
    → dissolve_from p (marked m (span i s l n) ++ ys) q ≡ cond (covers m p q) (Some (p, m)) (dissolve_from (p + n) ys q)
one_mark p i s m l zero ys q h = absurd (omega arith)
one_mark p i s m l (suc n) ys q h =
    let e : p + 1 + n ≡ p + suc n = omega arith in
    ap (λ (o : Option (ℕ × Option Mark)). cond (covers m p q) (Some (p, m)) o) (no_marks (p + 1) i (next_side s) l n ys q ∙ ap (λ (k : ℕ). dissolve_from k ys q) e)

at_view : (p : ℕ) (v : ItemView) (ys : List Cell) (q : ℕ) → 0 < v.len
    → dissolve_from p (view_cells v ++ ys) q ≡ cond (covers v.mark p q) (Some (p, v.mark)) (dissolve_from (p + v.len) ys q)
at_view p v ys q h = one_mark p v.item v.first v.mark v.link v.len ys q h

covered : (m : Mark) (p q : ℕ) → p ≤ q + m.a → q < p + m.b → covers (Some m) p q ≡ true
covered m p q l r = and_from (leb p (q + m.a)) (ltb q (p + m.b)) (le-leb p (q + m.a) l) (lt-ltb q (p + m.b) r)

not_before : (m : Option Mark) (p q : ℕ) → q + left_reach m < p → covers m p q ≡ false
not_before None p q h = refl
not_before (Some m) p q h = and_left (leb p (q + m.a)) (ltb q (p + m.b)) (lt-leb p (q + m.a) h)

not_behind : (m : Option Mark) (p q : ℕ) → p + right_reach m ≤ q → covers m p q ≡ false
not_behind None p q h = refl
not_behind (Some m) p q h = and_right (leb p (q + m.a)) (ltb q (p + m.b)) (le-ltb q (p + m.b) h)

past_view : (p : ℕ) (v : ItemView) (ys : List Cell) (q : ℕ) → 0 < v.len → covers v.mark p q ≡ false → dissolve_from p (view_cells v ++ ys) q ≡ dissolve_from (p + v.len) ys q
past_view p v ys q h e = at_view p v ys q h ∙ ap (λ (b : Bool). cond b (Some (p, v.mark)) (dissolve_from (p + v.len) ys q)) e

on_view : (p : ℕ) (v : ItemView) (m : Mark) (ys : List Cell) (q : ℕ) → 0 < v.len → v.mark ≡ Some m → p ≤ q + m.a → q < p + m.b → dissolve_from p (view_cells v ++ ys) q ≡ Some (p, Some m)
on_view p v m ys q h is l r =
    at_view p v ys q h
    ∙ (ap (λ (o : Option Mark). cond (covers o p q) (Some (p, o)) (dissolve_from (p + v.len) ys q)) is
    ∙ ap (λ (b : Bool). cond b (Some (p, Some m)) (dissolve_from (p + v.len) ys q)) (covered m p q l r))

-- no mark further on reaches back to a place
none_ahead : (p : ℕ) (vs : List ItemView) (q : ℕ) → EachHolds vs → q + left_reach (first_mark vs) < p → dissolve_from p (cells_of vs) q ≡ None
none_ahead p [] q h far = refl
none_ahead p (v ∷ vs) q h far =
    past_view p v (cells_of vs) q h.0.filled (not_before v.mark p q far)
    ∙ none_ahead (p + v.len) vs q h.1 (omega (arith, h.0.room))

-- what cells show

side_in_span : (i : Option ℕ) (s : Side What) (l : Option Link) (n k : ℕ) (ys : List Cell) → k < n → (get_or (span i s l n ++ ys) k dark_cell).side ≡ later_side s k
side_in_span i s l zero k ys h = absurd (omega arith)
side_in_span i s l (suc n) zero ys h = sym (later-zero s)
side_in_span i s l (suc n) (suc k) ys h =
    let e : 1 + k ≡ suc k = omega arith in
    side_in_span i (next_side s) l n k ys (omega arith) ∙ (ap (λ (t : Side What). later_side t k) (one_later s) ∙ (side-twice s 1 k ∙ ap (later_side s) e)) where
      one_later : (t : Side What) → next_side t ≡ later_side t 1
      one_later Dark = refl
      one_later (Pic w t) = refl

side_in_marked : (m : Option Mark) (i : Option ℕ) (s : Side What) (l : Option Link) (n k : ℕ) (ys : List Cell) → k < n → (get_or (marked m (span i s l n) ++ ys) k dark_cell).side ≡ later_side s k
side_in_marked m i s l zero k ys h = absurd (omega arith)
side_in_marked m i s l (suc n) zero ys h = sym (later-zero s)
side_in_marked m i s l (suc n) (suc k) ys h = side_in_span i s l (suc n) (suc k) ys h

side_in_view : (cs : List Cell) (p : ℕ) (v : ItemView) (ys : List Cell) (k : ℕ) → drop p cs ≡ view_cells v ++ ys → k < v.len → (cell_at cs (p + k)).side ≡ later_side v.first k
side_in_view cs p v ys k is h =
    ap (λ (c : Cell). c.side) (sym (get_or-drop p cs k dark_cell))
    ∙ (ap (λ (ds : List Cell). (get_or ds k dark_cell).side) is
    ∙ side_in_marked v.mark v.item v.first v.link v.len k ys h)

-- frames by their places

frames_at_places : (shown : ℕ → Frame What) (p n : ℕ) (f : Frame What) → ((k : ℕ) → k < n → shown (p + k) ≡ later_frame f k) → map shown (range_with_len p n) ≡ frames_from f n
frames_at_places shown p zero f h = refl
frames_at_places shown p (suc n) f h =
    let e : p ≡ p + 0 = omega arith in
    let first : shown p ≡ f = ap shown e ∙ (h 0 (omega arith) ∙ frame-zero f) in
    let rest = frames_at_places shown (p + 1) n (later_frame f 1) (λ k less.
    let x : p + 1 + k ≡ p + suc k = omega arith in
    let y : suc k ≡ 1 + k = omega arith in
    ap shown x ∙ (h (suc k) (omega arith) ∙ (ap (later_frame f) y ∙ sym (frame-twice f 1 k)))) in
    ap (λ (g : Frame What). g ∷ map shown (range_with_len (p + 1) n)) first ∙ ap (λ (gs : List (Frame What)). f ∷ gs) rest

range_split : (p m n : ℕ) → range_with_len p (m + n) ≡ range_with_len p m ++ range_with_len (p + m) n
range_split p zero n =
    let e : 0 + n ≡ n = omega arith in
    let x : p ≡ p + 0 = omega arith in
    ap (range_with_len p) e ∙ ap (λ (k : ℕ). range_with_len k n) x
range_split p (suc m) n =
    let e : suc m + n ≡ suc (m + n) = omega arith in
    let x : p + 1 + m ≡ p + suc m = omega arith in
    ap (range_with_len p) e ∙ ap (λ (ks : List ℕ). p ∷ ks) (range_split (p + 1) m n ∙ ap (λ (k : ℕ). range_with_len (p + 1) m ++ range_with_len k n) x)

map_split : (shown : ℕ → Frame What) (p m n : ℕ) → map shown (range_with_len p (m + n)) ≡ map shown (range_with_len p m) ++ map shown (range_with_len (p + m) n)
map_split shown p m n = ap (map shown) (range_split p m n) ∙ map-append shown (range_with_len p m) (range_with_len (p + m) n)

-- items and gaps that stand from a place on, with what is before them
record Stands (cs : List Cell) (p : ℕ) (before : Option ItemView) (vs : List ItemView) : Type 0 where
  passed : (q : ℕ) → p ≤ q → dissolve_from 0 cs q ≡ dissolve_from p (cells_of vs) q
  rest : drop p cs ≡ cells_of vs
  last : (l : ItemView) → before ≡ Some l → (0 < p) × ((cell_at cs (p - 1)).side ≡ later_side l.first (l.len - 1))
  held : HoldsBefore before (first_mark vs)
  each : EachHolds vs

-- the left side of a dissolve from the cut on
left_on : (s : Side What) (len p k : ℕ) → 0 < len → moved (later_side s (len - 1)) (p + k + 1) p ≡ later_side (later_side s len) k
left_on Dark len p k h = refl
left_on (Pic w s) len p k h = let e : s + (len - 1) + (p + k + 1) - p ≡ s + len + k = omega arith in ap (λ (n : ℕ). Pic w n) e

right_on : (s : Side What) (p k : ℕ) → moved s (p + k) p ≡ later_side s k
right_on Dark p k = refl
right_on (Pic w s) p k = let e : s + (p + k) - p ≡ s + k = omega arith in ap (λ (n : ℕ). Pic w n) e

-- and before it
left_to : (s : Side What) (len p a k : ℕ) → 0 < len → a ≤ len → moved (later_side s (len - 1)) (p + (len - a) + k + 1) (p + len) ≡ later_side (later_side s (len - a)) k
left_to Dark len p a k h r = refl
left_to (Pic w s) len p a k h r = let e : s + (len - 1) + (p + (len - a) + k + 1) - (p + len) ≡ s + (len - a) + k = omega arith in ap (λ (n : ℕ). Pic w n) e

right_to : (s : Side What) (len p a k before after : ℕ) → a ≤ len → HasSource s before a after → moved s (p + (len - a) + k) (p + len) ≡ later_side (earlier_side s a) k
right_to Dark len p a k n after r h = refl
right_to (Pic w s) len p a k n after r h = let e : s + (p + (len - a) + k) - (p + len) ≡ s - a + k = omega (arith, h.0) in ap (λ (m : ℕ). Pic w m) e

mixes : (l l' r r' : Side What) (n n' d : ℕ) → l ≡ l' → r ≡ r' → n ≡ n' → ◌≡◌ {A = Frame What} (frame.Mix l r n d) (frame.Mix l' r' n' d)
mixes l l' r r' n n' d x y z =
    ap (λ (s : Side What). frame.Mix s r n d) x ∙ (ap (λ (s : Side What). frame.Mix l' s n d) y ∙ ap (λ (k : ℕ). frame.Mix l' r' k d) z)

shown_as : (cs : List Cell) (p q : ℕ) (m : Mark) → dissolve_from 0 cs q ≡ Some (p, Some m) → shown_at cs q ≡ mix_at cs p m q
shown_as cs p q m h = ap (λ (o : Option (ℕ × Option Mark)). shown_in cs o q) h

head_shown : (cs : List Cell) (p : ℕ) (before : Option ItemView) (v : ItemView) (vs : List ItemView) → Stands cs p before (v ∷ vs) → map (shown_at cs) (range_with_len p (right_reach v.mark)) ≡ head_frames before v
head_shown cs p before v vs st = by_mark v.mark refl before refl where
  by_mark : (o : Option Mark) → v.mark ≡ o → (u : Option ItemView) → before ≡ u → map (shown_at cs) (range_with_len p (right_reach o)) ≡ head_frames u (record v { mark = o })
  by_mark None e None f = refl
  by_mark None e (Some l) f = refl
  by_mark (Some m) e None f =
      let held = subst (λ (u : Option ItemView). HoldsBefore u v.mark) f st.held in
      let none : Some m ≡ None = sym e ∙ held in
      cc
  by_mark (Some m) e (Some l) f = frames_at_places (shown_at cs) p m.b (frame.Mix (later_side l.first l.len) v.first (m.a + 1) (m.a + m.b + 1)) (λ k h.
      let last = st.last l f in
      let held = subst (λ (u : Option ItemView). HoldsBefore u v.mark) f st.held in
      let found = st.passed (p + k) (omega arith) ∙ on_view p v m (cells_of vs) (p + k) st.each.0.filled e (omega arith) (omega arith) in
      let here : p + 0 ≡ p = omega arith in
      let first = ap (λ (x : ℕ). (cell_at cs x).side) (sym here) ∙ (side_in_view cs p v (cells_of vs) 0 st.rest st.each.0.filled ∙ later-zero v.first) in
      let num : p + k + m.a - p + 1 ≡ m.a + 1 + k = omega arith in
      shown_as cs p (p + k) m found
      ∙ mixes _ _ _ _ _ _ (m.a + m.b + 1)
      (ap (λ (s : Side What). moved s (p + k + 1) p) last.1 ∙ left_on l.first l.len p k held.filled)
      (ap (λ (s : Side What). moved s (p + k) p) first ∙ right_on v.first p k)
      num)

own_shown : (cs : List Cell) (p : ℕ) (before : Option ItemView) (v : ItemView) (vs : List ItemView) → Stands cs p before (v ∷ vs)
    → map (shown_at cs) (range_with_len (p + right_reach v.mark) (v.len - right_reach v.mark - left_reach (first_mark vs))) ≡ own_frames v (right_reach v.mark) (left_reach (first_mark vs))
own_shown cs p before v vs st =
    let h = right_reach v.mark in
    frames_at_places (shown_at cs) (p + h) (v.len - h - left_reach (first_mark vs)) (frame_of (later_side v.first h)) (λ k less.
    let q = p + h + k in
    let none : dissolve_from 0 cs q ≡ None =
    st.passed q (omega arith)
    ∙ (past_view p v (cells_of vs) q st.each.0.filled (not_behind v.mark p q (omega arith))
    ∙ none_ahead (p + v.len) vs q st.each.1 (omega (arith, st.each.0.room))) in
    let x : q ≡ p + (h + k) = omega arith in
    ap (λ (o : Option (ℕ × Option Mark)). shown_in cs o q) none
    ∙ (ap (λ (n : ℕ). frame_of (cell_at cs n).side) x
    ∙ (ap frame_of (side_in_view cs p v (cells_of vs) (h + k) st.rest (omega (arith, st.each.0.room)) ∙ sym (side-twice v.first h k))
    ∙ frame_later (later_side v.first h) k))) where
      frame_later : (s : Side What) (k : ℕ) → frame_of (later_side s k) ≡ later_frame (frame_of s) k
      frame_later Dark k = refl
      frame_later (Pic w s) k = refl

-- the next items and gaps
stands_next : (cs : List Cell) (p : ℕ) (before : Option ItemView) (v : ItemView) (vs : List ItemView) → Stands cs p before (v ∷ vs) → Stands cs (p + v.len) (Some v) vs
stands_next cs p before v vs st =
    let last_at : p + v.len - 1 ≡ p + (v.len - 1) = omega (arith, st.each.0.filled) in
    record {
      passed = λ q h. st.passed q (omega arith) ∙ past_view p v (cells_of vs) q st.each.0.filled (not_behind v.mark p q (omega (arith, st.each.0.room)));
      rest = sym (drop-drop v.len p cs) ∙ (ap (drop v.len) st.rest ∙ drop_at (view_cells v) (cells_of vs) v.len (length-view_cells v));
      last = λ l e.
          let same : v ≡ l = cc in (
            omega (arith, st.each.0.filled),
            subst (λ (u : ItemView). (cell_at cs (p + v.len - 1)).side ≡ later_side u.first (u.len - 1)) same
                (ap (λ (k : ℕ). (cell_at cs k).side) last_at ∙ side_in_view cs p v (cells_of vs) (v.len - 1) st.rest (omega (arith, st.each.0.filled))),
          );
      held = st.each.0;
      each = st.each.1;
    }

tail_shown : (cs : List Cell) (p : ℕ) (before : Option ItemView) (v : ItemView) (vs : List ItemView) → Stands cs p before (v ∷ vs)
    → map (shown_at cs) (range_with_len (p + (v.len - left_reach (first_mark vs))) (left_reach (first_mark vs))) ≡ tail_frames v (first_of vs)
tail_shown cs p before v [] st = refl
tail_shown cs p before v (r ∷ rs) st = by_mark r.mark refl where
  by_mark : (o : Option Mark) → r.mark ≡ o → map (shown_at cs) (range_with_len (p + (v.len - left_reach o)) (left_reach o)) ≡ mix_before v r.first o
  by_mark None e = refl
  by_mark (Some m) e = frames_at_places (shown_at cs) (p + (v.len - m.a)) m.a (frame.Mix (later_side v.first (v.len - m.a)) (earlier_side r.first m.a) 1 (m.a + m.b + 1)) (λ k h.
      let q = p + (v.len - m.a) + k in
      let next = stands_next cs p before v (r ∷ rs) st in
      let reach : left_reach r.mark ≡ m.a = ap left_reach e in
      let room : right_reach v.mark + m.a ≤ v.len = omega (arith, st.each.0.room, reach) in
      let found =
      st.passed q (omega arith)
      ∙ (past_view p v (cells_of (r ∷ rs)) q st.each.0.filled (not_behind v.mark p q (omega arith))
      ∙ on_view (p + v.len) r m (cells_of rs) q next.each.0.filled e (omega arith) (omega arith)) in
      let here : p + v.len + 0 ≡ p + v.len = omega arith in
      let first = ap (λ (x : ℕ). (cell_at cs x).side) (sym here) ∙ (side_in_view cs (p + v.len) r (cells_of rs) 0 next.rest next.each.0.filled ∙ later-zero r.first) in
      let source = subst (λ (n : ℕ). HasSource r.first r.len n (right_reach (first_mark rs))) reach next.each.0.source in
      let num : q + m.a - (p + v.len) + 1 ≡ 1 + k = omega arith in
      shown_as cs (p + v.len) q m found
      ∙ mixes _ _ _ _ _ _ (m.a + m.b + 1)
      (ap (λ (s : Side What). moved s (q + 1) (p + v.len)) (next.last v refl).1 ∙ left_to v.first v.len p m.a k st.each.0.filled (omega arith))
      (ap (λ (s : Side What). moved s q (p + v.len)) first ∙ right_to r.first v.len p m.a k r.len (right_reach (first_mark rs)) (omega arith) source)
      num)

view_shown : (cs : List Cell) (p : ℕ) (before : Option ItemView) (v : ItemView) (vs : List ItemView) → Stands cs p before (v ∷ vs) → map (shown_at cs) (range_with_len p v.len) ≡ item_frames before v (first_of vs)
view_shown cs p before v vs st =
    let h = right_reach v.mark in
    let t = left_reach (first_mark vs) in
    let own = v.len - h - t in
    let all : v.len ≡ h + own + t = omega (arith, st.each.0.room) in
    let tail_at : p + (h + own) ≡ p + (v.len - t) = omega (arith, st.each.0.room) in
    ap (λ (n : ℕ). map (shown_at cs) (range_with_len p n)) all
    ∙ (map_split (shown_at cs) p (h + own) t
    ∙ (ap (λ (gs : List (Frame What)). gs ++ map (shown_at cs) (range_with_len (p + (h + own)) t)) (map_split (shown_at cs) p h own)
    ∙ (ap (λ (gs : List (Frame What)). gs ++ map (shown_at cs) (range_with_len (p + h) own) ++ map (shown_at cs) (range_with_len (p + (h + own)) t)) (head_shown cs p before v vs st)
    ∙ (ap (λ (gs : List (Frame What)). head_frames before v ++ gs ++ map (shown_at cs) (range_with_len (p + (h + own)) t)) (own_shown cs p before v vs st)
    ∙ (ap (λ (n : ℕ). head_frames before v ++ own_frames v h t ++ map (shown_at cs) (range_with_len n t)) tail_at
    ∙ (ap (λ (gs : List (Frame What)). head_frames before v ++ own_frames v h t ++ gs) (tail_shown cs p before v vs st)
    ∙ ap (λ (m : Option Mark). head_frames before v ++ own_frames v h (left_reach m) ++ tail_frames v (first_of vs)) (sym (mark-first vs))))))))

views_shown : (cs : List Cell) (p : ℕ) (before : Option ItemView) (vs : List ItemView) → Stands cs p before vs → map (shown_at cs) (range_with_len p (frames_in vs)) ≡ frames_shown before vs
views_shown cs p before [] st = refl
views_shown cs p before (v ∷ vs) st =
    map_split (shown_at cs) p v.len (frames_in vs)
    ∙ (ap (λ (gs : List (Frame What)). gs ++ map (shown_at cs) (range_with_len (p + v.len) (frames_in vs))) (view_shown cs p before v vs st)
    ∙ ap (λ (gs : List (Frame What)). item_frames before v (first_of vs) ++ gs) (views_shown cs (p + v.len) (Some v) vs (stands_next cs p before v vs st)))

pub render_shown : (vs : List ItemView) → EachHolds vs → first_mark vs ≡ None → frames_shown None vs ≡ render (cells_of vs)
render_shown vs each first =
    let st : Stands (cells_of vs) 0 None vs = record { passed = λ q h. refl; rest = refl; last = λ l e. cc; held = first; each = each } in
    sym (views_shown (cells_of vs) 0 None vs st) ∙ ap (λ (n : ℕ). map (shown_at (cells_of vs)) (range_with_len 0 n)) (sym (length-cells_of vs))

-- what is shown from an index on

abbrev before_from : Option ItemView → List ItemView → ℕ → Option ItemView
before_from before vs zero = before
before_from before [] (suc i) = None
before_from before (v ∷ vs) (suc i) = before_from (Some v) vs i

stands_from : (cs : List Cell) (p : ℕ) (before : Option ItemView) (vs : List ItemView) (i : ℕ) → i ≤ length vs → Stands cs p before vs
    → Stands cs (p + frames_in (take i vs)) (before_from before vs i) (drop i vs)
stands_from cs p before vs zero h st = let e : p ≡ p + 0 = omega arith in subst (λ (k : ℕ). Stands cs k before vs) e st
stands_from cs p before [] (suc i) h st = absurd (omega arith)
stands_from cs p before (v ∷ vs) (suc i) h st =
    let e : p + v.len + frames_in (take i vs) ≡ p + (v.len + frames_in (take i vs)) = omega arith in
    subst (λ (k : ℕ). Stands cs k (before_from (Some v) vs i) (drop i vs)) e
    (stands_from cs (p + v.len) (Some v) vs i (omega arith) (stands_next cs p before v vs st))

before_is : (vs : List ItemView) (i : ℕ) → before_from None vs i ≡ item_before vs i
before_is vs zero = refl
before_is vs (suc i) = behind None vs i where
  behind : (o : Option ItemView) (ws : List ItemView) (j : ℕ) → before_from o ws (suc j) ≡ slice_get ws j
  behind o [] zero = refl
  behind o [] (suc j) = refl
  behind o (w ∷ ws) zero = refl
  behind o (w ∷ ws) (suc j) = behind (Some w) ws j

each_from : (before : Option ItemView) (vs : List ItemView) (i : ℕ) → EachBetween before vs → EachBetween (before_from before vs i) (drop i vs)
each_from before vs zero h = h
each_from before [] (suc i) h = tt
each_from before (v ∷ vs) (suc i) h = each_from (Some v) vs i h.1

-- what stands from an index on
pub record Begins (vs : List ItemView) (i : ℕ) : Type 0 where
  pub each : EachBetween (item_before vs i) (drop i vs)
  pub shown : frames_shown (item_before vs i) (drop i vs) ≡ drop (frames_in (take i vs)) (render (cells_of vs))
  pub frames : frames_in (take i vs) + frames_in (drop i vs) ≡ length (cells_of vs)

frames_split : (vs : List ItemView) (i : ℕ) → frames_in (take i vs) + frames_in (drop i vs) ≡ frames_in vs
frames_split vs zero = omega arith
frames_split [] (suc i) = refl
frames_split (v ∷ vs) (suc i) = omega (arith, frames_split vs i)

pub begins_at : (vs : List ItemView) (i : ℕ) → i ≤ length vs → EachHolds vs → first_mark vs ≡ None → frames_in vs < 4294967295 → Begins vs i
begins_at vs i h each first short =
    let cs = cells_of vs in
    let m = frames_in (take i vs) in
    let n = frames_in (drop i vs) in
    let st : Stands cs 0 None vs = record { passed = λ q h. refl; rest = refl; last = λ l e. cc; held = first; each = each } in
    let here = subst (λ (o : Option ItemView). Stands cs (0 + m) o (drop i vs)) (before_is vs i) (stands_from cs 0 None vs i h st) in
    let numbered = each_numbered 0 vs each (omega (arith, unmarked_reach (first_mark vs) first)) (omega arith) in
    let between = each_from None vs i (between_all None vs first each numbered) in
    let all : length cs ≡ m + n = length-cells_of vs ∙ sym (frames_split vs i) in
    record {
      each = subst (λ (o : Option ItemView). EachBetween o (drop i vs)) (before_is vs i) between;
      shown =
          sym (views_shown cs (0 + m) (item_before vs i) (drop i vs) here)
          ∙ sym (ap (λ (k : ℕ). drop m (map (shown_at cs) (range_with_len 0 k))) all
          ∙ (ap (drop m) (map_split (shown_at cs) 0 m n)
          ∙ drop_at (map (shown_at cs) (range_with_len 0 m)) (map (shown_at cs) (range_with_len (0 + m) n)) m (length-map-range_with_len (shown_at cs) 0 m)));
      frames = sym all;
    }
