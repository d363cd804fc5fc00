-- How many items and gaps there are after a shift: as many whatever links they have, and three more at most.
use Rattle.std.proofs.Common.{◌≡◌, ℕ, zero, suc, ◌+◌, ◌*◌, ◌-◌, ◌≤◌, Bool, true, false, cond, eqb, ltb, min, List, [], ◌∷◌, ◌++◌, take, drop, map, length, Option, Some, None, refl, sym, ap, ◌∙◌, arith}
use Rattle.std.proofs.lemmas.List.{length-append}
use Rattle.std.proofs.lemmas.List.Sums.{sum_by-cons}
use Rattle.frame_meaning.specs.declared.cells.Cell.{Cell}
use Rattle.frame_meaning.specs.declared.cells.Link.{Link}
use Rattle.frame_meaning.specs.declared.cells.Mark.{Mark}
use Rattle.frame_meaning.specs.declared.cells.What.{What}
use Rattle.frame_meaning.specs.declared.frames.Side.{Side}
use Rattle.frame_meaning.specs.Cells.{next_side, same_number, span}
use Rattle.frame_meaning.specs.Splice.{Rule, rule_of, renumbered, split_item, with_marks}
use Rattle.composables.specs.declared.items.ItemView.{ItemView}
use Rattle.composables.specs.Items.{cells_of, items_of, marked, view_cells, view_from, with_cell}
use Rattle.composables.specs.Sizes.{size_of, sizes_of}
use Rattle.composables.specs.TrackState.{TrackState, next_past_all}
use Rattle.composables.specs.Views.{gap_view, gap_views}
use Rattle.composables.proofs.Joining.{same-is, same-refl}
use Rattle.edit_splice.specs.declared.shifting.Shift.{Shift}
use Rattle.edit_splice.specs.Moves.{all_moved, moved, put_views}
use Rattle.edit_splice.specs.Padding.{new_len, new_views}
use Rattle.edit_splice.specs.Splicing.{spliced_track}

abbrev count : List Cell → ℕ
count cs = length (items_of cs)

-- one cell more in front

with_head : (c d : Cell) (vs : List ItemView) → length (with_cell c (with_cell d vs)) ≡ cond (same_number c.item d.item) 0 1 + length (with_cell d vs)
with_head c d [] = by (same_number c.item d.item) where
  by : (b : Bool) → length (cond b (view_from c 1 ∷ []) (view_from c 0 ∷ view_from d 0 ∷ [])) ≡ cond b 0 1 + 1
  by true = omega arith
  by false = omega arith
with_head c d (v ∷ vs) = at (same_number d.item v.item) where
  by : (b : Bool) (n : ℕ) (us : List ItemView) → length (cond b (view_from c n ∷ us) (view_from c 0 ∷ view_from d v.len ∷ us)) ≡ cond b 0 1 + suc (length us)
  by true n us = omega arith
  by false n us = omega arith

  at : (a : Bool) → length (with_cell c (cond a (view_from d v.len ∷ vs) (view_from d 0 ∷ v ∷ vs))) ≡ cond (same_number c.item d.item) 0 1 + length (cond a (view_from d v.len ∷ vs) (view_from d 0 ∷ v ∷ vs))
  at true = inner (same_number c.item d.item) where
    inner : (b : Bool) → length (cond b (view_from c (v.len + 1) ∷ vs) (view_from c 0 ∷ view_from d v.len ∷ vs)) ≡ cond b 0 1 + suc (length vs)
    inner true = omega arith
    inner false = omega arith
  at false = inner (same_number c.item d.item) where
    inner : (b : Bool) → length (cond b (view_from c 1 ∷ v ∷ vs) (view_from c 0 ∷ view_from d 0 ∷ v ∷ vs)) ≡ cond b 0 1 + suc (suc (length vs))
    inner true = omega arith
    inner false = omega arith

count_more : (c d : Cell) (ds : List Cell) → count (c ∷ d ∷ ds) ≡ cond (same_number c.item d.item) 0 1 + count (d ∷ ds)
count_more c d ds = with_head c d (items_of ds)

with_most : (c : Cell) (vs : List ItemView) → length (with_cell c vs) ≤ 1 + length vs
with_most c [] = omega arith
with_most c (v ∷ vs) = by (same_number c.item v.item) where
  by : (b : Bool) → length (cond b (view_from c v.len ∷ vs) (view_from c 0 ∷ v ∷ vs)) ≤ 1 + suc (length vs)
  by true = omega arith
  by false = omega arith

-- cells of the same items are as many items

abbrev pub SameItems : List Cell → List Cell → Type 0
SameItems [] [] = Unit {0}
SameItems [] (d ∷ ds) = ⊥
SameItems (c ∷ cs) [] = ⊥
SameItems (c ∷ cs) (d ∷ ds) = (c.item ≡ d.item) × SameItems cs ds

pub count-same : (cs ds : List Cell) → SameItems cs ds → length (items_of cs) ≡ length (items_of ds)
count-same [] [] h = refl
count-same [] (d ∷ ds) h = absurd h
count-same (c ∷ cs) [] h = absurd h
count-same (c ∷ []) (d ∷ []) h = refl
count-same (c ∷ []) (d ∷ e ∷ es) h = absurd h.1
count-same (c ∷ b ∷ bs) (d ∷ []) h = absurd h.1
count-same (c ∷ b ∷ bs) (d ∷ e ∷ es) h =
    count_more c b bs
    ∙ (ap (λ (n : ℕ). cond (same_number c.item b.item) 0 1 + n) (count-same (b ∷ bs) (e ∷ es) h.1)
    ∙ (ap (λ (o : Option ℕ). cond (same_number o b.item) 0 1 + count (e ∷ es)) h.0
    ∙ (ap (λ (o : Option ℕ). cond (same_number d.item o) 0 1 + count (e ∷ es)) h.1.0
    ∙ sym (count_more d e es))))

pub same-items : (cs : List Cell) → SameItems cs cs
same-items [] = tt
same-items (c ∷ cs) = (refl, same-items cs)

pub same-map : (f : Cell → Cell) → ((c : Cell) → (f c).item ≡ c.item) → (cs : List Cell) → SameItems (map f cs) cs
same-map f h [] = tt
same-map f h (c ∷ cs) = (h c, same-map f h cs)

pub same-append : (es bs cs ds : List Cell) → SameItems es bs → SameItems cs ds → SameItems (es ++ cs) (bs ++ ds)
same-append [] [] cs ds h k = k
same-append [] (b ∷ bs) cs ds h k = absurd h
same-append (a ∷ es) [] cs ds h k = absurd h
same-append (a ∷ es) (b ∷ bs) cs ds h k = (h.0, same-append es bs cs ds h.1 k)

pub same-length : (cs ds : List Cell) → SameItems cs ds → length cs ≡ length ds
same-length [] [] h = refl
same-length [] (d ∷ ds) h = absurd h
same-length (c ∷ cs) [] h = absurd h
same-length (c ∷ cs) (d ∷ ds) h = ap suc (same-length cs ds h.1)

same_marks : (rule : Rule) (x y p : ℕ) (cs : List Cell) → SameItems (with_marks rule x y p cs) cs
same_marks rule x y p [] = tt
same_marks rule x y p (c ∷ cs) = (refl, same_marks rule x y (p + 1) cs)

-- cells one after another

count_append : (cs bs : List Cell) → count (cs ++ bs) ≤ count cs + count bs
count_append [] bs = omega arith
count_append (a ∷ []) bs = omega (arith, with_most a (items_of bs))
count_append (a ∷ b ∷ cs) bs = omega (arith, count_append (b ∷ cs) bs, count_more a b cs, count_more a b (cs ++ bs))

fewer_behind : (c : Cell) (cs : List Cell) → count cs ≤ count (c ∷ cs)
fewer_behind c [] = omega arith
fewer_behind c (d ∷ ds) = omega (arith, count_more c d ds)

count_drop : (n : ℕ) (cs : List Cell) → count (drop n cs) ≤ count cs
count_drop zero cs = omega arith
count_drop (suc n) [] = omega arith
count_drop (suc n) (c ∷ cs) = omega (arith, count_drop n cs, fewer_behind c cs)

-- how many there are before x and from y on
count_ends : (x y : ℕ) (cs : List Cell) → x ≤ y → count (take x cs) + count (drop y cs) ≤ count cs + 1
count_ends zero y cs le = omega (arith, count_drop y cs)
count_ends (suc x) zero cs le = absurd (omega (arith, le))
count_ends (suc x) (suc y) [] le = omega arith
count_ends (suc x) (suc y) (c ∷ []) le = by x y where
  by : (x y : ℕ) → count (c ∷ take x []) + count (drop y []) ≤ 1 + 1
  by zero zero = omega arith
  by zero (suc y) = omega arith
  by (suc x) zero = omega arith
  by (suc x) (suc y) = omega arith
count_ends (suc zero) (suc y) (c ∷ d ∷ ds) le = omega (arith, count_drop y (d ∷ ds), count_more c d ds, fewer_behind c (d ∷ ds))
count_ends (suc (suc x)) (suc y) (c ∷ d ∷ ds) le = omega (arith, count_ends (suc x) y (d ∷ ds) (omega (arith, le)), count_more c d (take x ds), count_more c d ds)

span_one : (o : Option ℕ) (s : Side What) (l : Option Link) (n : ℕ) → count (span o s l n) ≤ 1
span_one o s l zero = omega arith
span_one o s l (suc zero) = omega arith
span_one o s l (suc (suc n)) =
    let c : Cell = record { item = o; side = s; mark = None; link = l } in
    let d : Cell = record { item = o; side = next_side s; mark = None; link = l } in
    let same : ◌≡◌ {A = ℕ} (cond (same_number o o) 0 1) 0 = ap (λ (b : Bool). cond {A = ℕ} b 0 1) (same-refl o) in
    omega (arith, span_one o (next_side s) l (suc n), count_more c d (span o (next_side (next_side s)) l n), same)

view_one : (v : ItemView) → count (view_cells v) ≤ 1
view_one v = omega (arith, count-same (view_cells v) (span v.item v.first v.link v.len) (by v.mark (span v.item v.first v.link v.len)), span_one v.item v.first v.link v.len) where
  by : (m : Option Mark) (cs : List Cell) → SameItems (marked m cs) cs
  by m [] = tt
  by m (c ∷ cs) = (refl, same-items cs)

count_views : (vs : List ItemView) → count (cells_of vs) ≤ length vs
count_views [] = omega arith
count_views (v ∷ vs) = omega (arith, count_append (view_cells v) (cells_of vs), view_one v, count_views vs)

-- cells that belong together do so with other numbers
same_renumbered : (s : Option ℕ) (fresh : ℕ) (c d : Cell) → same_number c.item d.item ≡ true → same_number (renumbered s fresh c).item (renumbered s fresh d).item ≡ true
same_renumbered None fresh c d e = e
same_renumbered (Some i) fresh c d e =
    let is : c.item ≡ d.item = same-is c.item d.item e in
    ap (λ (o : Option ℕ). same_number (cond (same_number c.item (Some i)) (record c { item = Some fresh }) c).item o) (sym (one c d is)) ∙ same-refl (renumbered (Some i) fresh c).item where
      pick : (b : Bool) (c d : Cell) → c.item ≡ d.item → (cond b (record c { item = Some fresh }) c).item ≡ (cond b (record d { item = Some fresh }) d).item
      pick true c d is = refl
      pick false c d is = is

      one : (c d : Cell) → c.item ≡ d.item → (renumbered (Some i) fresh c).item ≡ (renumbered (Some i) fresh d).item
      one c d is = pick (same_number c.item (Some i)) c d is ∙ ap (λ (o : Option ℕ). (cond (same_number o (Some i)) (record d { item = Some fresh }) d).item) is

count_renumbered : (s : Option ℕ) (fresh : ℕ) (cs : List Cell) → count (map (renumbered s fresh) cs) ≤ count cs
count_renumbered s fresh [] = omega arith
count_renumbered s fresh (c ∷ []) = omega arith
count_renumbered s fresh (c ∷ d ∷ ds) =
    omega (
      arith,
      count_renumbered s fresh (d ∷ ds),
      count_more c d ds,
      count_more (renumbered s fresh c) (renumbered s fresh d) (map (renumbered s fresh) ds),
      by (same_number c.item d.item) (same_number (renumbered s fresh c).item (renumbered s fresh d).item) refl refl,
    ) where
      by : (a b : Bool) → same_number c.item d.item ≡ a → same_number (renumbered s fresh c).item (renumbered s fresh d).item ≡ b
          → cond {A = ℕ} (same_number (renumbered s fresh c).item (renumbered s fresh d).item) 0 1 ≤ cond {A = ℕ} (same_number c.item d.item) 0 1
      by true b e f =
          let g : ◌≡◌ {A = ℕ} (cond (same_number (renumbered s fresh c).item (renumbered s fresh d).item) 0 1) 0 = ap (λ (x : Bool). cond {A = ℕ} x 0 1) (same_renumbered s fresh c d e) in
          omega (arith, g)
      by false true e f =
          let g : ◌≡◌ {A = ℕ} (cond (same_number (renumbered s fresh c).item (renumbered s fresh d).item) 0 1) 0 = ap (λ (x : Bool). cond {A = ℕ} x 0 1) f in
          omega (arith, g)
      by false false e f =
          let g : ◌≡◌ {A = ℕ} (cond (same_number (renumbered s fresh c).item (renumbered s fresh d).item) 0 1) 1 = ap (λ (x : Bool). cond {A = ℕ} x 0 1) f in
          let h : ◌≡◌ {A = ℕ} (cond (same_number c.item d.item) 0 1) 1 = ap (λ (x : Bool). cond {A = ℕ} x 0 1) e in
          omega (arith, g, h)

same_take : (n : ℕ) (cs ds : List Cell) → SameItems cs ds → SameItems (take n cs) (take n ds)
same_take zero cs ds h = tt
same_take (suc n) [] [] h = tt
same_take (suc n) [] (d ∷ ds) h = absurd h
same_take (suc n) (c ∷ cs) [] h = absurd h
same_take (suc n) (c ∷ cs) (d ∷ ds) h = (h.0, same_take n cs ds h.1)

same_drop : (n : ℕ) (cs ds : List Cell) → SameItems cs ds → SameItems (drop n cs) (drop n ds)
same_drop zero cs ds h = h
same_drop (suc n) [] [] h = tt
same_drop (suc n) [] (d ∷ ds) h = absurd h
same_drop (suc n) (c ∷ cs) [] h = absurd h
same_drop (suc n) (c ∷ cs) (d ∷ ds) h = same_drop n cs ds h.1

count_spliced : (keep : Bool) (t : TrackState) (x y : ℕ) (views : List ItemView) → x ≤ y → length (items_of (spliced_track keep t x y views).cells) ≤ length (items_of t.cells) + 1 + length views
count_spliced keep t x y views le =
    let all : List Cell = with_marks (rule_of keep) x y 0 t.cells in
    let s : Option ℕ = split_item t.cells x y in
    let fresh : ℕ = next_past_all t.next_item views in
    let marks : SameItems all t.cells = same_marks (rule_of keep) x y 0 t.cells in
    omega (
      arith,
      count_append (take x all ++ cells_of views) (map (renumbered s fresh) (drop y all)),
      count_append (take x all) (cells_of views),
      count_views views,
      count_renumbered s fresh (drop y all),
      count_ends x y all le,
      count-same all t.cells marks,
    )

few_gaps : (n : ℕ) → length (gap_views n) ≤ 1
few_gaps n = by (eqb n 0) where
  by : (b : Bool) → length (cond b [] (gap_view n ∷ [])) ≤ 1
  by true = omega arith
  by false = omega arith

few_new : (o : Option ItemView) → length (new_views o) ≤ 1
few_new None = omega arith
few_new (Some v) = omega arith

few_put : (s : Shift) (t : TrackState) → length (put_views s t) ≤ 2
few_put s t = by (eqb t.number s.own) (ltb s.x (length t.cells)) where
  by : (a b : Bool) → length (cond a (gap_views (s.x - length t.cells) ++ new_views s.new) (cond b (gap_views (new_len s.new)) [])) ≤ 2
  by true b = omega (arith, length-append (gap_views (s.x - length t.cells)) (new_views s.new), few_gaps (s.x - length t.cells), few_new s.new)
  by false true = omega (arith, few_gaps (new_len s.new))
  by false false = omega arith

size_moved : (s : Shift) (t : TrackState) → s.x ≤ s.y → size_of (moved s t) ≤ 2 * size_of t
size_moved s t le = omega (arith, count_spliced s.keep t (min s.x (length t.cells)) (min s.y (length t.cells)) (put_views s t) (omega (arith, le)), few_put s t)

pub sizes-moved : (s : Shift) (ts : List TrackState) → s.x ≤ s.y → sizes_of (all_moved s ts) ≤ 2 * sizes_of ts
sizes-moved s [] le = omega arith
sizes-moved s (t ∷ ts) le = omega (arith, sum_by-cons size_of t ts, sum_by-cons size_of (moved s t) (all_moved s ts), size_moved s t le, sizes-moved s ts le)
