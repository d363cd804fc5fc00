-- A ripple's shift splits links as they are split cell by cell, also where an item reaches back.
use Rattle.std.proofs.Common.{◌≡◌, ◌≢◌, ℕ, zero, suc, ◌+◌, ◌-◌, ◌<◌, ◌≤◌, Bool, true, false, cond, eqb, ltb, min, List, [], ◌∷◌, ◌++◌, All, take, drop, map, length, get_or, unwrap_or, Option, Some, None, IfSome, Ok, slice_get, refl, sym, ap, ◌∙◌, arith, subst, append_assoc}
use Rattle.std.proofs.lemmas.Bool.{eqb-false, eqb-true, ltb-false, ltb-true, ne_eqb}
use Rattle.std.proofs.lemmas.List.{append-nil, drop-append-le, drop_all, get_or-append-add, get_or-drop, get_or-map, length-append, length-drop, length-take, map-append, take_all, take_at}
use Rattle.std.proofs.lemmas.Option.{slice_get_within}
use Rattle.frame_meaning.specs.declared.cells.Cell.{Cell}
use Rattle.frame_meaning.specs.declared.cells.Link.{Link}
use Rattle.frame_meaning.specs.declared.cells.What.{What}
use Rattle.frame_meaning.specs.declared.frames.Side.{Side}
use Rattle.frame_meaning.specs.Cells.{dark_cell, next_side, span}
use Rattle.frame_meaning.specs.Render.{cell_at}
use Rattle.frame_meaning.specs.Splice.{rule_of, next_after_splice, renumbered, split_item, with_marks}
use Rattle.composables.specs.declared.items.ItemView.{ItemView}
use Rattle.composables.specs.declared.media.Table.{Table}
use Rattle.composables.specs.declared.refusals.Done.{Done}
use Rattle.composables.specs.declared.refusals.Refusal.{Refusal}
use Rattle.composables.specs.declared.refusals.Refusal.TheVariants.{TooLong, TooManyItems}
use Rattle.composables.specs.declared.TheConstants.{MAX_FRAMES, MAX_ITEMS}
use Rattle.composables.specs.Answers.{unless}
use Rattle.composables.specs.Changes.{with_link}
use Rattle.composables.specs.Good.{IsGood}
use Rattle.composables.specs.Items.{cell_in, cells_of, items_of, marked, view_cells}
use Rattle.composables.specs.Joined.{frames_in}
use Rattle.composables.specs.Limits.{too_long, too_many, unless_over, within_limits}
use Rattle.composables.specs.Links.{cells_from, count_at_home, link_outside, links_split, moved_cell, moved_link, split_links, split_track}
use Rattle.composables.specs.OwnTracks.{track_numbered}
use Rattle.composables.specs.TrackFacts.{Apart, EachHolds, IsKept, Lacks}
use Rattle.composables.specs.TrackState.{TrackState, next_past_all}
use Rattle.composables.specs.Views.{gap_view, gap_views}
use Rattle.composables.proofs.Joining.{cells_of-append, length-cells_of, length-view_cells}
use Rattle.edit_delta.specs.Reaching.{going_on, reaching_back}
use Rattle.edit_delta.proofs.Spots.{Spot, spot-head}
use Rattle.edit_splice.specs.declared.shifting.Shift.{Shift}
use Rattle.edit_splice.specs.Moves.{IsShiftOf, all_moved, moved, put_views}
use Rattle.edit_splice.specs.Padding.{new_views}
use Rattle.edit_splice.specs.Shifts.{shift_of, shift_refusal, shifted}
use Rattle.edit_splice.specs.Splicing.{spliced_track}
use Rattle.edit_splice.proofs.Bridging.{extract-moved}
use Rattle.edit_splice.proofs.Cellwise.{cell-before, cell-between}
use Rattle.edit_splice.proofs.Keeping.{length-spliced}
use Rattle.edit_splice.proofs.Numbers.{next-append}
use Rattle.edit_splice.proofs.Moving.{frames-put, length-none, put-along, put-own}
use Rattle.edit_splice.proofs.Padding.{frames-gap}
use Rattle.edit_splice.proofs.Surviving.{length-marks}
use Rattle.edit_trim.specs.Rippling.{as_split}
use Rattle.link_groups.specs.LinkedShifts.{linked_shift, split_items}
use Rattle.link_groups.specs.Renumbering.{IsUncut}
use Rattle.link_groups.proofs.ItemCounts.{SameItems, count-same, same-append, same-items, same-length}
use Rattle.link_groups.proofs.LinkedShifts.{EachUncut, long-same, many-same, tracks-same, within-kept}
use Rattle.link_groups.proofs.Meant.{ends-new, ends-none, uncut-beyond, uncut-moved}
use Rattle.link_groups.proofs.ShiftLinks.{splits-moved}
use Rattle.link_groups.proofs.SplitCells.{items-cells, view-moved}
use Rattle.link_groups.proofs.Uncut.{EndsApart, cell-there, uncut-by}

-- what stands beside an item is not the item

lacks_of : (o : Option ℕ) (n : ℕ) (vs : List ItemView) → IfSome o (λ j. Lacks j vs) → o ≡ Some n → Lacks n vs
lacks_of None n vs h e = absurd cc
lacks_of (Some j) n vs h e = let same : j ≡ n = cc in subst (λ (m : ℕ). Lacks m vs) same h

first_lacks : (vs : List ItemView) (n : ℕ) → EachHolds vs → Lacks n vs → (cell_at (cells_of vs) 0).item ≢ Some n
first_lacks [] n h l e = absurd cc
first_lacks (v ∷ vs) n h l e = l.0 (sym (ap (λ (c : Cell). c.item) (cell-there (v ∷ vs) 0 0 v refl h.0.filled)) ∙ e)

behind_apart : (vs : List ItemView) (i : ℕ) (v : ItemView) (n : ℕ) → EachHolds vs → Apart vs → slice_get vs i ≡ Some v → v.item ≡ Some n → (cell_at (cells_of vs) (frames_in (take (suc i) vs))).item ≢ Some n
behind_apart [] i v n h a e is = absurd (omega (arith, slice_get_within [] i v e))
behind_apart (w ∷ ws) zero v n h a e is =
    let same : w ≡ v = cc in
    let number : w.item ≡ Some n = ap (λ (u : ItemView). u.item) same ∙ is in
    let at : w.len + 0 ≡ length (view_cells w) + 0 = omega (arith, length-view_cells w) in
    λ f. first_lacks ws n h.1 (lacks_of w.item n ws a.0 number)
    (sym (ap (λ (c : Cell). c.item) (ap (λ (k : ℕ). cell_at (view_cells w ++ cells_of ws) k) at ∙ get_or-append-add (view_cells w) (cells_of ws) 0 dark_cell)) ∙ f)
behind_apart (w ∷ ws) (suc i) v n h a e is =
    let at : w.len + frames_in (take (suc i) ws) ≡ length (view_cells w) + frames_in (take (suc i) ws) = omega (arith, length-view_cells w) in
    λ f. behind_apart ws i v n h.1 a.1 e is
    (sym (ap (λ (c : Cell). c.item) (ap (λ (k : ℕ). cell_at (view_cells w ++ cells_of ws) k) at ∙ get_or-append-add (view_cells w) (cells_of ws) (frames_in (take (suc i) ws)) dark_cell)) ∙ f)

there_lacks : (vs : List ItemView) (i : ℕ) (v : ItemView) (n : ℕ) → Lacks n vs → slice_get vs i ≡ Some v → v.item ≡ Some n → ⊥
there_lacks [] i v n l e is = absurd (omega (arith, slice_get_within [] i v e))
there_lacks (w ∷ ws) zero v n l e is = let same : w ≡ v = cc in l.0 (ap (λ (u : ItemView). u.item) same ∙ is)
there_lacks (w ∷ ws) (suc i) v n l e is = there_lacks ws i v n l.1 e is

-- the last cell before an item is not its own
before_apart : (vs : List ItemView) (i : ℕ) (v : ItemView) (n : ℕ) → EachHolds vs → Apart vs → slice_get vs i ≡ Some v → v.item ≡ Some n → 0 < frames_in (take i vs)
    → (cell_at (cells_of vs) (frames_in (take i vs) - 1)).item ≢ Some n
before_apart [] i v n h a e is some = absurd (omega (arith, slice_get_within [] i v e))
before_apart (w ∷ ws) zero v n h a e is some = absurd (omega (arith, some))
before_apart (w ∷ ws) (suc zero) v n h a e is some =
    let at : w.len + 0 - 1 ≡ 0 + (w.len - 1) = omega (arith, h.0.filled) in
    λ f. there_lacks ws 0 v n
    (lacks_of w.item n ws a.0 (sym (ap (λ (c : Cell). c.item) (ap (λ (k : ℕ). cell_at (cells_of (w ∷ ws)) k) at ∙ cell-there (w ∷ ws) 0 (w.len - 1) w refl (omega (arith, h.0.filled)))) ∙ f)) e is
before_apart (w ∷ []) (suc (suc i)) v n h a e is some = absurd (omega (arith, slice_get_within [] (suc i) v e))
before_apart (w ∷ u ∷ us) (suc (suc i)) v n h a e is some =
    let rest : 0 < frames_in (take (suc i) (u ∷ us)) = omega (arith, h.1.0.filled) in
    let at : w.len + frames_in (take (suc i) (u ∷ us)) - 1 ≡ length (view_cells w) + (frames_in (take (suc i) (u ∷ us)) - 1) = omega (arith, length-view_cells w, rest) in
    λ f. before_apart (u ∷ us) (suc i) v n h.1 a.1 e is rest
    (sym (ap (λ (c : Cell). c.item) (ap (λ (k : ℕ). cell_at (view_cells w ++ cells_of (u ∷ us)) k) at ∙ get_or-append-add (view_cells w) (cells_of (u ∷ us)) (frames_in (take (suc i) (u ∷ us)) - 1) dark_cell)) ∙ f)

-- the end of the frames by which an item goes on
pub tail-ends : (table : Table) (t : TrackState) (i : ℕ) (v : ItemView) (x y n : ℕ) → IsGood table t → Spot table t i v x y → 0 < n → EndsApart t (min y (length t.cells)) (gap_views (y - length t.cells) ++ going_on (cell_in v (v.len - 1)) n ∷ [])
tail-ends table t i v x y n good s some = by v.item refl s.number where
  g : ItemView
  g = going_on (cell_in v (v.len - 1)) n

  by : (o : Option ℕ) → v.item ≡ o → IfSome v.item (λ j. j < t.next_item) → EndsApart t (min y (length t.cells)) (gap_views (y - length t.cells) ++ going_on (cell_in v (v.len - 1)) n ∷ [])
  by None e below = ends-none t (min y (length t.cells)) (y - length t.cells) (going_on (cell_in v (v.len - 1)) n) some e
  by (Some j) e below =
      let less : j < t.next_item = some_less v.item e below in
      let at : min y (length t.cells) ≡ frames_in (take (suc i) (items_of t.cells)) = omega (arith, s.within, s.stops, next) in
      ends-new t (min y (length t.cells)) (y - length t.cells) j (going_on (cell_in v (v.len - 1)) n) some e
      (λ f. behind_apart (items_of t.cells) i v j good.kept.each good.kept.apart s.read e
      (ap (λ (cs : List Cell). (cell_at cs (frames_in (take (suc i) (items_of t.cells)))).item) good.kept.whole ∙ (ap (λ (k : ℕ). (cell_at t.cells k).item) (sym at) ∙ f)))
      (λ f. omega (arith, f, less)) where
        next : frames_in (take (i + 1) (items_of t.cells)) ≡ frames_in (take (suc i) (items_of t.cells))
        next = let same : i + 1 ≡ suc i = omega arith in ap (λ (k : ℕ). frames_in (take k (items_of t.cells))) same

        some_less : (o : Option ℕ) → o ≡ Some j → IfSome o (λ j. j < t.next_item) → j < t.next_item
        some_less None f h = absurd cc
        some_less (Some k) f h = let same : k ≡ j = cc in omega (arith, h, same)

-- a shift that puts nothing into the own track, or frames by which an item goes on
pub uncut-ripple : (table : Table) (s : Shift) (ts : List TrackState) → s.x ≤ s.y → All (IsGood table) ts
    → All (λ (t : TrackState). t.number ≡ s.own → EndsApart t (min s.y (length t.cells)) (gap_views (s.x - length t.cells) ++ new_views s.new)) ts → EachUncut s ts
uncut-ripple table s ts order good ends k d lt after = uncut-moved s (get_or ts k d) (good k d lt).kept order (ends k d lt) after

pub ends-nothing : (t : TrackState) (y n : ℕ) → n ≡ 0 → EndsApart t y (gap_views n ++ new_views None)
ends-nothing t y n e some = absurd (omega (arith, some, frames-put n None, e))

-- where an item reaches back, with its link or with the one that its frames get

abbrev pub back_shift : ℕ → ℕ → ItemView → Shift
back_shift own x g = record { own = own; x = x; y = x; new = Some g; keep = false }

put_changed : (f : Cell → Cell) (front put after tail : List Cell) (x z : ℕ) → length front ≡ x → x + length after ≡ z → map f put ≡ after
    → take z ((front ++ after) ++ tail) ++ map f (drop z ((front ++ after) ++ tail)) ≡ take x ((front ++ put) ++ tail) ++ map f (drop x ((front ++ put) ++ tail))
put_changed f front put after tail x z long sum same =
    let all : length (front ++ after) ≡ z = omega (arith, length-append front after, long, sum) in
    ap (λ (cs : List Cell). cs ++ map f (drop z ((front ++ after) ++ tail))) (take_at (front ++ after) tail z all)
    ∙ (ap (λ (cs : List Cell). (front ++ after) ++ map f cs) (behind (front ++ after) tail z all)
    ∙ (append_assoc front after (map f tail)
    ∙ (ap (λ (cs : List Cell). front ++ (cs ++ map f tail)) (sym same)
    ∙ (ap (λ (cs : List Cell). front ++ cs) (sym (map-append f put tail))
    ∙ sym (ap (λ (cs : List Cell). take x cs ++ map f (drop x cs)) (append_assoc front put tail)
    ∙ (ap (λ (cs : List Cell). cs ++ map f (drop x (front ++ (put ++ tail)))) (take_at front (put ++ tail) x long)
    ∙ ap (λ (cs : List Cell). front ++ map f cs) (behind front (put ++ tail) x long))))))) where
      behind : (ks ls : List Cell) (n : ℕ) → length ks ≡ n → drop n (ks ++ ls) ≡ ls
      behind ks ls n e = drop-append-le n ks ls (omega (arith, e)) ∙ ap (λ (cs : List Cell). cs ++ ls) (drop_all n ks (omega (arith, e)))

past_all : (f : Cell → Cell) (n : ℕ) (cs : List Cell) → length cs ≤ n → take n cs ++ map f (drop n cs) ≡ cs
past_all f n cs le =
    ap (λ (ds : List Cell). ds ++ map f (drop n cs)) (take_all n cs le) ∙ (ap (λ (ds : List Cell). cs ++ map f ds) (drop_all n cs le) ∙ append-nil cs)

dark_moved : (tracks : List TrackState) (splits : List Link) (n : ℕ) → map (moved_cell tracks splits) (cells_of (gap_views n)) ≡ cells_of (gap_views n)
dark_moved tracks splits n = by (eqb n 0) where
  by : (b : Bool) → map (moved_cell tracks splits) (cells_of (cond b [] (gap_view n ∷ []))) ≡ cells_of (cond b [] (gap_view n ∷ []))
  by true = refl
  by false = map-append (moved_cell tracks splits) (view_cells (gap_view n)) [] ∙ ap (λ (cs : List Cell). cs ++ []) (view-moved tracks splits (gap_view n))

one_moved : (tracks : List TrackState) (splits : List Link) (g : ItemView) → map (moved_cell tracks splits) (cells_of (g ∷ [])) ≡ cells_of (with_link (moved_link tracks splits g.link) g ∷ [])
one_moved tracks splits g = map-append (moved_cell tracks splits) (view_cells g) [] ∙ ap (λ (cs : List Cell). cs ++ []) (view-moved tracks splits g)

front_long : (t : TrackState) (x y : ℕ) → x ≤ length t.cells → length (take x (with_marks (rule_of false) x y 0 t.cells)) ≡ x
front_long t x y le = omega (arith, length-take x (with_marks (rule_of false) x y 0 t.cells), length-marks (rule_of false) x y 0 t.cells, le)

-- a track into which frames are put at x is split behind them or, where they have got no link yet, before them
spliced_reach : (tracks : List TrackState) (splits : List Link) (x : ℕ) (g : ItemView) (t : TrackState) (ws vs : List ItemView) → next_past_all t.next_item ws ≡ next_past_all t.next_item vs → x ≤ length t.cells → frames_in ws ≡ g.len
    → map (moved_cell tracks splits) (cells_of vs) ≡ cells_of ws → split_track (x + g.len) tracks splits (spliced_track false t x x ws) ≡ split_track x tracks splits (spliced_track false t x x vs)
spliced_reach tracks splits x g t ws vs e le sum same =
    ap (λ (n : ℕ). split_track (x + g.len) tracks splits (record t { cells = (take x (with_marks (rule_of false) x x 0 t.cells) ++ cells_of ws) ++ map (renumbered (split_item t.cells x x) n) (drop x (with_marks (rule_of false) x x 0 t.cells)); next_item = next_after_splice t.cells x x n })) e
    ∙ ap (λ (cs : List Cell). record t { cells = cs; next_item = next_after_splice t.cells x x (next_past_all t.next_item vs); next_link = t.next_link + count_at_home splits t.number })
    (put_changed (moved_cell tracks splits) (take x (with_marks (rule_of false) x x 0 t.cells)) (cells_of vs) (cells_of ws) (map (renumbered (split_item t.cells x x) (next_past_all t.next_item vs)) (drop x (with_marks (rule_of false) x x 0 t.cells))) x (x + g.len)
    (front_long t x x le) (omega (arith, length-cells_of ws, sum)) same)

pub own-reach : (tracks : List TrackState) (splits : List Link) (x : ℕ) (g : ItemView) (t : TrackState) → x ≤ length t.cells
    → split_track (x + g.len) tracks splits (spliced_track false t x x (with_link (moved_link tracks splits g.link) g ∷ [])) ≡ split_track x tracks splits (spliced_track false t x x (g ∷ []))
own-reach tracks splits x g t le = spliced_reach tracks splits x g t (with_link (moved_link tracks splits g.link) g ∷ []) (g ∷ []) refl le (omega arith) (one_moved tracks splits g)

-- the cells of one track
reach_cells : (tracks : List TrackState) (splits : List Link) (own x : ℕ) (g : ItemView) (t : TrackState) → 0 < g.len → (t.number ≡ own → x ≤ length t.cells)
    → split_track (x + g.len) tracks splits (moved (back_shift own x (with_link (moved_link tracks splits g.link) g)) t) ≡ split_track x tracks splits (moved (back_shift own x g) t)
reach_cells tracks splits own x g t some has = by (eqb t.number own) refl (ltb x (length t.cells)) refl where
  f : Cell → Cell
  f = moved_cell tracks splits

  new : ItemView
  new = with_link (moved_link tracks splits g.link) g

  k : ℕ
  k = min x (length t.cells)

  Goal : List ItemView → List ItemView → Type 0
  Goal ws vs = split_track (x + g.len) tracks splits (spliced_track false t (min x (length t.cells)) (min x (length t.cells)) ws) ≡ split_track x tracks splits (spliced_track false t (min x (length t.cells)) (min x (length t.cells)) vs)

  same_next : (ws vs : List ItemView) → next_past_all t.next_item ws ≡ next_past_all t.next_item vs → x ≤ length t.cells → frames_in ws ≡ g.len → map (moved_cell tracks splits) (cells_of vs) ≡ cells_of ws → Goal ws vs
  same_next ws vs e le sum same =
      let at : min x (length t.cells) ≡ x = omega (arith, le) in
      subst (λ (m : ℕ). split_track (x + g.len) tracks splits (spliced_track false t m m ws) ≡ split_track x tracks splits (spliced_track false t m m vs)) (sym at)
      (spliced_reach tracks splits x g t ws vs e le sum same)

  by : (a : Bool) → eqb t.number own ≡ a → (b : Bool) → ltb x (length t.cells) ≡ b
      → Goal (cond a (gap_views (x - length t.cells) ++ with_link (moved_link tracks splits g.link) g ∷ []) (cond b (gap_views g.len) [])) (cond a (gap_views (x - length t.cells) ++ g ∷ []) (cond b (gap_views g.len) []))
  by true e b h =
      let le = has (eqb-true t.number own e) in
      let z : x - length t.cells ≡ 0 = omega (arith, le) in
      subst (λ (n : ℕ). Goal (gap_views n ++ with_link (moved_link tracks splits g.link) g ∷ []) (gap_views n ++ g ∷ [])) (sym z)
      (same_next (with_link (moved_link tracks splits g.link) g ∷ []) (g ∷ []) refl le (omega arith) (one_moved tracks splits g))
  by false e true h = same_next (gap_views g.len) (gap_views g.len) refl (omega (arith, ltb-true x (length t.cells) h)) (frames-gap g.len) (dark_moved tracks splits g.len)
  by false e false h =
      let le : length t.cells ≤ x = ltb-false x (length t.cells) h in
      let long : length (spliced_track false t (min x (length t.cells)) (min x (length t.cells)) []).cells ≡ length t.cells =
      length-spliced (rule_of false) t.cells (min x (length t.cells)) (min x (length t.cells)) [] t.next_item ∙ omega arith in
      ap (λ (cs : List Cell). record t { cells = cs; next_item = (spliced_track false t (min x (length t.cells)) (min x (length t.cells)) []).next_item; next_link = t.next_link + count_at_home splits t.number })
      (past_all (moved_cell tracks splits) (x + g.len) (spliced_track false t (min x (length t.cells)) (min x (length t.cells)) []).cells (omega (arith, long, le))
      ∙ sym (past_all (moved_cell tracks splits) x (spliced_track false t (min x (length t.cells)) (min x (length t.cells)) []).cells (omega (arith, long, le))))

reach_each : (tracks : List TrackState) (splits : List Link) (own x : ℕ) (g : ItemView) (ts : List TrackState) → 0 < g.len → All (λ (t : TrackState). t.number ≡ own → x ≤ length t.cells) ts
    → map (split_track (x + g.len) tracks splits) (all_moved (back_shift own x (with_link (moved_link tracks splits g.link) g)) ts) ≡ map (split_track x tracks splits) (all_moved (back_shift own x g) ts)
reach_each tracks splits own x g [] some has = refl
reach_each tracks splits own x g (t ∷ ts) some has =
    ap (λ (u : TrackState). u ∷ map (split_track (x + g.len) tracks splits) (all_moved (back_shift own x (with_link (moved_link tracks splits g.link) g)) ts)) (reach_cells tracks splits own x g t some (has 0 t (omega arith)))
    ∙ ap (λ (us : List TrackState). split_track x tracks splits (moved (back_shift own x g) t) ∷ us) (reach_each tracks splits own x g ts some (λ k d lt. has (suc k) d (omega (arith, lt))))

items_each : (tracks : List TrackState) (splits : List Link) (x : ℕ) (s : Shift) (ts : List TrackState) → All (λ (t : TrackState). IsKept (moved s t)) ts → All (λ (t : TrackState). IsUncut x (moved s t)) ts
    → map (split_items tracks splits x) (all_moved s ts) ≡ map (split_track x tracks splits) (all_moved s ts)
items_each tracks splits x s [] kept uncut = refl
items_each tracks splits x s (t ∷ ts) kept uncut =
    ap (λ (u : TrackState). u ∷ map (split_items tracks splits x) (all_moved s ts)) (items-cells tracks splits x (moved s t) (kept 0 t (omega arith)) (uncut 0 t (omega arith)))
    ∙ ap (λ (us : List TrackState). split_track x tracks splits (moved s t) ∷ us) (items_each tracks splits x s ts (λ k d lt. kept (suc k) d (omega (arith, lt))) (λ k d lt. uncut (suc k) d (omega (arith, lt))))

-- both have as many frames, items and gaps

same_views : (l : Option Link) (g : ItemView) → SameItems (cells_of (with_link l g ∷ [])) (cells_of (g ∷ []))
same_views l g = same-append (view_cells (with_link l g)) (view_cells g) [] [] (marks (span g.item g.first l g.len) (span g.item g.first g.link g.len) (spans g.item g.first g.len)) tt where
  spans : (o : Option ℕ) (d : Side What) (n : ℕ) → SameItems (span o d l n) (span o d g.link n)
  spans o d zero = tt
  spans o d (suc n) = (refl, spans o (next_side d) n)

  marks : (cs ds : List Cell) → SameItems cs ds → SameItems (marked g.mark cs) (marked g.mark ds)
  marks [] [] h = tt
  marks [] (d ∷ ds) h = absurd h
  marks (c ∷ cs) [] h = absurd h
  marks (c ∷ cs) (d ∷ ds) h = (h.0, h.1)

same_moved : (own x : ℕ) (l : Option Link) (g : ItemView) (t : TrackState) → SameItems (moved (back_shift own x (with_link l g)) t).cells (moved (back_shift own x g) t).cells
same_moved own x l g t = by (eqb t.number own) where
  k : ℕ
  k = min x (length t.cells)

  at : (ws vs : List ItemView) → next_past_all t.next_item ws ≡ next_past_all t.next_item vs → SameItems (cells_of ws) (cells_of vs)
      → SameItems (spliced_track false t (min x (length t.cells)) (min x (length t.cells)) ws).cells (spliced_track false t (min x (length t.cells)) (min x (length t.cells)) vs).cells
  at ws vs e h =
      let all : List Cell = with_marks (rule_of false) (min x (length t.cells)) (min x (length t.cells)) 0 t.cells in
      let tail : ℕ → List Cell = λ n. map (renumbered (split_item t.cells (min x (length t.cells)) (min x (length t.cells))) n) (drop (min x (length t.cells)) all) in
      same-append (take (min x (length t.cells)) all ++ cells_of ws) (take (min x (length t.cells)) all ++ cells_of vs) (tail (next_past_all t.next_item ws)) (tail (next_past_all t.next_item vs))
      (same-append (take (min x (length t.cells)) all) (take (min x (length t.cells)) all) (cells_of ws) (cells_of vs) (same-items (take (min x (length t.cells)) all)) h)
      (subst (λ (n : ℕ). SameItems (tail n) (tail (next_past_all t.next_item vs))) (sym e) (same-items (tail (next_past_all t.next_item vs))))

  by : (a : Bool) → SameItems (spliced_track false t (min x (length t.cells)) (min x (length t.cells)) (cond a (gap_views (x - length t.cells) ++ with_link l g ∷ []) (cond (ltb x (length t.cells)) (gap_views g.len) []))).cells
      (spliced_track false t (min x (length t.cells)) (min x (length t.cells)) (cond a (gap_views (x - length t.cells) ++ g ∷ []) (cond (ltb x (length t.cells)) (gap_views g.len) []))).cells
  by true =
      at (gap_views (x - length t.cells) ++ with_link l g ∷ []) (gap_views (x - length t.cells) ++ g ∷ [])
      (next-append t.next_item (gap_views (x - length t.cells)) (with_link l g ∷ []) ∙ sym (next-append t.next_item (gap_views (x - length t.cells)) (g ∷ [])))
      (subst (λ (cs : List Cell). SameItems cs (cells_of (gap_views (x - length t.cells) ++ g ∷ []))) (sym (cells_of-append (gap_views (x - length t.cells)) (with_link l g ∷ [])))
      (subst (λ (cs : List Cell). SameItems (cells_of (gap_views (x - length t.cells)) ++ cells_of (with_link l g ∷ [])) cs) (sym (cells_of-append (gap_views (x - length t.cells)) (g ∷ [])))
      (same-append (cells_of (gap_views (x - length t.cells))) (cells_of (gap_views (x - length t.cells))) (cells_of (with_link l g ∷ [])) (cells_of (g ∷ [])) (same-items (cells_of (gap_views (x - length t.cells)))) (same_views l g))))
  by false = same-items (spliced_track false t (min x (length t.cells)) (min x (length t.cells)) (cond (ltb x (length t.cells)) (gap_views g.len) [])).cells

long_moved : (own x : ℕ) (l : Option Link) (g : ItemView) (ts : List TrackState) → too_long (all_moved (back_shift own x (with_link l g)) ts) ≡ too_long (all_moved (back_shift own x g) ts)
long_moved own x l g [] = refl
long_moved own x l g (t ∷ ts) =
    ap (λ (n : ℕ). cond (ltb MAX_FRAMES n) (Some (TooLong t.number)) (too_long (all_moved (back_shift own x (with_link l g)) ts))) (same-length (moved (back_shift own x (with_link l g)) t).cells (moved (back_shift own x g) t).cells (same_moved own x l g t))
    ∙ ap (λ (o : Option Refusal). cond (ltb MAX_FRAMES (length (moved (back_shift own x g) t).cells)) (Some (TooLong t.number)) o) (long_moved own x l g ts)

many_moved : (own x : ℕ) (l : Option Link) (g : ItemView) (ts : List TrackState) → too_many (all_moved (back_shift own x (with_link l g)) ts) ≡ too_many (all_moved (back_shift own x g) ts)
many_moved own x l g [] = refl
many_moved own x l g (t ∷ ts) =
    ap (λ (n : ℕ). cond (ltb MAX_ITEMS n) (Some (TooManyItems t.number)) (too_many (all_moved (back_shift own x (with_link l g)) ts))) (count-same (moved (back_shift own x (with_link l g)) t).cells (moved (back_shift own x g) t).cells (same_moved own x l g t))
    ∙ ap (λ (o : Option Refusal). cond (ltb MAX_ITEMS (length (items_of (moved (back_shift own x g) t).cells))) (Some (TooManyItems t.number)) o) (many_moved own x l g ts)

-- no other item with a link stands on both sides of the place
reach_uncut : (table : Table) (own : ℕ) (t : TrackState) (i : ℕ) (v : ItemView) (x y n : ℕ) (u : TrackState) → IsGood table t → Spot table t i v x y → 0 < n → IsGood table u → (u.number ≡ own → u ≡ t)
    → IsKept (moved (back_shift own x (reaching_back (cell_in v 0) n)) u) → IsUncut x (moved (back_shift own x (reaching_back (cell_in v 0) n)) u)
reach_uncut table own t i v x y n u good s some other only after = by (eqb u.number own) refl (ltb x (length u.cells)) refl where
  g : ItemView
  g = reaching_back (cell_in v 0) n

  m : Shift
  m = back_shift own x (reaching_back (cell_in v 0) n)

  by : (a : Bool) → eqb u.number own ≡ a → (b : Bool) → ltb x (length u.cells) ≡ b → IsUncut x (moved (back_shift own x (reaching_back (cell_in v 0) n)) u)
  by true e b f = uncut-by (moved (back_shift own x (reaching_back (cell_in v 0) n)) u) x after between where
    is : u.number ≡ own
    is = eqb-true u.number own e

    here : u ≡ t
    here = only is

    le : x ≤ length u.cells
    le = omega (arith, s.within, s.long, ap (λ (w : TrackState). length w.cells) here)

    put : put_views (back_shift own x (reaching_back (cell_in v 0) n)) u ≡ reaching_back (cell_in v 0) n ∷ []
    put = let z : x - length u.cells ≡ 0 = omega (arith, le) in put-own (back_shift own x (reaching_back (cell_in v 0) n)) u is ∙ ap (λ (k : ℕ). gap_views k ++ reaching_back (cell_in v 0) n ∷ []) z

    same : moved (back_shift own x (reaching_back (cell_in v 0) n)) u ≡ spliced_track false u x x (reaching_back (cell_in v 0) n ∷ [])
    same =
        let at : min x (length u.cells) ≡ x = omega (arith, le) in
        ap (spliced_track false u (min x (length u.cells)) (min x (length u.cells))) put ∙ ap (λ (k : ℕ). spliced_track false u k k (reaching_back (cell_in v 0) n ∷ [])) at

    between : 0 < x → x < length (moved (back_shift own x (reaching_back (cell_in v 0) n)) u).cells
        → (cell_at (moved (back_shift own x (reaching_back (cell_in v 0) n)) u).cells (x - 1)).item ≡ (cell_at (moved (back_shift own x (reaching_back (cell_in v 0) n)) u).cells x).item
        → (cell_at (moved (back_shift own x (reaching_back (cell_in v 0) n)) u).cells x).item ≡ None
    between start inside eq = at v.item refl where
      fresh : ℕ
      fresh = next_past_all u.next_item (reaching_back (cell_in v 0) n ∷ [])

      cells : List Cell
      cells = (spliced_track false u x x (reaching_back (cell_in v 0) n ∷ [])).cells

      zero_at : x + 0 ≡ x
      zero_at = omega arith

      second : (cell_at (moved (back_shift own x (reaching_back (cell_in v 0) n)) u).cells x).item ≡ v.item
      second =
          ap (λ (w : TrackState). (cell_at w.cells x).item) same
          ∙ (ap (λ (k : ℕ). (cell_at (spliced_track false u x x (reaching_back (cell_in v 0) n ∷ [])).cells k).item) (sym zero_at)
          ∙ (ap (λ (c : Cell). c.item) (cell-between (rule_of false) u.cells x x (cells_of (reaching_back (cell_in v 0) n ∷ [])) (next_past_all u.next_item (reaching_back (cell_in v 0) n ∷ [])) 0 le (omega (arith, length-cells_of (reaching_back (cell_in v 0) n ∷ []), some)))
          ∙ ap (λ (c : Cell). c.item) (cell-there (reaching_back (cell_in v 0) n ∷ []) 0 0 (reaching_back (cell_in v 0) n) refl some)))

      first : (cell_at (moved (back_shift own x (reaching_back (cell_in v 0) n)) u).cells (x - 1)).item ≡ (cell_at t.cells (x - 1)).item
      first =
          ap (λ (w : TrackState). (cell_at w.cells (x - 1)).item) same
          ∙ (ap (λ (c : Cell). c.item) (cell-before (rule_of false) u.cells x x (cells_of (reaching_back (cell_in v 0) n ∷ [])) (next_past_all u.next_item (reaching_back (cell_in v 0) n ∷ [])) (x - 1) le (omega (arith, start)))
          ∙ ap (λ (w : TrackState). (cell_at w.cells (x - 1)).item) here)

      at : (o : Option ℕ) → v.item ≡ o → (cell_at (moved (back_shift own x (reaching_back (cell_in v 0) n)) u).cells x).item ≡ None
      at None h = second ∙ h
      at (Some j) h =
          absurd (before_apart (items_of t.cells) i v j good.kept.each good.kept.apart s.read h (omega (arith, start, s.starts))
          (ap (λ (cs : List Cell). (cell_at cs (frames_in (take i (items_of t.cells)) - 1)).item) good.kept.whole
          ∙ (ap (λ (k : ℕ). (cell_at t.cells (k - 1)).item) (sym s.starts) ∙ (sym first ∙ (eq ∙ (second ∙ h))))))
  by false e true f = uncut-by (moved (back_shift own x (reaching_back (cell_in v 0) n)) u) x after (λ start inside eq. dark) where
    not_own : u.number ≢ own
    not_own = eqb-false u.number own e

    less : x < length u.cells
    less = ltb-true x (length u.cells) f

    same : moved (back_shift own x (reaching_back (cell_in v 0) n)) u ≡ spliced_track false u x x (gap_views n)
    same =
        let at : min x (length u.cells) ≡ x = omega (arith, less) in
        ap (spliced_track false u (min x (length u.cells)) (min x (length u.cells))) (put-along (back_shift own x (reaching_back (cell_in v 0) n)) u not_own less) ∙ ap (λ (k : ℕ). spliced_track false u k k (gap_views n)) at

    zero_at : x + 0 ≡ x
    zero_at = omega arith

    gaps : gap_views n ≡ gap_view n ∷ []
    gaps = ap (λ (b : Bool). cond b [] (gap_view n ∷ [])) (ne_eqb n 0 (λ h. omega (arith, h, some)))

    dark : (cell_at (moved (back_shift own x (reaching_back (cell_in v 0) n)) u).cells x).item ≡ None
    dark =
        ap (λ (w : TrackState). (cell_at w.cells x).item) (same ∙ ap (spliced_track false u x x) gaps)
        ∙ (ap (λ (k : ℕ). (cell_at (spliced_track false u x x (gap_view n ∷ [])).cells k).item) (sym zero_at)
        ∙ (ap (λ (c : Cell). c.item) (cell-between (rule_of false) u.cells x x (cells_of (gap_view n ∷ [])) (next_past_all u.next_item (gap_view n ∷ [])) 0 (omega (arith, less)) (omega (arith, length-cells_of (gap_view n ∷ []), some)))
        ∙ ap (λ (c : Cell). c.item) (cell-there (gap_view n ∷ []) 0 0 (gap_view n) refl some)))
  by false e false f =
      uncut-beyond (moved (back_shift own x (reaching_back (cell_in v 0) n)) u) x after
      (omega (arith, length-none (back_shift own x (reaching_back (cell_in v 0) n)) u (omega arith) (eqb-false u.number own e) (ltb-false x (length u.cells) f), ltb-false x (length u.cells) f))

-- the first frame of the item once links were split there
numbered_split : (n z : ℕ) (tracks : List TrackState) (splits : List Link) (ts : List TrackState) (t : TrackState) → track_numbered n ts ≡ Some t → track_numbered n (map (split_track z tracks splits) ts) ≡ Some (split_track z tracks splits t)
numbered_split n z tracks splits [] t e = absurd cc
numbered_split n z tracks splits (u ∷ us) t e = by (eqb u.number n) e (λ k. numbered_split n z tracks splits us t k) where
  by : (b : Bool) → cond b (Some u) (track_numbered n us) ≡ Some t → (track_numbered n us ≡ Some t → track_numbered n (map (split_track z tracks splits) us) ≡ Some (split_track z tracks splits t))
      → cond b (Some (split_track z tracks splits u)) (track_numbered n (map (split_track z tracks splits) us)) ≡ Some (split_track z tracks splits t)
  by true k later = let same : u ≡ t = cc in ap (λ (w : TrackState). Some (split_track z tracks splits w)) same
  by false k later = later k

split_cell : (tracks : List TrackState) (splits : List Link) (cs : List Cell) (x : ℕ) → x < length cs → cell_at (take x cs ++ map (moved_cell tracks splits) (drop x cs)) x ≡ moved_cell tracks splits (cell_at cs x)
split_cell tracks splits cs x less =
    let start : x ≡ length (take x cs) + 0 = omega (arith, length-take x cs, less) in
    let none : x + 0 ≡ x = omega arith in
    ap (cell_at (take x cs ++ map (moved_cell tracks splits) (drop x cs))) start
    ∙ (get_or-append-add (take x cs) (map (moved_cell tracks splits) (drop x cs)) 0 dark_cell
    ∙ (get_or-map (moved_cell tracks splits) (drop x cs) 0 dark_cell dark_cell (omega (arith, length-drop x cs, less))
    ∙ ap (moved_cell tracks splits) (get_or-drop x cs 0 dark_cell ∙ ap (cell_at cs) none)))

pub split-reach : (table : Table) (ts : List TrackState) (t : TrackState) (i : ℕ) (v : ItemView) (x y n : ℕ) → Spot table t i v x y → track_numbered t.number ts ≡ Some t
    → reaching_back (cell_at (as_split x ts t).cells x) n ≡ with_link (moved_link ts (split_links x x ts) v.link) (reaching_back (cell_in v 0) n)
split-reach table ts t i v x y n s found =
    ap (λ (o : Option TrackState). reaching_back (cell_at (unwrap_or o t).cells x) n) (numbered_split t.number x ts (split_links x x ts) ts t found)
    ∙ ap (λ (c : Cell). reaching_back c n) (split_cell ts (split_links x x ts) t.cells x (omega (arith, s.within, s.long, s.filled)) ∙ ap (moved_cell ts (split_links x x ts)) (spot-head table t i v x y s))

-- the shift by which an item reaches back
pub reach-meant : (table : Table) (ts : List TrackState) (t : TrackState) (i : ℕ) (v : ItemView) (own x y n : ℕ) (done : Done) → All (IsGood table) ts → IsGood table t → Spot table t i v x y → 0 < n → All (λ (u : TrackState). u.number ≡ own → u ≡ t) ts
    → All (IsShiftOf (back_shift own x (reaching_back (cell_in v 0) n))) ts
    → shift_of false own x x (with_link (moved_link ts (split_links x x ts) v.link) (reaching_back (cell_in v 0) n) ∷ []) done ts ≡ linked_shift (back_shift own x (reaching_back (cell_in v 0) n)) x done ts
reach-meant table ts t i v own x y n done all good s some only fits =
    ap (λ (k : ℕ). unless (shift_refusal x x k ts) (within_limits (cond (eqb k (x - x)) (shifted false own x x (new ∷ []) ts) (links_split x (x + k) (shifted false own x x (new ∷ []) ts))) done)) len
    ∙ (ap (λ (us : List TrackState). unless (shift_refusal x x n ts) (within_limits (cond (eqb n (x - x)) us (links_split x (x + n) us)) done)) (extract-moved (back_shift own x new) ts long)
    ∙ (ap (λ (b : Bool). unless (cond b None (link_outside ts (cells_from x ts))) (within_limits (cond b (all_moved (back_shift own x new) ts) (links_split x (x + n) (all_moved (back_shift own x new) ts))) done)) moves
    ∙ (ap (unless (link_outside ts (cells_from x ts))) inner
    ∙ sym (ap (λ (b : Bool). unless (cond b None (link_outside ts (cells_from x ts))) (unless_over (all_moved (back_shift own x g) ts) (Ok (cond b (all_moved (back_shift own x g) ts) (map (split_items ts (split_links x x ts) x) (all_moved (back_shift own x g) ts)), done)))) moves)))) where
      g : ItemView
      g = reaching_back (cell_in v 0) n

      splits : List Link
      splits = split_links x x ts

      new : ItemView
      new = with_link (moved_link ts (split_links x x ts) v.link) (reaching_back (cell_in v 0) n)

      len : n + 0 ≡ n
      len = omega arith

      moves : eqb n (x - x) ≡ false
      moves = ne_eqb n (x - x) (λ e. omega (arith, e, some))

      has : (k : ℕ) (d : TrackState) → k < length ts → (get_or ts k d).number ≡ own → x ≤ length (get_or ts k d).cells
      has k d lt e = omega (arith, s.within, s.long, ap (λ (w : TrackState). length w.cells) (only k d lt e))

      long : All (λ (u : TrackState). u.number ≡ own → (x ≤ length u.cells) × (x ≤ length u.cells)) ts
      long k d lt e = (has k d lt e, has k d lt e)

      after : too_long (all_moved (back_shift own x g) ts) ≡ None → too_many (all_moved (back_shift own x g) ts) ≡ None
          → links_split x (x + n) (all_moved (back_shift own x new) ts) ≡ map (split_items ts (split_links x x ts) x) (all_moved (back_shift own x g) ts)
      after a b =
          let kept = within-kept (back_shift own x g) ts (omega arith) fits a b in
          ap (λ (ls : List Link). map (split_track (x + n) (all_moved (back_shift own x new) ts) ls) (all_moved (back_shift own x new) ts)) (splits-moved (back_shift own x new) ts (omega arith))
          ∙ (tracks-same (back_shift own x new) ts (split_links x x ts) (x + n) (all_moved (back_shift own x new) ts)
          ∙ (reach_each ts (split_links x x ts) own x g ts some (λ k d lt. has k d lt)
          ∙ sym (items_each ts (split_links x x ts) x (back_shift own x g) ts kept (λ k d lt. reach_uncut table own t i v x y n (get_or ts k d) good s some (all k d lt) (only k d lt) (kept k d lt)))))

      at : (a b : Option Refusal) → too_long (all_moved (back_shift own x g) ts) ≡ a → too_many (all_moved (back_shift own x g) ts) ≡ b
          → unless {A = List TrackState × Done} a (unless {A = List TrackState × Done} b (Ok (links_split x (x + n) (all_moved (back_shift own x new) ts), done)))
          ≡ unless {A = List TrackState × Done} a (unless {A = List TrackState × Done} b (Ok (map (split_items ts (split_links x x ts) x) (all_moved (back_shift own x g) ts), done)))
      at (Some r) b e f = refl
      at None (Some r) e f = refl
      at None None e f = ap (λ (us : List TrackState). Ok (us, done)) (after e f)

      inner : within_limits (links_split x (x + n) (all_moved (back_shift own x new) ts)) done
          ≡ unless_over (all_moved (back_shift own x g) ts) (Ok (map (split_items ts (split_links x x ts) x) (all_moved (back_shift own x g) ts), done))
      inner =
          ap (λ (o : Option Refusal). unless {A = List TrackState × Done} o (unless {A = List TrackState × Done} (too_many (links_split x (x + n) (all_moved (back_shift own x new) ts))) (Ok (links_split x (x + n) (all_moved (back_shift own x new) ts), done))))
          (long-same (x + n) (all_moved (back_shift own x new) ts) (split_links x (x + n) (all_moved (back_shift own x new) ts)) (all_moved (back_shift own x new) ts) ∙ long_moved own x (moved_link ts (split_links x x ts) v.link) g ts)
          ∙ (ap (λ (o : Option Refusal). unless {A = List TrackState × Done} (too_long (all_moved (back_shift own x g) ts)) (unless {A = List TrackState × Done} o (Ok (links_split x (x + n) (all_moved (back_shift own x new) ts), done))))
          (many-same (x + n) (all_moved (back_shift own x new) ts) (split_links x (x + n) (all_moved (back_shift own x new) ts)) (all_moved (back_shift own x new) ts) ∙ many_moved own x (moved_link ts (split_links x x ts) v.link) g ts)
          ∙ at (too_long (all_moved (back_shift own x g) ts)) (too_many (all_moved (back_shift own x g) ts)) refl refl)
