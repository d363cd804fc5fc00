-- A slide: an item moves between its neighbours, and nothing else has its link.
use Rattle.std.proofs.Common.{◌≡◌, ℕ, zero, suc, ◌+◌, ◌-◌, ◌<◌, ◌≤◌, ◌⊎◌, inl, inr, ℤ, pos, negsuc, Bool, true, false, cond, eqb, ltb, not, ◌&&◌, ◌||◌, List, [], ◌∷◌, ◌++◌, take, drop, length, Option, Some, None, Result, Ok, refl, sym, ap, ◌∙◌, arith, subst}
use Rattle.std.proofs.lemmas.Bool.{and_parts, eqb-true, ltb-true, or_parts}
use Rattle.std.proofs.lemmas.List.{length-take-le}
use Rattle.std.proofs.lemmas.Option.{same_Some}
use Rattle.std.specs.List.{list_any}
use Rattle.frame_meaning.specs.declared.cells.Cell.{Cell}
use Rattle.frame_meaning.specs.declared.cells.Link.{Link}
use Rattle.frame_meaning.specs.declared.cells.Mark.{Mark}
use Rattle.frame_meaning.specs.declared.cells.What.{What}
use Rattle.frame_meaning.specs.declared.frames.Side.{Side}
use Rattle.frame_meaning.specs.Cells.{next_side, same_number, span}
use Rattle.frame_meaning.specs.Render.{cell_at}
use Rattle.composables.specs.declared.calls.Slide.{Slide}
use Rattle.composables.specs.declared.items.ItemView.{ItemView}
use Rattle.composables.specs.declared.media.Table.{Table}
use Rattle.composables.specs.declared.refusals.Done.{Done}
use Rattle.composables.specs.declared.refusals.Done.TheVariants.{By}
use Rattle.composables.specs.declared.refusals.Refusal.{Refusal}
use Rattle.composables.specs.Answers.{unless}
use Rattle.composables.specs.Good.{IsGood}
use Rattle.composables.specs.Items.{cells_of, items_of, marked, view_cells}
use Rattle.composables.specs.Joined.{AllFilled, frames_in}
use Rattle.composables.specs.Limits.{too_long, too_many, track_within_limits}
use Rattle.composables.specs.Links.{next_link_at, outside_refusal, same_link}
use Rattle.composables.specs.OwnTracks.{among_named, track_numbered, with_track}
use Rattle.composables.specs.Ranges.{on_range, offset_of, range_from, range_of}
use Rattle.composables.specs.TrackFacts.{Apart, Lacks}
use Rattle.composables.specs.TrackState.{TrackState}
use Rattle.composables.proofs.Joining.{length-view_cells, same-is}
use Rattle.edit_delta.specs.Nearest.{nearest}
use Rattle.edit_delta.specs.Reaching.{going_on, has_after, has_before, keeps_a_cell, reaching_back}
use Rattle.edit_delta.specs.Using.{used_on}
use Rattle.edit_delta.proofs.Greatest.{is-nearest}
use Rattle.edit_roll.specs.Neighbours.{begin_at, end_at, has_neighbours, may_move_earlier, may_move_later, range_at}
use Rattle.edit_roll.specs.Sliding.{bare_item, broken_by, link_broken, links_refuse, slid, slid_earlier, slid_later, slide_allows, slide_own, slide_range, slide_track}
use Rattle.edit_splice.specs.Splicing.{spliced_track}
use Rattle.edit_splice.proofs.Bridging.{is-numbered}
use Rattle.link_groups.specs.ItemLinks.{carried_on, carried_outside, carries, link_found, link_of}
use Rattle.link_groups.specs.LinkedItems.{item_of}
use Rattle.link_groups.specs.Linking.{or_else, shown_offset}
use Rattle.link_groups.proofs.Relinked.{drop_past, lacks_of, take_past}
use Rattle.link_laws.specs.SlipLaws.{SlidingKeepsTogether}
use Rattle.link_laws.specs.Rooms.{AreAmong, AreNamed, Ascend, IsRoom, LeavesTogether, StaysTogether, with_tracks}
use Rattle.link_laws.specs.Together.{Together}
use Rattle.link_laws.specs.Weights.{runs_in}
use Rattle.link_laws.proofs.Edits.{KeptOne, among-kept, kept-leaves, room-good}
use Rattle.link_laws.proofs.FreeRanges.{end_of, filled-all, first_of, frames-all, item-range, range-item, range-within, ranged}
use Rattle.link_laws.proofs.LinkLists.{Carries, is-same, same-is-link, shows-carries}
use Rattle.link_laws.proofs.Runs.{count, runs-all, runs-append, runs-one, runs-spliced, view-have}
use Rattle.link_laws.proofs.Shifting.{SeesRest, left-sees, numbered-sees, rest-all}
use Rattle.link_laws.proofs.ShiftEdits.{own-room, unless-leaves}
use Rattle.link_laws.proofs.Sights.{Shows, shows-append, shows-at, shows-drop, shows-left, shows-take}
use Rattle.link_laws.proofs.SlipLaw.{alone-named, link-seen, range-link}
use Rattle.link_laws.proofs.Splices.{seen-back, seen-on, shows-one, spliced-parts, start_of}
use Rattle.link_laws.proofs.Tied.{Each, IsTied, Keeps, Sees, among-numbered, each-left, each-with, keeps-self, next-more, tied-of, together-of}
use Rattle.link_laws.proofs.Weighing.{Light, light-little, light-more, light-none, light-self, numbered-of}

differ : false ≡ true → ⊥
differ e = cc

-- cells of a list that carry a link

front_carries : (cs : List Cell) (q x : ℕ) (m : Link) → q < x → (cell_at cs q).link ≡ Some m → Carries (take x cs) m
front_carries [] q x m lt e = absurd (Prim.grind (arith, e))
front_carries (c ∷ cs) q zero m lt e = absurd (omega (arith, lt))
front_carries (c ∷ cs) zero (suc x) m lt e = inl e
front_carries (c ∷ cs) (suc q) (suc x) m lt e = inr (front_carries cs q x m (omega (arith, lt)) e)

back_carries : (cs : List Cell) (y : ℕ) (m : Link) → (cell_at cs y).link ≡ Some m → Carries (drop y cs) m
back_carries [] y m e = absurd (Prim.grind (arith, e))
back_carries (c ∷ cs) zero m e = inl e
back_carries (c ∷ cs) (suc y) m e = back_carries cs y m e

pub mid-carries : (cs : List Cell) (x y : ℕ) (m : Link) → x < y → (cell_at cs x).link ≡ Some m → Carries (drop x (take y cs)) m
mid-carries [] x y m lt e = absurd (Prim.grind (arith, e))
mid-carries (c ∷ cs) x zero m lt e = absurd (omega (arith, lt))
mid-carries (c ∷ cs) zero (suc y) m lt e = inl e
mid-carries (c ∷ cs) (suc x) (suc y) m lt e = mid-carries cs x y m (omega (arith, lt)) e

carries_less : (cs : List Cell) (n x : ℕ) (m : Link) → n ≤ x → Carries (take n cs) m → Carries (take x cs) m
carries_less [] zero x m le h = absurd h
carries_less [] (suc n) x m le h = absurd h
carries_less (c ∷ cs) zero x m le h = absurd h
carries_less (c ∷ cs) (suc n) zero m le h = absurd (omega (arith, le))
carries_less (c ∷ cs) (suc n) (suc x) m le (inl h) = inl h
carries_less (c ∷ cs) (suc n) (suc x) m le (inr h) = inr (carries_less cs n x m (omega (arith, le)) h)

pub carries-drop : (cs : List Cell) (n : ℕ) (m : Link) → Carries (drop n cs) m → Carries cs m
carries-drop cs zero m h = h
carries-drop [] (suc n) m h = h
carries-drop (c ∷ cs) (suc n) m h = inr (carries-drop cs n m h)

pub carries-take : (cs : List Cell) (n : ℕ) (m : Link) → Carries (take n cs) m → Carries cs m
carries-take cs zero m h = absurd h
carries-take [] (suc n) m h = h
carries-take (c ∷ cs) (suc n) m (inl h) = inl h
carries-take (c ∷ cs) (suc n) m (inr h) = inr (carries-take cs n m h)

carries_later : (cs : List Cell) (y n : ℕ) (m : Link) → Carries (drop (y + n) cs) m → Carries (drop y cs) m
carries_later cs zero n m h = carries-drop cs (0 + n) m h
carries_later [] (suc y) n m h = let e : suc y + n ≡ suc (y + n) = omega arith in absurd (subst (λ (k : ℕ). Carries (drop k []) m) e h)
carries_later (c ∷ cs) (suc y) n m h =
    let e : suc y + n ≡ suc (y + n) = omega arith in
    carries_later cs y n m (subst (λ (k : ℕ). Carries (drop k (c ∷ cs)) m) e h)

-- cells that are not of an item

abbrev Others : ℕ → List Cell → Type 0
Others i [] = Unit {0}
Others i (c ∷ cs) = (same_number c.item (Some i) ≡ false) × Others i cs

others_append : (i : ℕ) (cs ds : List Cell) → Others i cs → Others i ds → Others i (cs ++ ds)
others_append i [] ds h k = k
others_append i (c ∷ cs) ds h k = (h.0, others_append i cs ds h.1 k)

others_span : (i : ℕ) (o : Option ℕ) (s : Side What) (k : Option Link) (n : ℕ) → same_number o (Some i) ≡ false → Others i (span o s k n)
others_span i o s k zero e = tt
others_span i o s k (suc n) e = (e, others_span i o (next_side s) k n e)

others_marked : (i : ℕ) (m : Option Mark) (cs : List Cell) → Others i cs → Others i (marked m cs)
others_marked i m [] h = h
others_marked i m (c ∷ cs) h = h

others_view : (i : ℕ) (v : ItemView) → same_number v.item (Some i) ≡ false → Others i (view_cells v)
others_view i v e = others_marked i v.mark (span v.item v.first v.link v.len) (others_span i v.item v.first v.link v.len e)

others_lacks : (i : ℕ) (vs : List ItemView) → Lacks i vs → Others i (cells_of vs)
others_lacks i [] l = tt
others_lacks i (v ∷ vs) l = others_append i (view_cells v) (cells_of vs) (others_view i v (by (same_number v.item (Some i)) refl)) (others_lacks i vs l.1) where
  by : (b : Bool) → same_number v.item (Some i) ≡ b → same_number v.item (Some i) ≡ false
  by true e = absurd (l.0 (same-is v.item (Some i) e))
  by false e = e

others_front : (vs : List ItemView) (p i x y : ℕ) → AllFilled vs → range_from p vs i ≡ Some (x, y) → Others i (take (x - p) (cells_of vs))
others_front [] p i x y g e = absurd cc
others_front (v ∷ vs) p i x y g e = by (same_number v.item (Some i)) refl e (λ k. others_front vs (p + v.len) i x y g.1 k) where
  by : (b : Bool) → same_number v.item (Some i) ≡ b → cond b (Some (p, p + v.len)) (range_from (p + v.len) vs i) ≡ Some (x, y)
      → (range_from (p + v.len) vs i ≡ Some (x, y) → Others i (take (x - (p + v.len)) (cells_of vs))) → Others i (take (x - p) (view_cells v ++ cells_of vs))
  by true f k later =
      let a : 0 ≡ x - p = omega (arith, ap first_of k) in
      subst (λ (n : ℕ). Others i (take n (view_cells v ++ cells_of vs))) a tt
  by false f k later =
      let r = range-within vs (p + v.len) i x y g.1 k in
      let long = length-view_cells v in
      let a : x - (p + v.len) ≡ x - p - length (view_cells v) = omega (arith, long) in
      subst (Others i) (sym (take_past (x - p) (view_cells v) (cells_of vs) (omega (arith, r.0, long))))
      (others_append i (view_cells v) (take (x - p - length (view_cells v)) (cells_of vs)) (others_view i v f)
      (subst (λ (n : ℕ). Others i (take n (cells_of vs))) a (later k)))

others_back : (vs : List ItemView) (p i x y : ℕ) → Apart vs → AllFilled vs → range_from p vs i ≡ Some (x, y) → Others i (drop (y - p) (cells_of vs))
others_back [] p i x y apart g e = absurd cc
others_back (v ∷ vs) p i x y apart g e = by (same_number v.item (Some i)) refl e (λ k. others_back vs (p + v.len) i x y apart.1 g.1 k) where
  by : (b : Bool) → same_number v.item (Some i) ≡ b → cond b (Some (p, p + v.len)) (range_from (p + v.len) vs i) ≡ Some (x, y)
      → (range_from (p + v.len) vs i ≡ Some (x, y) → Others i (drop (y - (p + v.len)) (cells_of vs))) → Others i (drop (y - p) (view_cells v ++ cells_of vs))
  by true f k later =
      let long = length-view_cells v in
      let a : 0 ≡ y - p - length (view_cells v) = omega (arith, ap end_of k, long) in
      subst (Others i) (sym (drop_past (y - p) (view_cells v) (cells_of vs) (omega (arith, ap end_of k, long))))
      (subst (λ (n : ℕ). Others i (drop n (cells_of vs))) a (others_lacks i vs (lacks_of v.item i vs apart.0 (same-is v.item (Some i) f))))
  by false f k later =
      let r = range-within vs (p + v.len) i x y g.1 k in
      let long = length-view_cells v in
      let a : y - (p + v.len) ≡ y - p - length (view_cells v) = omega (arith, long) in
      subst (Others i) (sym (drop_past (y - p) (view_cells v) (cells_of vs) (omega (arith, r.0, r.1, long))))
      (subst (λ (n : ℕ). Others i (drop n (cells_of vs))) a (later k))

-- the frames before an item and behind it are not its own
others_of : (table : Table) (t : TrackState) (i x y : ℕ) → IsGood table t → range_of t.cells i ≡ Some (x, y) → Others i (take x t.cells) × Others i (drop y t.cells)
others_of table t i x y g e =
    let a : x - 0 ≡ x = omega arith in
    let b : y - 0 ≡ y = omega arith in (
      subst (λ (cs : List Cell). Others i (take x cs)) g.kept.whole
          (subst (λ (n : ℕ). Others i (take n (cells_of (items_of t.cells)))) a (others_front (items_of t.cells) 0 i x y (filled-all t.cells) e)),
      subst (λ (cs : List Cell). Others i (drop y cs)) g.kept.whole
          (subst (λ (n : ℕ). Others i (drop n (cells_of (items_of t.cells)))) b (others_back (items_of t.cells) 0 i x y g.kept.apart (filled-all t.cells) e)),
    )

-- where no cell outside an item has a link

-- a list of cells has no cell with it, but of the item
abbrev Free : Link → ℕ → Bool → List Cell → Bool
Free l i own cs = list_any (λ (c : Cell). carries l c.link && not (own && same_number c.item (Some i))) cs

free_take : (l : Link) (i : ℕ) (own : Bool) (n : ℕ) (cs : List Cell) → Free l i own cs ≡ false → Free l i own (take n cs) ≡ false
free_take l i own zero cs h = refl
free_take l i own (suc n) [] h = refl
free_take l i own (suc n) (c ∷ cs) h =
    let r = or_parts (carries l c.link && not (own && same_number c.item (Some i))) (Free l i own cs) h in
    ap (λ (b : Bool). b || Free l i own (take n cs)) r.0 ∙ free_take l i own n cs r.1

free_drop : (l : Link) (i : ℕ) (own : Bool) (n : ℕ) (cs : List Cell) → Free l i own cs ≡ false → Free l i own (drop n cs) ≡ false
free_drop l i own zero cs h = h
free_drop l i own (suc n) [] h = refl
free_drop l i own (suc n) (c ∷ cs) h =
    free_drop l i own n cs (or_parts (carries l c.link && not (own && same_number c.item (Some i))) (Free l i own cs) h).1

and_true : (a b : Bool) → (a && b) ≡ false → b ≡ true → a ≡ false
and_true true true e f = absurd cc
and_true true false e f = absurd cc
and_true false b e f = refl

not_and : (a b : Bool) → b ≡ false → not (a && b) ≡ true
not_and true b e = ap not e
not_and false b e = refl

others_free : (l : Link) (i : ℕ) (own : Bool) (cs : List Cell) (m : Link) → Free l i own cs ≡ false → Others i cs → Carries cs m → same_link l m ≡ false
others_free l i own [] m f o h = absurd h
others_free l i own (c ∷ cs) m f o (inl h) =
    let r = or_parts (carries l c.link && not (own && same_number c.item (Some i))) (Free l i own cs) f in
    sym (ap (carries l) h) ∙ and_true (carries l c.link) (not (own && same_number c.item (Some i))) r.0 (not_and own (same_number c.item (Some i)) o.0)
others_free l i own (c ∷ cs) m f o (inr h) =
    others_free l i own cs m (or_parts (carries l c.link && not (own && same_number c.item (Some i))) (Free l i own cs) f).1 o.1 h

other_free : (l : Link) (i : ℕ) (cs : List Cell) (m : Link) → Free l i false cs ≡ false → Carries cs m → same_link l m ≡ false
other_free l i [] m f h = absurd h
other_free l i (c ∷ cs) m f (inl h) =
    let r = or_parts (carries l c.link && not (false && same_number c.item (Some i))) (Free l i false cs) f in
    sym (ap (carries l) h) ∙ and_true (carries l c.link) (not (false && same_number c.item (Some i))) r.0 refl
other_free l i (c ∷ cs) m f (inr h) =
    other_free l i cs m (or_parts (carries l c.link && not (false && same_number c.item (Some i))) (Free l i false cs) f).1 h

-- what a slide leaves on the own track

-- what it shows is of the item at its new place, or was there outside the item
abbrev pub Moved : List Cell → Option Link → Option ℤ → ℕ → ℕ → Link → Option ℤ → Type 0
Moved cs link off x y m o = ((link ≡ Some m) × (o ≡ off)) ⊎ ((Carries (take x cs) m ⊎ Carries (drop y cs) m) × Shows 0 cs m o)

two_runs : (h n : ℕ) (v w : ItemView) → runs_in h n false (cells_of (v ∷ w ∷ [])) ≤ count h n (v.link ∷ w.link ∷ [])
two_runs h n v w =
    omega (arith, runs-append h n false (view_cells v) (cells_of (w ∷ [])), runs-all h n false v.link (view_cells v) (view-have h n v), runs-one h n w)

spliced_light : (t : TrackState) (x y : ℕ) (v w : ItemView) → x ≤ y → Light t (spliced_track false t x y (v ∷ w ∷ []))
spliced_light t x y v w le =
    (refl, ((cell_at t.cells y).link ∷ v.link ∷ w.link ∷ [], omega arith, λ h n. omega (arith, runs-spliced h n false t x y (v ∷ w ∷ []) le, two_runs h n v w)))

later_moved : (t : TrackState) (x y n : ℕ) (m : Link) (o : Option ℤ) → 0 < x → x < y → y + n ≤ length t.cells → Shows 0 (slid_later t x y n).cells m o
    → Moved t.cells (cell_at t.cells x).link (offset_of (cell_at t.cells x).side (x + n)) x y m o
later_moved t x y n m o some less within h = by (spliced-parts false t x (y + n) (v ∷ w ∷ []) m o h) where
  v : ItemView
  v = going_on (cell_at t.cells (x - 1)) n

  w : ItemView
  w = bare_item (cell_at t.cells x) (y - x)

  start : start_of t x ≡ x
  start = length-take-le x t.cells (omega (arith, less, within))

  Out : Type 0
  Out = Moved t.cells (cell_at t.cells x).link (offset_of (cell_at t.cells x).side (x + n)) x y m o

  put : Shows x (view_cells v) m o ⊎ Shows (x + length (view_cells v)) (cells_of (w ∷ [])) m o → Out
  put (inl a) =
      let shown = shows-left x (view_cells v) [] m o a in
      let r = shows-one x v m o shown in
      inr (inl (front_carries t.cells (x - 1) x m (omega (arith, some)) r.0), seen-on t x n m o some shown)
  put (inr b) =
      let at : x + length (view_cells v) ≡ x + n = omega (arith, length-view_cells v) in
      let r = shows-one (x + n) w m o (shows-at (x + length (view_cells v)) (x + n) (cells_of (w ∷ [])) m o at b) in
      inl (r.0, sym r.1)

  by : Shows 0 (take x t.cells) m o ⊎ (Shows (start_of t x) (cells_of (v ∷ w ∷ [])) m o ⊎ Shows (start_of t x + frames_in (v ∷ w ∷ [])) (drop (y + n) t.cells) m o) → Out
  by (inl a) = inr (inl (shows-carries 0 (take x t.cells) m o a), shows-take x 0 t.cells m o a)
  by (inr (inl a)) = put (shows-append x (view_cells v) (cells_of (w ∷ [])) m o (shows-at (start_of t x) x (cells_of (v ∷ w ∷ [])) m o start a))
  by (inr (inr a)) =
      let at : start_of t x + frames_in (v ∷ w ∷ []) ≡ 0 + (y + n) = omega (arith, start, less) in
      inr (
        inr (carries_later t.cells y n m (shows-carries (start_of t x + frames_in (v ∷ w ∷ [])) (drop (y + n) t.cells) m o a)),
        shows-drop (y + n) 0 t.cells m o (shows-at (start_of t x + frames_in (v ∷ w ∷ [])) (0 + (y + n)) (drop (y + n) t.cells) m o at a),
      )

earlier_moved : (table : Table) (t : TrackState) (x y n : ℕ) (m : Link) (o : Option ℤ) → n ≤ x → x < y → y ≤ length t.cells → has_before table (cell_at t.cells y).side n ≡ true
    → Shows 0 (slid_earlier t x y n).cells m o → Moved t.cells (cell_at t.cells x).link (offset_of (cell_at t.cells x).side (x - n)) x y m o
earlier_moved table t x y n m o le less within has h = by (spliced-parts false t (x - n) y (w ∷ v ∷ []) m o h) where
  w : ItemView
  w = bare_item (cell_at t.cells x) (y - x)

  v : ItemView
  v = reaching_back (cell_at t.cells y) n

  start : start_of t (x - n) ≡ x - n
  start = length-take-le (x - n) t.cells (omega (arith, less, within))

  Out : Type 0
  Out = Moved t.cells (cell_at t.cells x).link (offset_of (cell_at t.cells x).side (x - n)) x y m o

  put : Shows (x - n) (view_cells w) m o ⊎ Shows (x - n + length (view_cells w)) (cells_of (v ∷ [])) m o → Out
  put (inl a) = let r = shows-one (x - n) w m o (shows-left (x - n) (view_cells w) [] m o a) in inl (r.0, sym r.1)
  put (inr b) =
      let at : x - n + length (view_cells w) ≡ y - n = omega (arith, length-view_cells w, le, less) in
      let shown = shows-at (x - n + length (view_cells w)) (y - n) (cells_of (v ∷ [])) m o at b in
      let r = shows-one (y - n) v m o shown in
      inr (inr (back_carries t.cells y m r.0), seen-back table t y (y - n) n m o (omega (arith, le, less)) has shown)

  by : Shows 0 (take (x - n) t.cells) m o ⊎ (Shows (start_of t (x - n)) (cells_of (w ∷ v ∷ [])) m o ⊎ Shows (start_of t (x - n) + frames_in (w ∷ v ∷ [])) (drop y t.cells) m o) → Out
  by (inl a) =
      inr (inl (carries_less t.cells (x - n) x m (omega arith) (shows-carries 0 (take (x - n) t.cells) m o a)), shows-take (x - n) 0 t.cells m o a)
  by (inr (inl a)) = put (shows-append (x - n) (view_cells w) (cells_of (v ∷ [])) m o (shows-at (start_of t (x - n)) (x - n) (cells_of (w ∷ v ∷ [])) m o start a))
  by (inr (inr a)) =
      let at : start_of t (x - n) + frames_in (w ∷ v ∷ []) ≡ 0 + y = omega (arith, start, less, le) in
      inr (
        inr (shows-carries (start_of t (x - n) + frames_in (w ∷ v ∷ [])) (drop y t.cells) m o a),
        shows-drop y 0 t.cells m o (shows-at (start_of t (x - n) + frames_in (w ∷ v ∷ [])) (0 + y) (drop y t.cells) m o at a),
      )

-- a track after a slide by a delta that is not 0
pub record Slides (x y : ℕ) (t u : TrackState) : Type 0 where
  pub number : u.number ≡ t.number
  pub off : Option ℤ
  pub shows : (m : Link) (o : Option ℤ) → Shows 0 u.cells m o → Moved t.cells (cell_at t.cells x).link off x y m o
  pub light : Light t u

ends_within : (vs : List ItemView) (p q : ℕ) → (range_at p vs q).1 ≤ p + frames_in vs
ends_within [] p q = omega arith
ends_within (v ∷ vs) p q = by (ltb q v.len) (ends_within vs (p + v.len) (q - v.len)) where
  by : (b : Bool) → (range_at (p + v.len) vs (q - v.len)).1 ≤ p + v.len + frames_in vs → (cond b (p, p + v.len) (range_at (p + v.len) vs (q - v.len))).1 ≤ p + (v.len + frames_in vs)
  by true later = omega arith
  by false later = omega (arith, later)

pub slid-slides : (table : Table) (t : TrackState) (x y : ℕ) (d : ℤ) → x < y → y ≤ length t.cells → slide_allows table t x y d ≡ true → Slides x y t (slid t x y d)
slid-slides table t x y (pos n) less within a = record {
  number = refl;
  off = offset_of (cell_at t.cells x).side (x + n);
  shows = λ m o h. later_moved t x y n m o some less fits h;
  light = spliced_light t x (y + n) (going_on (cell_at t.cells (x - 1)) n) (bare_item (cell_at t.cells x) (y - x)) (omega (arith, less));
} where
  both : (has_neighbours t.cells x y ≡ true) × (may_move_later table t x y n ≡ true)
  both = and_parts (has_neighbours t.cells x y) (may_move_later table t x y n) a

  some : 0 < x
  some = ltb-true 0 x (and_parts (ltb 0 x) (ltb y (length t.cells)) both.0).0

  fits : y + n ≤ length t.cells
  fits =
      let keeps = and_parts (keeps_a_cell y (end_at t.cells y) n) (has_after table (cell_at t.cells (x - 1)).side n) both.1 in
      let lt : y + n < end_at t.cells y = ltb-true (y + n) (end_at t.cells y) keeps.0 in
      omega (arith, lt, ends_within (items_of t.cells) 0 y, frames-all t.cells)
slid-slides table t x y (negsuc k) less within a = record {
  number = refl;
  off = offset_of (cell_at t.cells x).side (x - suc k);
  shows = λ m o h. earlier_moved table t x y (suc k) m o fits less within moves.1 h;
  light = spliced_light t (x - suc k) y (bare_item (cell_at t.cells x) (y - x)) (reaching_back (cell_at t.cells y) (suc k)) (omega (arith, less));
} where
  both : (has_neighbours t.cells x y ≡ true) × (may_move_earlier table t x y (suc k) ≡ true)
  both = and_parts (has_neighbours t.cells x y) (may_move_earlier table t x y (suc k)) a

  moves : (keeps_a_cell (begin_at t.cells (x - 1)) x (suc k) ≡ true) × (has_before table (cell_at t.cells y).side (suc k) ≡ true)
  moves = and_parts (keeps_a_cell (begin_at t.cells (x - 1)) x (suc k)) (has_before table (cell_at t.cells y).side (suc k)) both.1

  fits : suc k ≤ x
  fits = let lt : begin_at t.cells (x - 1) + suc k < x = ltb-true (begin_at t.cells (x - 1) + suc k) x moves.0 in omega (arith, lt)

-- all tracks of the room

-- a track of these with another number shows it
abbrev SeesOther : ℕ → List TrackState → Link → Option ℤ → Type 0
SeesOther own [] m o = ⊥
SeesOther own (t ∷ ts) m o = ((eqb t.number own ≡ false) × Shows 0 t.cells m o) ⊎ SeesOther own ts m o

other_sees : (own : ℕ) (ts : List TrackState) (m : Link) (o : Option ℤ) → SeesOther own ts m o → Sees ts m o
other_sees own [] m o h = h
other_sees own (t ∷ ts) m o (inl h) = inl h.1
other_sees own (t ∷ ts) m o (inr h) = inr (other_sees own ts m o h)

named_sees : (all ts : List TrackState) (m : Link) (o : Option ℤ) → AreAmong all ts → Sees ts m o → Sees all m o
named_sees all [] m o a h = absurd h
named_sees all (t ∷ ts) m o a (inl h) = numbered-sees t.number all t m o a.0 h
named_sees all (t ∷ ts) m o a (inr h) = named_sees all ts m o a.1 h

past_other : (own least : ℕ) (ts : List TrackState) (m : Link) (o : Option ℤ) → Ascend least ts → own < least → Sees ts m o → SeesOther own ts m o
past_other own least [] m o a lt h = h
past_other own least (t ∷ ts) m o a lt (inl h) = inl (by (eqb t.number own) refl, h) where
  by : (b : Bool) → eqb t.number own ≡ b → b ≡ false
  by true e = absurd (omega (arith, eqb-true t.number own e, a.0, lt))
  by false e = refl
past_other own least (t ∷ ts) m o a lt (inr h) = inr (past_other own (t.number + 1) ts m o a.1 (omega (arith, a.0, lt)) h)

with_sees : (least : ℕ) (ts : List TrackState) (u : TrackState) (m : Link) (o : Option ℤ) → Ascend least ts → Sees (with_track ts u) m o → Shows 0 u.cells m o ⊎ SeesOther u.number ts m o
with_sees least [] u m o a h = absurd h
with_sees least (t ∷ ts) u m o a h = by (eqb t.number u.number) refl h (λ k. with_sees (t.number + 1) ts u m o a.1 k) where
  by : (b : Bool) → eqb t.number u.number ≡ b → Sees (cond b (u ∷ ts) (t ∷ with_track ts u)) m o
      → (Sees (with_track ts u) m o → Shows 0 u.cells m o ⊎ SeesOther u.number ts m o) → Shows 0 u.cells m o ⊎ SeesOther u.number (t ∷ ts) m o
  by true e (inl k) later = inl k
  by true e (inr k) later = inr (inr (past_other u.number (t.number + 1) ts m o a.1 (omega (arith, eqb-true t.number u.number e)) k))
  by false e (inl k) later = inr (inl (e, k))
  by false e (inr k) later = rest (later k) where
    rest : Shows 0 u.cells m o ⊎ SeesOther u.number ts m o → Shows 0 u.cells m o ⊎ SeesOther u.number (t ∷ ts) m o
    rest (inl x) = inl x
    rest (inr y) = inr (inr y)

-- no cell outside the item has the link

other_none : (l : Link) (own i : ℕ) (ts : List TrackState) (m : Link) (o : Option ℤ) → carried_outside l own i ts ≡ false → SeesOther own ts m o → same_link l m ≡ false
other_none l own i [] m o e h = absurd h
other_none l own i (t ∷ ts) m o e (inl h) =
    let r = or_parts (carried_on l own i t) (carried_outside l own i ts) e in
    other_free l i t.cells m (sym (ap (λ (b : Bool). Free l i b t.cells) h.0) ∙ r.0) (shows-carries 0 t.cells m o h.1)
other_none l own i (t ∷ ts) m o e (inr h) = other_none l own i ts m o (or_parts (carried_on l own i t) (carried_outside l own i ts) e).1 h

own_free : (l : Link) (own i : ℕ) (ts : List TrackState) (t : TrackState) → carried_outside l own i ts ≡ false → track_numbered own ts ≡ Some t → Free l i (eqb t.number own) t.cells ≡ false
own_free l own i [] t e f = absurd cc
own_free l own i (w ∷ ws) t e f = by (eqb w.number own) f (λ k. own_free l own i ws t (or_parts (carried_on l own i w) (carried_outside l own i ws) e).1 k) where
  by : (b : Bool) → cond b (Some w) (track_numbered own ws) ≡ Some t → (track_numbered own ws ≡ Some t → Free l i (eqb t.number own) t.cells ≡ false) → Free l i (eqb t.number own) t.cells ≡ false
  by true k later = subst (λ (s : TrackState). Free l i (eqb s.number own) s.cells ≡ false) (same_Some w t k) (or_parts (carried_on l own i w) (carried_outside l own i ws) e).0
  by false k later = later k

slides_stay : (table : Table) (all named : List TrackState) (t u : TrackState) (own i x y : ℕ) (l : Link) → IsRoom table all → AreNamed all named → Together all
    → track_numbered own named ≡ Some t → IsGood table t → range_of t.cells i ≡ Some (x, y) → x < y → link_of t i ≡ Some l → outside_refusal named (Some l) ≡ None
    → carried_outside l own i named ≡ false → Slides x y t u → StaysTogether all (with_tracks all (with_track named u))
slides_stay table all named t u own i x y l room names g e good range less has told free s = record {
  together = together-of (with_tracks all us) (record { one = one; below = below });
  little = light-little all (with_tracks all us) (numbered-of table all room) lights;
} where
  us : List TrackState
  us = with_track named u

  tied : IsTied all
  tied = tied-of all g

  number : u.number ≡ own
  number = s.number ∙ is-numbered own named t e

  found : track_numbered u.number named ≡ Some t
  found = ap (λ (n : ℕ). track_numbered n named) number ∙ e

  named_light : Each Light named (with_track named u)
  named_light = each-with Light light-self named t u found s.number s.light

  lights : Each Light all (with_tracks all (with_track named u))
  lights = each-left Light light-self all named (with_track named u) all names.among named_light room.apart

  seen : (b : Option ℤ) × Sees all l b
  seen = link-seen table all t own i l good (among-numbered all named own t names.among e) has

  others : Others i (take x t.cells) × Others i (drop y t.cells)
  others = others_of table t i x y good range

  clear : Free l i (eqb t.number own) t.cells ≡ false
  clear = own_free l own i named t free e

  Was : Link → Option ℤ → Type 0
  Was m o = ((m ≡ l) × (o ≡ s.off)) ⊎ ((same_link l m ≡ false) × Sees all m o)

  outside : (m : Link) → Carries (take x t.cells) m ⊎ Carries (drop y t.cells) m → same_link l m ≡ false
  outside m (inl c) = others_free l i (eqb t.number own) (take x t.cells) m (free_take l i (eqb t.number own) x t.cells clear) others.0 c
  outside m (inr c) = others_free l i (eqb t.number own) (drop y t.cells) m (free_drop l i (eqb t.number own) y t.cells clear) others.1 c

  moved : (m : Link) (o : Option ℤ) → Moved t.cells (cell_at t.cells x).link s.off x y m o → Was m o
  moved m o (inl r) =
      let own_link : link_of t i ≡ Some m = range-link table t i x y m good range (mid-carries t.cells x y m less r.0) in
      inl (same_Some m l (sym own_link ∙ has), r.1)
  moved m o (inr r) = inr (outside m r.0, numbered-sees own all t m o (among-numbered all named own t names.among e) r.1)

  was : (m : Link) (o : Option ℤ) → Sees (with_tracks all (with_track named u)) m o → Was m o
  was m o h = by (left-sees named (with_track named u) all m o none h) where
    none : (n : ℕ) → track_numbered n (with_track named u) ≡ None → track_numbered n named ≡ None
    none n k = light-none n named (with_track named u) named_light k

    rest : (b : Bool) → same_link l m ≡ b → SeesRest named all m o → Was m o
    rest true f r = absurd (alone-named table all named l seen.0 room g seen.1 told m o r (is-same l m f))
    rest false f r = inr (f, rest-all named all m o r)

    on : Shows 0 u.cells m o ⊎ SeesOther u.number named m o → Was m o
    on (inl k) = moved m o (s.shows m o k)
    on (inr k) =
        let k2 : SeesOther own named m o = subst (λ (n : ℕ). SeesOther n named m o) number k in
        inr (other_none l own i named m o free k2, named_sees all named m o names.among (other_sees own named m o k2))

    by : SeesRest named all m o ⊎ Sees (with_track named u) m o → Was m o
    by (inl r) = rest (same_link l m) refl r
    by (inr k) = on (with_sees 0 named u m o names.ascend k)

  self : (m : Link) → m ≡ l → same_link l m ≡ true
  self m e = same-is-link l m (ap (λ (k : Link). k.home) (sym e), ap (λ (k : Link). k.number) (sym e))

  apart : (k m : Link) → k ≡ l → same_link l m ≡ false → k.home ≡ m.home → k.number ≡ m.number → ⊥
  apart k m a f h n =
      differ (sym f ∙ same-is-link l m (sym (ap (λ (j : Link). j.home) a) ∙ h, sym (ap (λ (j : Link). j.number) a) ∙ n))

  one : (k m : Link) (a b : Option ℤ) → Sees (with_tracks all (with_track named u)) k a → Sees (with_tracks all (with_track named u)) m b → k.home ≡ m.home → k.number ≡ m.number
      → (k.tracks ≡ m.tracks) × (a ≡ b)
  one k m a b p q h n = by (was k a p) (was m b q) where
    by : Was k a → Was m b → (k.tracks ≡ m.tracks) × (a ≡ b)
    by (inl r) (inl s) = (ap (λ (j : Link). j.tracks) (r.0 ∙ sym s.0), r.1 ∙ sym s.1)
    by (inl r) (inr s) = absurd (apart k m r.0 s.0 h n)
    by (inr r) (inl s) = absurd (apart m k s.0 r.0 (sym h) (sym n))
    by (inr r) (inr s) = tied.one k m a b r.1 s.1 h n

  below : (m : Link) (a : Option ℤ) → Sees (with_tracks all (with_track named u)) m a → m.number < next_link_at m.home (with_tracks all (with_track named u))
  below m a p = by (was m a p) where
    up : next_link_at m.home all ≤ next_link_at m.home (with_tracks all (with_track named u))
    up = next-more m.home all (with_tracks all (with_track named u)) (light-more all (with_tracks all (with_track named u)) lights)

    by : Was m a → m.number < next_link_at m.home (with_tracks all (with_track named u))
    by (inl r) =
        let there : m.number < next_link_at m.home all = subst (λ (j : Link). j.number < next_link_at j.home all) (sym r.0) (tied.below l seen.0 seen.1) in
        omega (arith, there, up)
    by (inr r) = omega (arith, tied.below m a r.1, up)

-- the call

within_leave : (all named : List TrackState) (u : TrackState) (done : Done) → StaysTogether all (with_tracks all (with_track named u))
    → LeavesTogether all (among_named named (track_within_limits u done))
within_leave all named u done h = by (too_long (u ∷ [])) (too_many (u ∷ [])) where
  by : (a b : Option Refusal) → LeavesTogether all (among_named named (unless a (unless b (Ok (u, done)))))
  by None None = h
  by None (Some r) = tt
  by (Some r) b = tt

or_none : (a b : Option Refusal) → or_else a b ≡ None → (a ≡ None) × (b ≡ None)
or_none None b e = (refl, e)
or_none (Some r) b e = absurd cc

not_broken : (l : Link) (b : Bool) (off : ℤ) (d : ℤ) → (d ≡ pos 0 → ⊥) → cond b (broken_by l off d) None ≡ None → b ≡ false
not_broken l false off d differs e = refl
not_broken l true off (pos zero) differs e = absurd (differs refl)
not_broken l true off (pos (suc n)) differs e = absurd cc
not_broken l true off (negsuc n) differs e = absurd cc

module _ (table : Table) (c : Slide) (all named : List TrackState) (t : TrackState) (room : IsRoom table all) (names : AreNamed all named) (g : Together all) (e : track_numbered c.track named ≡ Some t) (good : IsGood table t) where
  kept_leave : (r : Result (TrackState × Done) Refusal) → KeptOne t r → LeavesTogether all (among_named named r)
  kept_leave r k = kept-leaves table all named (among_named named r) room names.among g (among-kept c.track named t r e k)

  slides_kept : (x y : ℕ) (u : TrackState) → x < y → range_of t.cells c.item ≡ Some (x, y) → link_of t c.item ≡ None → Slides x y t u → Keeps t u
  slides_kept x y u less range none s = record { shows = λ m o h. by m o (s.shows m o h); next = s.light.0; grown = s.light.1 } where
    some : (o : Option Link) (m : Link) → o ≡ None → o ≡ Some m → ⊥
    some o m p q = Prim.grind (arith, p, q)

    by : (m : Link) (o : Option ℤ) → Moved t.cells (cell_at t.cells x).link s.off x y m o → Shows 0 t.cells m o
    by m o (inl r) = absurd (some (link_of t c.item) m none (range-link table t c.item x y m good range (mid-carries t.cells x y m less r.0)))
    by m o (inr r) = r.1

  slides_done : (x y : ℕ) (u : TrackState) (o : Option Link) → x < y → range_of t.cells c.item ≡ Some (x, y) → link_of t c.item ≡ o → outside_refusal named o ≡ None
      → ((l : Link) → o ≡ Some l → carried_outside l c.track c.item named ≡ false) → Slides x y t u → StaysTogether all (with_tracks all (with_track named u))
  slides_done x y u None less range link told free s = kept_leave (Ok (u, By (pos 0))) (s.number, slides_kept x y u less range link s)
  slides_done x y u (Some l) less range link told free s =
      slides_stay table all named t u c.track c.item x y l room names g e good range less link told (free l refl) s

  slide_item : (x : ℕ) (v : ItemView) (o : Option Link) → range_of t.cells c.item ≡ Some (x, x + v.len) → link_of t c.item ≡ o → outside_refusal named o ≡ None
      → link_broken table named c t x v o ≡ None → LeavesTogether all (among_named named (slide_range table t c.by x (x + v.len)))
  slide_item x v o range link told whole = at (nearest (slide_allows table t x (x + v.len)) c.by) (is-nearest (slide_allows table t x (x + v.len)) c.by).member (λ l k differs. free l (nearest (slide_allows table t x (x + v.len)) c.by) k differs (still o l k whole)) where
    within : (x < x + v.len) × (x + v.len ≤ length t.cells)
    within = item-range t c.item x (x + v.len) range

    still : (o : Option Link) (l : Link) → o ≡ Some l → link_broken table named c t x v o ≡ None
        → cond (carried_outside l c.track c.item named) (broken_by l (shown_offset (offset_of v.first x)) (nearest (slide_allows table t x (x + v.len)) c.by)) None ≡ None
    still None l k w = absurd cc
    still (Some j) l k w =
        subst (λ (h : Link). cond (carried_outside h c.track c.item named) (broken_by h (shown_offset (offset_of v.first x)) (nearest (slide_allows table t x (x + v.len)) c.by)) None ≡ None) (same_Some j l k) w

    free : (l : Link) (d : ℤ) → o ≡ Some l → (d ≡ pos 0 → ⊥) → cond (carried_outside l c.track c.item named) (broken_by l (shown_offset (offset_of v.first x)) d) None ≡ None
        → carried_outside l c.track c.item named ≡ false
    free l d k differs w = not_broken l (carried_outside l c.track c.item named) (shown_offset (offset_of v.first x)) d differs w

    at : (d : ℤ) → (d ≡ pos 0) ⊎ (slide_allows table t x (x + v.len) d ≡ true) → ((l : Link) → o ≡ Some l → (d ≡ pos 0 → ⊥) → carried_outside l c.track c.item named ≡ false)
        → LeavesTogether all (among_named named (used_on t (slid t x (x + v.len)) d))
    at (pos zero) m f = kept_leave (Ok (t, By (pos zero))) (refl, keeps-self t)
    at (pos (suc k)) (inl m) f = absurd cc
    at (pos (suc k)) (inr m) f =
        within_leave all named (slid t x (x + v.len) (pos (suc k))) (By (pos (suc k)))
        (slides_done x (x + v.len) (slid t x (x + v.len) (pos (suc k))) o within.0 range link told (λ l q. f l q (λ z. absurd cc)) (slid-slides table t x (x + v.len) (pos (suc k)) within.0 within.1 m))
    at (negsuc k) (inl m) f = absurd cc
    at (negsuc k) (inr m) f =
        within_leave all named (slid t x (x + v.len) (negsuc k)) (By (negsuc k))
        (slides_done x (x + v.len) (slid t x (x + v.len) (negsuc k)) o within.0 range link told (λ l q. f l q (λ z. absurd cc)) (slid-slides table t x (x + v.len) (negsuc k) within.0 within.1 m))

  slide_keeps : LeavesTogether all (slide_own table named c t)
  slide_keeps = by (item_of t c.item) refl where
    ranges : range_of t.cells c.item ≡ ranged (item_of t c.item)
    ranges = range-item (items_of t.cells) 0 c.item

    item : (x : ℕ) (v : ItemView) → item_of t c.item ≡ Some (x, v) → (o : Option Link) → v.link ≡ o → or_else (outside_refusal named o) (link_broken table named c t x v o) ≡ None
        → LeavesTogether all (among_named named (slide_track table c t))
    item x v f o k told =
        let range : range_of t.cells c.item ≡ Some (x, x + v.len) = ranges ∙ ap ranged f in
        let r = or_none (outside_refusal named o) (link_broken table named c t x v o) told in
        subst (λ (p : Option (ℕ × ℕ)). LeavesTogether all (among_named named (on_range (slide_range table t c.by) p))) (sym range)
        (slide_item x v o range (ap link_found f ∙ k) r.0 r.1)

    by : (found : Option (ℕ × ItemView)) → item_of t c.item ≡ found → LeavesTogether all (unless (links_refuse table named c t found) (among_named named (slide_track table c t)))
    by None f =
        subst (λ (p : Option (ℕ × ℕ)). LeavesTogether all (among_named named (on_range (slide_range table t c.by) p))) (sym (ranges ∙ ap ranged f)) tt
    by (Some (x, v)) f =
        unless-leaves all (or_else (outside_refusal named v.link) (link_broken table named c t x v v.link)) (among_named named (slide_track table c t)) (λ told. item x v f v.link refl told)

pub sliding-keeps : SlidingKeepsTogether
sliding-keeps table c =
    own-room table c.track (λ named t. slide_own table named c t)
    (λ all named t room names g e. slide_keeps table c all named t room names g e (room-good table all named c.track t room names.among e))
