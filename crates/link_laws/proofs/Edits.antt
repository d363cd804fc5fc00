-- Edits of one track, dissolves, and links taken away.
use Rattle.std.proofs.Common.{◌≡◌, ℕ, zero, suc, ◌+◌, ◌-◌, ◌<◌, ◌≤◌, ◌⊎◌, inl, inr, ℤ, pos, negsuc, Bool, true, false, cond, ltb, nat_le, ◌&&◌, min, List, [], ◌∷◌, ◌++◌, take, drop, map, length, Option, Some, None, Result, Ok, Err, refl, sym, ap, ◌∙◌, arith, subst}
use Rattle.std.proofs.lemmas.Bool.{and_parts, cases_lt, leb-true, ltb-true}
use Rattle.std.proofs.lemmas.List.{length-append, length-drop, length-map, length-take-le}
use Rattle.frame_meaning.specs.declared.cells.Cell.{Cell}
use Rattle.frame_meaning.specs.declared.cells.Link.{Link}
use Rattle.frame_meaning.specs.declared.cells.Mark.{Mark}
use Rattle.frame_meaning.specs.Render.{cell_at}
use Rattle.composables.specs.declared.calls.Dissolve.{Dissolve}
use Rattle.composables.specs.declared.calls.End.{End}
use Rattle.composables.specs.declared.calls.End.TheVariants.{Head, Tail}
use Rattle.composables.specs.declared.calls.Fill.{Fill}
use Rattle.composables.specs.declared.calls.Overwrite.{Overwrite}
use Rattle.composables.specs.declared.calls.Remove.{Remove}
use Rattle.composables.specs.declared.calls.Roll.{Roll}
use Rattle.composables.specs.declared.calls.Slice.{Slice}
use Rattle.composables.specs.declared.calls.Trim.{Trim}
use Rattle.composables.specs.declared.calls.Undissolve.{Undissolve}
use Rattle.composables.specs.declared.calls.Unlink.{Unlink}
use Rattle.composables.specs.declared.items.ItemView.{ItemView}
use Rattle.composables.specs.declared.media.Table.{Table}
use Rattle.composables.specs.declared.refusals.Done.{Done}
use Rattle.composables.specs.declared.refusals.Done.TheVariants.{By, Item, Plain}
use Rattle.composables.specs.declared.refusals.Refusal.{Refusal}
use Rattle.composables.specs.declared.refusals.Refusal.TheVariants.{NoItem, NotACut, NoTrack}
use Rattle.composables.specs.Answers.{Applied, unless}
use Rattle.composables.specs.Good.{IsGood}
use Rattle.composables.specs.Items.{items_of}
use Rattle.composables.specs.Joined.{frames_in}
use Rattle.composables.specs.Limits.{too_long, too_many, track_within_limits}
use Rattle.composables.specs.OwnTracks.{among_named, for_own, on_own, track_numbered}
use Rattle.composables.specs.Ranges.{on_range, gap_at, is_cut, range_of}
use Rattle.composables.specs.TrackState.{TrackState}
use Rattle.composables.specs.Views.{clip_view, gap_views}
use Rattle.dissolves.specs.Cuts.{dissolve_refusal}
use Rattle.dissolves.specs.Marking.{dissolve_on, mark_asked, mark_at_place, marked_track, undissolve_on, undissolve_refusal}
use Rattle.edit_delta.specs.Nearest.{nearest}
use Rattle.edit_delta.specs.Reaching.{going_on, has_before, keeps_a_cell, reaching_back}
use Rattle.edit_delta.specs.Using.{used_on}
use Rattle.edit_delta.proofs.Greatest.{is-nearest}
use Rattle.edit_insert.specs.Edits.{overwrite_track, overwritten, remove_track, slice_track}
use Rattle.edit_insert.specs.Fills.{fill_at, fill_track, filled, frames_asked}
use Rattle.edit_insert.specs.Sources.{source_refusal}
use Rattle.edit_roll.specs.Neighbours.{begin_at, move_allows}
use Rattle.edit_roll.specs.Rolling.{roll_cut, roll_track, rolled}
use Rattle.edit_splice.specs.Padding.{padded_track}
use Rattle.edit_splice.specs.Splicing.{spliced_track}
use Rattle.edit_splice.proofs.Bridging.{for-found, is-numbered}
use Rattle.edit_splice.proofs.Padding.{frames-gap}
use Rattle.edit_trim.specs.Darkness.{dark_before}
use Rattle.edit_trim.specs.Trimming.{trim_allows, trim_end, trim_track, trimmed}
use Rattle.link_groups.specs.LinkedItems.{item_of, linked_found, linked_on}
use Rattle.link_groups.specs.Linking.{unlink_on, where_there}
use Rattle.link_groups.proofs.ShiftLinks.{gap-bare}
use Rattle.link_laws.specs.Laws.{DissolvingKeepsTogether, MovingAnEndKeepsTogether, PuttingInKeepsTogether, UnlinkingKeepsTogether}
use Rattle.link_laws.specs.Rooms.{AreAmong, IsRoom, KeepsTogether, LeavesTogether, with_tracks}
use Rattle.link_laws.specs.Together.{Together}
use Rattle.link_laws.proofs.FreeRanges.{frames-all, gap-within, item-range, range-item, ranged}
use Rattle.link_laws.proofs.LinkedRuns.{grown-on}
use Rattle.link_laws.proofs.Runs.{runs-alike}
use Rattle.link_laws.proofs.Sights.{Alike, Shows, alike-self, shows-alike, shows-append, shows-at, shows-drop, shows-take}
use Rattle.link_laws.proofs.Splices.{keeps-bare, keeps-one, keeps-padded, length-pad, padded-runs, seen-back, seen-on}
use Rattle.link_laws.proofs.Tied.{Each, Keeps, among-numbered, each-left, each-with, good-found, kept-tied, keeps-self, keeps-then, tied-of, together-of}
use Rattle.link_laws.proofs.Weighing.{kept-little, numbered-of}

-- what a call leaves, if it is done, and where it is for one track

abbrev pub KeptOne : TrackState → Result (TrackState × Done) Refusal → Type 0
KeptOne t (Ok (u, d)) = (u.number ≡ t.number) × Keeps t u
KeptOne t (Err r) = Unit {0}

abbrev pub KeptAll : List TrackState → Applied → Type 0
KeptAll ts (Ok (us, d)) = Each Keeps ts us
KeptAll ts (Err r) = Unit {0}

pub kept-leaves : (table : Table) (all named : List TrackState) (r : Applied) → IsRoom table all → AreAmong all named → Together all → KeptAll named r → LeavesTogether all r
kept-leaves table all named (Ok (us, d)) room among g k =
    let each = each-left Keeps keeps-self all named us all among k room.apart in
    record { together = together-of (with_tracks all us) (kept-tied all (with_tracks all us) each (tied-of all g)); little = kept-little all (with_tracks all us) (numbered-of table all room) each }
kept-leaves table all named (Err r) room among g k = tt

pub kept-law : (table : Table) (meant : List TrackState → Applied) → ((all named : List TrackState) → IsRoom table all → AreAmong all named → KeptAll named (meant named)) → KeepsTogether table meant
kept-law table meant h all named room names g = kept-leaves table all named (meant named) room names.among g (h all named room names.among)

pub not-found : (own : ℕ) (meant : TrackState → Applied) (ts : List TrackState) → track_numbered own ts ≡ None → for_own own meant ts ≡ Err (NoTrack own)
not-found own meant ts e = rw e refl

pub among-kept : (own : ℕ) (ts : List TrackState) (t : TrackState) (r : Result (TrackState × Done) Refusal) → track_numbered own ts ≡ Some t → KeptOne t r → KeptAll ts (among_named ts r)
among-kept own ts t (Ok (u, d)) e k =
    each-with Keeps keeps-self ts t u (ap (λ (m : ℕ). track_numbered m ts) (k.0 ∙ is-numbered own ts t e) ∙ e) k.0 k.1
among-kept own ts t (Err r) e k = tt

pub own-kept : (own : ℕ) (meant : TrackState → Result (TrackState × Done) Refusal) (ts : List TrackState)
    → ((t : TrackState) → track_numbered own ts ≡ Some t → KeptOne t (meant t)) → KeptAll ts (on_own own meant ts)
own-kept own meant ts each = by (track_numbered own ts) refl where
  all : TrackState → Applied
  all t = among_named ts (meant t)

  by : (o : Option TrackState) → track_numbered own ts ≡ o → KeptAll ts (on_own own meant ts)
  by None e = subst (KeptAll ts) (sym (not-found own all ts e)) tt
  by (Some t) e = subst (KeptAll ts) (sym (for-found own all ts t e)) (among-kept own ts t (meant t) e (each t e))

pub room-good : (table : Table) (all named : List TrackState) (own : ℕ) (t : TrackState) → IsRoom table all → AreAmong all named → track_numbered own named ≡ Some t → IsGood table t
room-good table all named own t room among e = (good-found table all own t room.tracks (among-numbered all named own t among e)).1

own_law : (table : Table) (own : ℕ) (meant : TrackState → Result (TrackState × Done) Refusal) → ((t : TrackState) → IsGood table t → KeptOne t (meant t))
    → KeepsTogether table (λ named. on_own own meant named)
own_law table own meant each =
    kept-law table (λ named. on_own own meant named) (λ all named room among. own-kept own meant named (λ t e. each t (room-good table all named own t room among e)))

unless_kept : (t : TrackState) (why : Option Refusal) (meant : Result (TrackState × Done) Refusal) → KeptOne t meant → KeptOne t (unless why meant)
unless_kept t None meant h = h
unless_kept t (Some r) meant h = tt

within_kept : (t u : TrackState) (done : Done) → u.number ≡ t.number → Keeps t u → KeptOne t (track_within_limits u done)
within_kept t u done n k =
    unless_kept t (too_long (u ∷ [])) (unless (too_many (u ∷ [])) (Ok (u, done))) (unless_kept t (too_many (u ∷ [])) (Ok (u, done)) (n, k))

-- items put in, taken out and cut in two

up_to : (x n end : ℕ) → (x + n ≡ min (x + n) end) ⊎ (end ≤ min (x + n) end)
up_to x n end = by (cases_lt end (x + n)) where
  by : (end < x + n) ⊎ (x + n ≤ end) → (x + n ≡ min (x + n) end) ⊎ (end ≤ min (x + n) end)
  by (inl less) = inr (omega (arith, less))
  by (inr le) = inl (omega (arith, le))

pub overwrite-one : (table : Table) (c : Overwrite) (t : TrackState) → KeptOne t (overwrite_track table c t)
overwrite-one table c t =
    let p : TrackState = padded_track t c.at in
    let clip : List ItemView = clip_view t.next_item c.what c.from c.len ∷ [] in
    let one : c.at + frames_in clip ≡ c.at + c.len = omega arith in
    unless_kept t (source_refusal table t.number c.what c.from c.len) (track_within_limits (overwritten c.keep t c.at c.what c.from c.len) (Item t.next_item))
    (within_kept t (overwritten c.keep t c.at c.what c.from c.len) (Item t.next_item) refl
    (keeps-then t p (overwritten c.keep t c.at c.what c.from c.len) (keeps-padded t c.at) (padded-runs t c.at)
    (keeps-bare c.keep p c.at (min (c.at + c.len) (length p.cells)) clip (omega (arith, length-pad t c.at))
    (subst (λ (k : ℕ). (k ≡ min (c.at + c.len) (length p.cells)) ⊎ (length p.cells ≤ min (c.at + c.len) (length p.cells))) (sym one) (up_to c.at c.len (length p.cells)))
    (refl, tt))))

pub remove-one : (table : Table) (c : Remove) (t : TrackState) → KeptOne t (remove_track c t)
remove-one table c t = by (range_of t.cells c.item) refl where
  by : (o : Option (ℕ × ℕ)) → range_of t.cells c.item ≡ o
      → KeptOne t (on_range (λ x y. track_within_limits (spliced_track c.keep t x y (gap_views (y - x))) Plain) o)
  by None e = tt
  by (Some (x, y)) e =
      let r = item-range t c.item x y e in
      within_kept t (spliced_track c.keep t x y (gap_views (y - x))) Plain refl
      (keeps-bare c.keep t x y (gap_views (y - x)) (omega (arith, r.0, r.1)) (inl (omega (arith, r.0, frames-gap (y - x)))) (gap-bare (y - x)))

pub slice-one : (table : Table) (c : Slice) (t : TrackState) → KeptOne t (slice_track c t)
slice-one table c t = by (ltb c.at (length t.cells)) refl where
  by : (b : Bool) → ltb c.at (length t.cells) ≡ b → KeptOne t (cond b (track_within_limits (spliced_track c.keep t c.at c.at []) Plain) (Err NoItem))
  by true e =
      within_kept t (spliced_track c.keep t c.at c.at []) Plain refl
      (keeps-bare c.keep t c.at c.at [] (omega (arith, ltb-true c.at (length t.cells) e)) (inl (omega arith)) tt)
  by false e = tt

pub fill-one : (table : Table) (c : Fill) (t : TrackState) → KeptOne t (fill_track table c t)
fill-one table c t = by (gap_at t.cells c.at) refl where
  by : (o : Option (ℕ × ℕ)) → gap_at t.cells c.at ≡ o → KeptOne t (fill_at table c t o)
  by None e = tt
  by (Some (x, y)) e =
      let r = gap-within (items_of t.cells) 0 c.at x y e in
      let asked : ℕ = frames_asked c.length (y - x) in
      let len : ℕ = min asked (y - x) in
      unless_kept t (source_refusal table t.number c.what c.from asked) (track_within_limits (filled t c x len) (Item t.next_item))
      (within_kept t (filled t c x len) (Item t.next_item) refl
      (keeps-bare c.keep t x (x + len) (clip_view t.next_item c.what c.from len ∷ []) (omega (arith, r.1, frames-all t.cells)) (inl (omega arith)) (refl, tt)))

pub putting-keeps : PuttingInKeepsTogether
putting-keeps = record {
  overwrite = λ table c. own_law table c.track (overwrite_track table c) (λ t g. overwrite-one table c t);
  fill = λ table c. own_law table c.track (fill_track table c) (λ t g. fill-one table c t);
  remove = λ table c. own_law table c.track (remove_track c) (λ t g. remove-one table c t);
  slice = λ table c. own_law table c.track (slice_track c) (λ t g. slice-one table c t);
}

-- an end of an item, and a cut, moved

pub used-kept : (t : TrackState) (moved : ℤ → TrackState) (allowed : ℤ → Bool) (by : ℤ)
    → ((d : ℤ) → allowed d ≡ true → ((moved d).number ≡ t.number) × Keeps t (moved d)) → KeptOne t (used_on t moved (nearest allowed by))
used-kept t moved allowed by each = at (nearest allowed by) (is-nearest allowed by).member where
  at : (d : ℤ) → (d ≡ pos 0) ⊎ (allowed d ≡ true) → KeptOne t (used_on t moved d)
  at (pos zero) m = (refl, keeps-self t)
  at (pos (suc k)) (inl e) = absurd cc
  at (pos (suc k)) (inr e) = let r = each (pos (suc k)) e in within_kept t (moved (pos (suc k))) (By (pos (suc k))) r.0 r.1
  at (negsuc k) (inl e) = absurd cc
  at (negsuc k) (inr e) = let r = each (negsuc k) e in within_kept t (moved (negsuc k)) (By (negsuc k)) r.0 r.1

back_kept : (keep : Bool) (table : Table) (t : TrackState) (x n : ℕ) → n ≤ x → x ≤ length t.cells → has_before table (cell_at t.cells x).side n ≡ true
    → Keeps t (spliced_track keep t (x - n) x (reaching_back (cell_at t.cells x) n ∷ []))
back_kept keep table t x n le within has =
    keeps-one keep t (x - n) x (reaching_back (cell_at t.cells x) n) (omega (arith, within)) (inl (omega (arith, le)))
    (λ l o h. seen-back table t x (x - n) n l o (omega (arith, le)) has h)

on_kept : (keep : Bool) (t : TrackState) (y z n : ℕ) → 0 < y → y ≤ length t.cells → (y + n ≡ z) ⊎ (length t.cells ≤ z)
    → Keeps t (spliced_track keep t y z (going_on (cell_at t.cells (y - 1)) n ∷ []))
on_kept keep t y z n some within way =
    let one : y + n ≡ y + (n + 0) = omega arith in
    keeps-one keep t y z (going_on (cell_at t.cells (y - 1)) n) within (subst (λ (k : ℕ). (k ≡ z) ⊎ (length t.cells ≤ z)) one way)
    (λ l o h. seen-on t y n l o some h)

dark_kept : (keep : Bool) (t : TrackState) (x y n : ℕ) → x ≤ length t.cells → x + n ≡ y → Keeps t (spliced_track keep t x y (gap_views n))
dark_kept keep t x y n within e = keeps-bare keep t x y (gap_views n) within (inl (omega (arith, e, frames-gap n))) (gap-bare n)

trim_kept : (table : Table) (t : TrackState) (x y : ℕ) (end : End) (d : ℤ) → x < y → y ≤ length t.cells → trim_allows table t x y end d ≡ true
    → ((trimmed t x y end d).number ≡ t.number) × Keeps t (trimmed t x y end d)
trim_kept table t x y Head (pos k) less within e = (refl, dark_kept false t x (x + k) k (omega (arith, less, within)) refl)
trim_kept table t x y Head (negsuc k) less within e =
    let a = and_parts (dark_before t.cells x (suc k)) (has_before table (cell_at t.cells x).side (suc k)) e in
    let le = leb-true (suc k) x (and_parts (nat_le (suc k) x) _ a.0).0 in
    (refl, back_kept false table t x (suc k) le (omega (arith, less, within)) a.1)
trim_kept table t x y Tail (pos k) less within e = (refl, on_kept false t y (min (y + k) (length t.cells)) k (omega (arith, less)) within (up_to y k (length t.cells)))
trim_kept table t x y Tail (negsuc k) less within e =
    let fits : x + suc k < y = ltb-true (x + suc k) y e in
    (refl, dark_kept false t (y - suc k) y (suc k) (omega (arith, within)) (omega (arith, fits)))

pub trim-one : (table : Table) (c : Trim) (t : TrackState) → KeptOne t (trim_track table c t)
trim-one table c t = by (range_of t.cells c.item) refl where
  by : (o : Option (ℕ × ℕ)) → range_of t.cells c.item ≡ o → KeptOne t (on_range (trim_end table t c.end c.by) o)
  by None e = tt
  by (Some (x, y)) e =
      let r = item-range t c.item x y e in
      used-kept t (trimmed t x y c.end) (trim_allows table t x y c.end) c.by (λ d a. trim_kept table t x y c.end d r.0 r.1 a)

roll_kept : (table : Table) (t : TrackState) (at : ℕ) (d : ℤ) → 0 < at → at ≤ length t.cells → move_allows table t at at d ≡ true
    → ((rolled t at d).number ≡ t.number) × Keeps t (rolled t at d)
roll_kept table t at (pos k) some within e = (refl, on_kept false t at (at + k) k some within (inl refl))
roll_kept table t at (negsuc k) some within e =
    let a = and_parts (keeps_a_cell (begin_at t.cells (at - 1)) at (suc k)) (has_before table (cell_at t.cells at).side (suc k)) e in
    let fits : begin_at t.cells (at - 1) + suc k < at = ltb-true (begin_at t.cells (at - 1) + suc k) at a.0 in
    (refl, back_kept false table t at (suc k) (omega (arith, fits)) within a.1)

pub roll-one : (table : Table) (c : Roll) (t : TrackState) → KeptOne t (roll_track table c t)
roll-one table c t = by (is_cut t.cells c.at) refl where
  by : (b : Bool) → is_cut t.cells c.at ≡ b → KeptOne t (cond b (roll_cut table t c.by c.at) (Err (NotACut c.at)))
  by true e =
      let a = and_parts (ltb 0 c.at && ltb c.at (length t.cells)) _ e in
      let b = and_parts (ltb 0 c.at) (ltb c.at (length t.cells)) a.0 in
      let within = ltb-true c.at (length t.cells) b.1 in
      used-kept t (rolled t c.at) (move_allows table t c.at c.at) c.by (λ d m. roll_kept table t c.at d (ltb-true 0 c.at b.0) (omega (arith, within)) m)
  by false e = tt

pub moving-keeps : MovingAnEndKeepsTogether
moving-keeps = record {
  trim = λ table c. own_law table c.track (trim_track table c) (λ t g. trim-one table c t);
  roll = λ table c. own_law table c.track (roll_track table c) (λ t g. roll-one table c t);
}

-- dissolves

alike_marked : (cs : List Cell) (p : ℕ) (mark : Option Mark) → Alike (mark_at_place cs p mark) cs
alike_marked [] p mark = tt
alike_marked (c ∷ cs) zero mark = (refl, refl, alike-self cs)
alike_marked (c ∷ cs) (suc p) mark = (refl, refl, alike_marked cs p mark)

marked_kept : (t : TrackState) (p : ℕ) (mark : Option Mark) → Keeps t (marked_track t p mark)
marked_kept t p mark = record {
  shows = λ l o h. shows-alike 0 (mark_at_place t.cells p mark) t.cells l o (alike_marked t.cells p mark) h;
  next = refl;
  grown = ([], omega arith, λ h n. omega (arith, runs-alike h n false (mark_at_place t.cells p mark) t.cells (alike_marked t.cells p mark)));
}

pub dissolve-one : (table : Table) (c : Dissolve) (t : TrackState) → KeptOne t (dissolve_on table t c)
dissolve-one table c t =
    unless_kept t (dissolve_refusal table t.cells c.at (mark_asked c)) (Ok (marked_track t c.at (Some (mark_asked c)), Plain)) (refl, marked_kept t c.at (Some (mark_asked c)))

pub undissolve-one : (table : Table) (c : Undissolve) (t : TrackState) → KeptOne t (undissolve_on t c)
undissolve-one table c t =
    unless_kept t (undissolve_refusal (cell_at t.cells c.at).mark c.at) (Ok (marked_track t c.at None, Plain)) (refl, marked_kept t c.at None)

pub dissolving-keeps : DissolvingKeepsTogether
dissolving-keeps = record {
  dissolve = λ table c. own_law table c.track (λ t. dissolve_on table t c) (λ t g. dissolve-one table c t);
  undissolve = λ table c. own_law table c.track (λ t. undissolve_on t c) (λ t g. undissolve-one table c t);
}

-- a link taken away

set_shows : (p : ℕ) (cs : List Cell) (l : Link) (o : Option ℤ) → Shows p (map (λ (c : Cell). record c { link = None }) cs) l o → ⊥
set_shows p [] l o h = h
set_shows p (c ∷ cs) l o (inl h) = Prim.grind (arith, h.0)
set_shows p (c ∷ cs) l o (inr h) = set_shows (p + 1) cs l o h

unlinked_keeps : (t : TrackState) (x y : ℕ) → x ≤ y → y ≤ length t.cells → Keeps t (record t { cells = linked_on x y None t.cells })
unlinked_keeps t x y le within = record { shows = shows; next = refl; grown = grown-on t x y None le } where
  mid : List Cell
  mid = map (λ (c : Cell). record c { link = None }) (drop x (take y t.cells))

  long : length (take x t.cells ++ mid) ≡ y
  long =
      omega (
        arith,
        length-append (take x t.cells) mid,
        length-map (drop x (take y t.cells)) (λ (c : Cell). record c { link = None }),
        length-drop x (take y t.cells),
        length-take-le y t.cells within,
        length-take-le x t.cells (omega (arith, le, within)),
        le,
      )

  shows : (l : Link) (o : Option ℤ) → Shows 0 ((take x t.cells ++ mid) ++ drop y t.cells) l o → Shows 0 t.cells l o
  shows l o h = outer (shows-append 0 (take x t.cells ++ mid) (drop y t.cells) l o h) where
    inner : Shows 0 (take x t.cells) l o ⊎ Shows (0 + length (take x t.cells)) mid l o → Shows 0 t.cells l o
    inner (inl a) = shows-take x 0 t.cells l o a
    inner (inr b) = absurd (set_shows (0 + length (take x t.cells)) (drop x (take y t.cells)) l o b)

    outer : Shows 0 (take x t.cells ++ mid) l o ⊎ Shows (0 + length (take x t.cells ++ mid)) (drop y t.cells) l o → Shows 0 t.cells l o
    outer (inl a) = inner (shows-append 0 (take x t.cells) mid l o a)
    outer (inr b) = shows-drop y 0 t.cells l o (shows-at (0 + length (take x t.cells ++ mid)) (0 + y) (drop y t.cells) l o (omega (arith, long)) b)

pub unlink-one : (c : Unlink) (t : TrackState) → KeptOne t (unlink_on c t)
unlink-one c t = by (item_of t c.item) refl where
  by : (o : Option (ℕ × ItemView)) → item_of t c.item ≡ o → KeptOne t (where_there o (Ok (record t { cells = linked_found t.cells None o }, Plain)))
  by None e = tt
  by (Some (x, v)) e =
      let r = item-range t c.item x (x + v.len) (range-item (items_of t.cells) 0 c.item ∙ ap ranged e) in
      (refl, unlinked_keeps t x (x + v.len) (omega arith) r.1)

pub unlinking-keeps : UnlinkingKeepsTogether
unlinking-keeps table c = own_law table c.track (unlink_on c) (λ t g. unlink-one c t)
