-- What each call leaves of tracks on which only such things are shown as may be on a track with their number: the same
-- is so of what it leaves, where it is so of what the call puts on its own track.
use Rattle.std.proofs.Common.{◌≡◌, ℕ, zero, suc, ℤ, pos, negsuc, ◌+◌, ◌-◌, Bool, true, false, cond, eqb, min, List, [], ◌∷◌, All, length, map, take, drop, Option, Some, None, IfSome, Result, Ok, Err, refl, sym, subst, nat_lt, unwrap_or, slice_get, arith}
use Rattle.std.proofs.lemmas.Bool.{eqb-true}
use Rattle.std.proofs.lemmas.List.Elements.{All-cons}
use Rattle.frame_meaning.specs.declared.cells.Link.{Link}
use Rattle.frame_meaning.specs.declared.cells.What.{What}
use Rattle.frame_meaning.specs.Cells.{next_side}
use Rattle.frame_meaning.specs.Render.{cell_at}
use Rattle.composables.specs.declared.calls.Dissolve.{Dissolve}
use Rattle.composables.specs.declared.calls.End.{End}
use Rattle.composables.specs.declared.calls.End.TheVariants.{Head, Tail}
use Rattle.composables.specs.declared.calls.Extract.{Extract}
use Rattle.composables.specs.declared.calls.Fill.{Fill}
use Rattle.composables.specs.declared.calls.Insert.{Insert}
use Rattle.composables.specs.declared.calls.Link3.{Link3}
use Rattle.composables.specs.declared.calls.Overwrite.{Overwrite}
use Rattle.composables.specs.declared.calls.Remove.{Remove}
use Rattle.composables.specs.declared.calls.Ripple.{Ripple}
use Rattle.composables.specs.declared.calls.Roll.{Roll}
use Rattle.composables.specs.declared.calls.Slice.{Slice}
use Rattle.composables.specs.declared.calls.Slide.{Slide}
use Rattle.composables.specs.declared.calls.Slip.{Slip}
use Rattle.composables.specs.declared.calls.Trim.{Trim}
use Rattle.composables.specs.declared.calls.Undissolve.{Undissolve}
use Rattle.composables.specs.declared.calls.Unlink.{Unlink}
use Rattle.composables.specs.declared.items.ItemView.{ItemView}
use Rattle.composables.specs.declared.media.Table.{Table}
use Rattle.composables.specs.declared.refusals.Done.{Done}
use Rattle.composables.specs.declared.refusals.Done.TheVariants.{By, Item, Plain}
use Rattle.composables.specs.declared.refusals.Refusal.{Refusal}
use Rattle.composables.specs.declared.refusals.Refusal.TheVariants.{NoItem, NotACut}
use Rattle.composables.specs.Answers.{Applied, unless}
use Rattle.composables.specs.Bounds.{bounds_of}
use Rattle.composables.specs.Items.{cells_of}
use Rattle.composables.specs.Joined.{frames_in}
use Rattle.composables.specs.Limits.{too_long, too_many, track_within_limits, within_limits}
use Rattle.composables.specs.Links.{links_split, moved_cell, outside_refusal, split_links, split_track}
use Rattle.composables.specs.OwnTracks.{among_named, for_own, on_own, track_numbered, with_track}
use Rattle.composables.specs.Ranges.{on_range, gap_at, is_cut, range_of}
use Rattle.composables.specs.TrackState.{TrackState}
use Rattle.composables.specs.Views.{earlier_side, clip_view, gap_views}
use Rattle.dissolves.specs.Cuts.{dissolve_refusal}
use Rattle.dissolves.specs.Marking.{dissolve_named, dissolve_on, mark_asked, marked_track, undissolve_named, undissolve_on, undissolve_refusal}
use Rattle.edit_delta.specs.Nearest.{nearest}
use Rattle.edit_delta.specs.Reaching.{going_on, reaching_back}
use Rattle.edit_delta.specs.Using.{used_on, used_from}
use Rattle.edit_insert.specs.Edits.{extract_named, extracted, insert_named, inserted, overwrite_named, overwrite_track, overwritten, remove_named, remove_track, slice_named, slice_track}
use Rattle.edit_insert.specs.Fills.{fill_at, fill_named, fill_track, filled, frames_asked}
use Rattle.edit_insert.specs.Sources.{refusal_in, source_refusal, suits}
use Rattle.edit_roll.specs.Neighbours.{move_allows}
use Rattle.edit_roll.specs.Rolling.{roll_cut, roll_named, roll_track, rolled}
use Rattle.edit_roll.specs.Sliding.{bare_item, links_refuse, slid, slide_allows, slide_named, slide_own, slide_range, slide_track}
use Rattle.edit_splice.specs.Padding.{padded_track}
use Rattle.edit_splice.specs.Shifts.{after_shift, shift_of, shift_refusal, shifted, shifted_along, shifted_track}
use Rattle.edit_splice.specs.Splicing.{spliced_track}
use Rattle.edit_splice.proofs.Bridging.{for-found, is-numbered}
use Rattle.edit_splice.proofs.Standing.{all_head, all_none, all_tail}
use Rattle.edit_trim.specs.Rippling.{as_split, ripple_allows, ripple_end, ripple_named, ripple_own, rippled}
use Rattle.edit_trim.specs.Slipping.{link_allows, link_slipped, slip_allows, slip_link, slip_named, slip_own, slip_range, slip_track, slip_with, slipped, track_moved}
use Rattle.edit_trim.specs.Trimming.{trim_allows, trim_end, trim_named, trim_track, trimmed}
use Rattle.link_groups.specs.ItemLinks.{link_of}
use Rattle.link_groups.specs.LinkedItems.{item_of, linked_found, linked_item}
use Rattle.link_groups.specs.Linking.{all_linked, home_risen, link_named, link_refusal, linked, new_link, unlink_named, unlink_on, where_there}
use Rattle.track_laws.proofs.Own.{for-none}
use Rattle.track_laws.proofs.ShownCells.{CellsHave, SideHas, ViewsHave, has-at, has-earlier, has-next, have-append, have-changed, have-drop, have-gaps, have-linked, have-linked-on, have-marked, have-relinked, have-spliced, have-take, have-views}

-- only such things are shown on the track as may be on one with its number
abbrev pub IsShown : (ℕ → What → Type 0) → TrackState → Type 0
IsShown May t = CellsHave (May t.number) t.cells

-- what a call leaves, if it is done
abbrev pub AreShown : (ℕ → What → Type 0) → Applied → Type 0
AreShown May (Ok (ts, d)) = All (IsShown May) ts
AreShown May (Err r) = Unit {0}

abbrev pub StaysShown : (ℕ → What → Type 0) → Result (TrackState × Done) Refusal → Type 0
StaysShown May (Ok (u, d)) = IsShown May u
StaysShown May (Err r) = Unit {0}

-- what a call puts on its own track may be there, if it suits the track's kind
abbrev pub MayBePut : Table → (ℕ → What → Type 0) → ℕ → What → Type 0
MayBePut table May track what = suits (slice_get table.kinds track) what ≡ true → May track what

-- a thing that is not refused suits the track
is_suited : (o : Option (ℕ × ℕ)) (fits : Bool) (from len : ℕ) → refusal_in o fits from len ≡ None → fits ≡ true
is_suited None fits from len e = absurd (Prim.grind (arith, e))
is_suited (Some (low, high)) false from len e = absurd (Prim.grind (arith, e))
is_suited (Some (low, high)) true from len e = refl

module _ (May : ℕ → What → Type 0) where
  -- a splice, and dark frames behind
  shown_spliced : (keep : Bool) (t : TrackState) (x y : ℕ) (views : List ItemView) → IsShown May t → ViewsHave (May t.number) views → IsShown May (spliced_track keep t x y views)
  shown_spliced keep t x y views h v = have-spliced keep (May t.number) t x y views h v

  shown_padded : (t : TrackState) (at : ℕ) → IsShown May t → IsShown May (padded_track t at)
  shown_padded t at h =
      have-append (May t.number) t.cells (cells_of (gap_views (at - length t.cells))) h
      (have-views (May t.number) (gap_views (at - length t.cells)) (have-gaps (May t.number) (at - length t.cells)))

  -- refusals
  unless_shown : (why : Option Refusal) (meant : Applied) → (why ≡ None → AreShown May meant) → AreShown May (unless why meant)
  unless_shown None meant h = h refl
  unless_shown (Some r) meant h = tt

  unless_stays : (why : Option Refusal) (meant : Result (TrackState × Done) Refusal) → (why ≡ None → StaysShown May meant) → StaysShown May (unless why meant)
  unless_stays None meant h = h refl
  unless_stays (Some r) meant h = tt

  within_shown : (ts : List TrackState) (done : Done) → All (IsShown May) ts → AreShown May (within_limits ts done)
  within_shown ts done h =
      unless_shown (too_long ts) (unless (too_many ts) (Ok (ts, done))) (λ e. unless_shown (too_many ts) (Ok (ts, done)) (λ e. h))

  within_stays : (t : TrackState) (done : Done) → IsShown May t → StaysShown May (track_within_limits t done)
  within_stays t done h =
      unless_stays (too_long (t ∷ [])) (unless (too_many (t ∷ [])) (Ok (t, done))) (λ e. unless_stays (too_many (t ∷ [])) (Ok (t, done)) (λ e. h))

  -- the own track of a call
  with_shown : (ts : List TrackState) (u : TrackState) → All (IsShown May) ts → IsShown May u → All (IsShown May) (with_track ts u)
  with_shown [] u h y = h
  with_shown (t ∷ ts) u h y = by (eqb t.number u.number) (with_shown ts u (all_tail (IsShown May) t ts h) y) where
    by : (b : Bool) → All (IsShown May) (with_track ts u) → All (IsShown May) (cond b (u ∷ ts) (t ∷ with_track ts u))
    by true later = All-cons (IsShown May) u ts y (all_tail (IsShown May) t ts h)
    by false later = All-cons (IsShown May) t (with_track ts u) (all_head (IsShown May) t ts h) later

  numbered_shown : (own : ℕ) (ts : List TrackState) → All (IsShown May) ts → IfSome (track_numbered own ts) (IsShown May)
  numbered_shown own [] h = tt
  numbered_shown own (t ∷ ts) h = by (eqb t.number own) (numbered_shown own ts (all_tail (IsShown May) t ts h)) where
    by : (b : Bool) → IfSome (track_numbered own ts) (IsShown May) → IfSome (cond b (Some t) (track_numbered own ts)) (IsShown May)
    by true later = all_head (IsShown May) t ts h
    by false later = later

  for_own_shown : (own : ℕ) (meant : TrackState → Applied) (ts : List TrackState) → All (IsShown May) ts
      → ((t : TrackState) → t.number ≡ own → IsShown May t → AreShown May (meant t)) → AreShown May (for_own own meant ts)
  for_own_shown own meant ts h each = by (track_numbered own ts) refl (numbered_shown own ts h) where
    by : (o : Option TrackState) → track_numbered own ts ≡ o → IfSome o (IsShown May) → AreShown May (for_own own meant ts)
    by None e y = subst (AreShown May) (sym (for-none own meant ts e)) tt
    by (Some t) e y = subst (AreShown May) (sym (for-found own meant ts t e)) (each t (is-numbered own ts t e) y)

  among_shown : (ts : List TrackState) (r : Result (TrackState × Done) Refusal) → All (IsShown May) ts → StaysShown May r → AreShown May (among_named ts r)
  among_shown ts (Ok (u, d)) h y = with_shown ts u h y
  among_shown ts (Err r) h y = tt

  on_own_shown : (own : ℕ) (meant : TrackState → Result (TrackState × Done) Refusal) (ts : List TrackState) → All (IsShown May) ts
      → ((t : TrackState) → t.number ≡ own → IsShown May t → StaysShown May (meant t)) → AreShown May (on_own own meant ts)
  on_own_shown own meant ts h each =
      for_own_shown own (λ t. among_named ts (meant t)) ts h (λ t n y. among_shown ts (meant t) h (each t n y))

  for_range_stays : (meant : ℕ → ℕ → Result (TrackState × Done) Refusal) (range : Option (ℕ × ℕ)) → ((x y : ℕ) → StaysShown May (meant x y))
      → StaysShown May (on_range meant range)
  for_range_stays meant None h = tt
  for_range_stays meant (Some (x, y)) h = h x y

  for_range_shown : (meant : ℕ → ℕ → Applied) (range : Option (ℕ × ℕ)) → ((x y : ℕ) → AreShown May (meant x y)) → AreShown May (on_range meant range)
  for_range_shown meant None h = tt
  for_range_shown meant (Some (x, y)) h = h x y

  on_range_stays : (meant : ℕ → ℕ → Result (TrackState × Done) Refusal) (range : Option (ℕ × ℕ)) → ((x y : ℕ) → StaysShown May (meant x y))
      → StaysShown May (on_range meant range)
  on_range_stays meant None h = tt
  on_range_stays meant (Some (x, y)) h = h x y

  on_range_shown : (meant : ℕ → ℕ → Applied) (range : Option (ℕ × ℕ)) → ((x y : ℕ) → AreShown May (meant x y)) → AreShown May (on_range meant range)
  on_range_shown meant None h = tt
  on_range_shown meant (Some (x, y)) h = h x y

  -- a shift
  along_shown : (keep : Bool) (t : TrackState) (x y len : ℕ) → IsShown May t → IsShown May (shifted_along keep t x y len)
  along_shown keep t x y len h = by (nat_lt x (length t.cells)) where
    by : (b : Bool) → IsShown May (spliced_track keep t (min x (length t.cells)) (min y (length t.cells)) (cond b (gap_views len) []))
    by true = shown_spliced keep t (min x (length t.cells)) (min y (length t.cells)) (gap_views len) h (have-gaps (May t.number) len)
    by false = shown_spliced keep t (min x (length t.cells)) (min y (length t.cells)) [] h tt

  shifted_shown : (keep : Bool) (own x y : ℕ) (views : List ItemView) (ts : List TrackState) → All (IsShown May) ts → ViewsHave (May own) views
      → All (IsShown May) (shifted keep own x y views ts)
  shifted_shown keep own x y views [] h v = all_none (IsShown May)
  shifted_shown keep own x y views (t ∷ ts) h v =
      All-cons (IsShown May) (shifted_track keep own x y views t) (shifted keep own x y views ts) (by (eqb t.number own) refl)
      (shifted_shown keep own x y views ts (all_tail (IsShown May) t ts h) v) where
        by : (b : Bool) → eqb t.number own ≡ b → IsShown May (cond b (spliced_track keep t x y views) (shifted_along keep t x y (frames_in views)))
        by true e = shown_spliced keep t x y views (all_head (IsShown May) t ts h) (subst (λ (k : ℕ). ViewsHave (May k) views) (sym (eqb-true t.number own e)) v)
        by false e = along_shown keep t x y (frames_in views) (all_head (IsShown May) t ts h)

  relinked_shown : (z : ℕ) (us : List TrackState) (ls : List Link) (ts : List TrackState) → All (IsShown May) ts → All (IsShown May) (map (split_track z us ls) ts)
  relinked_shown z us ls [] h = all_none (IsShown May)
  relinked_shown z us ls (t ∷ ts) h =
      All-cons (IsShown May) (split_track z us ls t) (map (split_track z us ls) ts) (one (all_head (IsShown May) t ts h)) (relinked_shown z us ls ts (all_tail (IsShown May) t ts h)) where
        one : IsShown May t → IsShown May (split_track z us ls t)
        one y =
            have-append (May t.number) (take z t.cells) (map (moved_cell us ls) (drop z t.cells)) (have-take (May t.number) z t.cells y)
            (have-relinked (May t.number) us ls (drop z t.cells) (have-drop (May t.number) z t.cells y))

  split_shown : (x z : ℕ) (ts : List TrackState) → All (IsShown May) ts → All (IsShown May) (links_split x z ts)
  split_shown x z ts h = relinked_shown z ts (split_links x z ts) ts h

  shift_shown : (keep : Bool) (own x y : ℕ) (views : List ItemView) (done : Done) (ts : List TrackState) → All (IsShown May) ts → ViewsHave (May own) views
      → AreShown May (shift_of keep own x y views done ts)
  shift_shown keep own x y views done ts h v =
      unless_shown (shift_refusal x y (frames_in views) ts) (within_limits (after_shift keep own x y views ts) done)
      (λ e. within_shown (after_shift keep own x y views ts) done (by (eqb (frames_in views) (y - x)))) where
        all : All (IsShown May) (shifted keep own x y views ts)
        all = shifted_shown keep own x y views ts h v

        by : (b : Bool) → All (IsShown May) (cond b (shifted keep own x y views ts) (links_split x (x + frames_in views) (shifted keep own x y views ts)))
        by true = all
        by false = split_shown x (x + frames_in views) (shifted keep own x y views ts) all

  -- what is put on a track
  put_there : (table : Table) (t : TrackState) (own : ℕ) (what : What) (from len : ℕ) → t.number ≡ own → MayBePut table May own what → source_refusal table t.number what from len ≡ None → May t.number what
  put_there table t own what from len n may e =
      subst (λ (k : ℕ). MayBePut table May k what) (sym n) may (is_suited (bounds_of table what) (suits (slice_get table.kinds t.number) what) from len e)

  pub shown-overwrite : (table : Table) (ts : List TrackState) (c : Overwrite) → MayBePut table May c.track c.what → All (IsShown May) ts → AreShown May (overwrite_named table ts c)
  shown-overwrite table ts c may h = on_own_shown c.track (overwrite_track table c) ts h each where
    each : (t : TrackState) → t.number ≡ c.track → IsShown May t → StaysShown May (overwrite_track table c t)
    each t n y =
        unless_stays (source_refusal table t.number c.what c.from c.len) (track_within_limits (overwritten c.keep t c.at c.what c.from c.len) (Item t.next_item))
        (λ e. within_stays (overwritten c.keep t c.at c.what c.from c.len) (Item t.next_item)
        (shown_spliced c.keep (padded_track t c.at) c.at (min (c.at + c.len) (length (padded_track t c.at).cells)) (clip_view t.next_item c.what c.from c.len ∷ [])
        (shown_padded t c.at y) (put_there table t c.track c.what c.from c.len n may e, tt)))

  pub shown-insert : (table : Table) (ts : List TrackState) (c : Insert) → MayBePut table May c.track c.what → All (IsShown May) ts → AreShown May (insert_named table ts c)
  shown-insert table ts c may h = for_own_shown c.track (inserted table c ts) ts h each where
    each : (t : TrackState) → t.number ≡ c.track → IsShown May t → AreShown May (inserted table c ts t)
    each t n y =
        unless_shown (source_refusal table t.number c.what c.from c.len)
        (shift_of c.keep c.track c.at c.at (clip_view t.next_item c.what c.from c.len ∷ []) (Item t.next_item) (with_track ts (padded_track t c.at)))
        (λ e. shift_shown c.keep c.track c.at c.at (clip_view t.next_item c.what c.from c.len ∷ []) (Item t.next_item) (with_track ts (padded_track t c.at))
        (with_shown ts (padded_track t c.at) h (shown_padded t c.at y))
        (subst (λ (k : ℕ). May k c.what) n (put_there table t c.track c.what c.from c.len n may e), tt))

  pub shown-fill : (table : Table) (ts : List TrackState) (c : Fill) → MayBePut table May c.track c.what → All (IsShown May) ts → AreShown May (fill_named table ts c)
  shown-fill table ts c may h = on_own_shown c.track (fill_track table c) ts h each where
    each : (t : TrackState) → t.number ≡ c.track → IsShown May t → StaysShown May (fill_track table c t)
    each t n y = by (gap_at t.cells c.at) where
      by : (gap : Option (ℕ × ℕ)) → StaysShown May (fill_at table c t gap)
      by None = tt
      by (Some (a, b)) =
          let asked : ℕ = frames_asked c.length (b - a) in
          unless_stays (source_refusal table t.number c.what c.from asked) (track_within_limits (filled t c a (min asked (b - a))) (Item t.next_item))
          (λ e. within_stays (filled t c a (min asked (b - a))) (Item t.next_item)
          (shown_spliced c.keep t a (a + min asked (b - a)) (clip_view t.next_item c.what c.from (min asked (b - a)) ∷ []) y (put_there table t c.track c.what c.from asked n may e, tt)))

  -- what is taken out of one, and cut in two
  pub shown-remove : (ts : List TrackState) (c : Remove) → All (IsShown May) ts → AreShown May (remove_named ts c)
  shown-remove ts c h = on_own_shown c.track (remove_track c) ts h each where
    each : (t : TrackState) → t.number ≡ c.track → IsShown May t → StaysShown May (remove_track c t)
    each t n y = for_range_stays (λ a b. track_within_limits (spliced_track c.keep t a b (gap_views (b - a))) Plain) (range_of t.cells c.item)
        (λ a b. within_stays (spliced_track c.keep t a b (gap_views (b - a))) Plain
        (shown_spliced c.keep t a b (gap_views (b - a)) y (have-gaps (May t.number) (b - a))))

  pub shown-extract : (ts : List TrackState) (c : Extract) → All (IsShown May) ts → AreShown May (extract_named ts c)
  shown-extract ts c h = for_own_shown c.track (extracted c ts) ts h each where
    each : (t : TrackState) → t.number ≡ c.track → IsShown May t → AreShown May (extracted c ts t)
    each t n y = for_range_shown (λ a b. shift_of c.keep c.track a b [] Plain ts) (range_of t.cells c.item) (λ a b. shift_shown c.keep c.track a b [] Plain ts h tt)

  pub shown-slice : (ts : List TrackState) (c : Slice) → All (IsShown May) ts → AreShown May (slice_named ts c)
  shown-slice ts c h = on_own_shown c.track (slice_track c) ts h each where
    each : (t : TrackState) → t.number ≡ c.track → IsShown May t → StaysShown May (slice_track c t)
    each t n y = by (nat_lt c.at (length t.cells)) where
      by : (b : Bool) → StaysShown May (cond b (track_within_limits (spliced_track c.keep t c.at c.at []) Plain) (Err NoItem))
      by true = within_stays (spliced_track c.keep t c.at c.at []) Plain (shown_spliced c.keep t c.at c.at [] y tt)
      by false = tt

  -- a dissolve put or taken away
  pub shown-dissolve : (table : Table) (ts : List TrackState) (c : Dissolve) → All (IsShown May) ts → AreShown May (dissolve_named table ts c)
  shown-dissolve table ts c h = on_own_shown c.track (λ t. dissolve_on table t c) ts h each where
    each : (t : TrackState) → t.number ≡ c.track → IsShown May t → StaysShown May (dissolve_on table t c)
    each t n y =
        unless_stays (dissolve_refusal table t.cells c.at (mark_asked c)) (Ok (marked_track t c.at (Some (mark_asked c)), Plain))
        (λ e. have-marked (May t.number) t.cells c.at (Some (mark_asked c)) y)

  pub shown-undissolve : (ts : List TrackState) (c : Undissolve) → All (IsShown May) ts → AreShown May (undissolve_named ts c)
  shown-undissolve ts c h = on_own_shown c.track (λ t. undissolve_on t c) ts h each where
    each : (t : TrackState) → t.number ≡ c.track → IsShown May t → StaysShown May (undissolve_on t c)
    each t n y =
        unless_stays (undissolve_refusal (cell_at t.cells c.at).mark c.at) (Ok (marked_track t c.at None, Plain)) (λ e. have-marked (May t.number) t.cells c.at None y)

  -- an edit by a delta
  used_stays : (t : TrackState) (moved : ℤ → TrackState) (d : ℤ) → IsShown May t → IsShown May (moved d) → StaysShown May (used_on t moved d)
  used_stays t moved (pos zero) y h = y
  used_stays t moved (pos (suc k)) y h = within_stays (moved (pos (suc k))) (By (pos (suc k))) h
  used_stays t moved (negsuc k) y h = within_stays (moved (negsuc k)) (By (negsuc k)) h

  -- what goes on from a cell, and reaches back before one
  on_side : (t : TrackState) (p : ℕ) → IsShown May t → SideHas (May t.number) (next_side (cell_at t.cells p).side)
  on_side t p y = has-next (May t.number) (cell_at t.cells p).side (has-at (May t.number) t.cells p y)

  back_side : (t : TrackState) (p k : ℕ) → IsShown May t → SideHas (May t.number) (earlier_side (cell_at t.cells p).side k)
  back_side t p k y = has-earlier (May t.number) (cell_at t.cells p).side k (has-at (May t.number) t.cells p y)

  shown_trimmed : (t : TrackState) (x y : ℕ) (end : End) (d : ℤ) → IsShown May t → IsShown May (trimmed t x y end d)
  shown_trimmed t x y Head (pos k) h = shown_spliced false t x (x + k) (gap_views k) h (have-gaps (May t.number) k)
  shown_trimmed t x y Head (negsuc k) h = shown_spliced false t (x - suc k) x (reaching_back (cell_at t.cells x) (suc k) ∷ []) h (back_side t x (suc k) h, tt)
  shown_trimmed t x y Tail (pos k) h = shown_spliced false t y (min (y + k) (length t.cells)) (going_on (cell_at t.cells (y - 1)) k ∷ []) h (on_side t (y - 1) h, tt)
  shown_trimmed t x y Tail (negsuc k) h = shown_spliced false t (y - suc k) y (gap_views (suc k)) h (have-gaps (May t.number) (suc k))

  pub shown-trim : (table : Table) (ts : List TrackState) (c : Trim) → All (IsShown May) ts → AreShown May (trim_named table ts c)
  shown-trim table ts c h = on_own_shown c.track (trim_track table c) ts h each where
    each : (t : TrackState) → t.number ≡ c.track → IsShown May t → StaysShown May (trim_track table c t)
    each t n y = on_range_stays (trim_end table t c.end c.by) (range_of t.cells c.item)
        (λ a b. used_stays t (trimmed t a b c.end) (nearest (trim_allows table t a b c.end) c.by) y
        (shown_trimmed t a b c.end (nearest (trim_allows table t a b c.end) c.by) y))

  shown_slipped : (t : TrackState) (x y : ℕ) (d : ℤ) → IsShown May t → IsShown May (slipped t x y d)
  shown_slipped t x y (pos k) h = have-changed (May t.number) x y k 0 t.cells h
  shown_slipped t x y (negsuc k) h = have-changed (May t.number) x y 0 (suc k) t.cells h

  shown_linked : (l : Link) (on back : ℕ) (ts : List TrackState) → All (IsShown May) ts → All (IsShown May) (map (track_moved l on back) ts)
  shown_linked l on back [] h = all_none (IsShown May)
  shown_linked l on back (t ∷ ts) h =
      All-cons (IsShown May) (track_moved l on back t) (map (track_moved l on back) ts) (have-linked (May t.number) l on back t.cells (all_head (IsShown May) t ts h))
      (shown_linked l on back ts (all_tail (IsShown May) t ts h))

  shown_all : (l : Link) (ts : List TrackState) (d : ℤ) → All (IsShown May) ts → All (IsShown May) (link_slipped l ts d)
  shown_all l ts (pos k) h = shown_linked l k 0 ts h
  shown_all l ts (negsuc k) h = shown_linked l 0 (suc k) ts h

  pub shown-slip : (table : Table) (ts : List TrackState) (c : Slip) → All (IsShown May) ts → AreShown May (slip_named table ts c)
  shown-slip table ts c h = for_own_shown c.track (slip_own table ts c) ts h (λ t n y. with_link t (link_of t c.item) y) where
    alone : (t : TrackState) → IsShown May t → StaysShown May (slip_track table c t)
    alone t y = on_range_stays (slip_range table t c.by) (range_of t.cells c.item)
        (λ a b. used_stays t (slipped t a b) (nearest (slip_allows table t a b) c.by) y
        (shown_slipped t a b (nearest (slip_allows table t a b) c.by) y))

    with_link : (t : TrackState) (o : Option Link) → IsShown May t → AreShown May (slip_with table ts c t o)
    with_link t None y = among_shown ts (slip_track table c t) h (alone t y)
    with_link t (Some l) y =
        unless_shown (outside_refusal ts (Some l)) (slip_link table ts l c.by) (λ e. shown_all l ts (nearest (link_allows table ts l) c.by) h)

  -- a cut, and an item between its neighbours
  shown_rolled : (t : TrackState) (at : ℕ) (d : ℤ) → IsShown May t → IsShown May (rolled t at d)
  shown_rolled t at (pos k) h = shown_spliced false t at (at + k) (going_on (cell_at t.cells (at - 1)) k ∷ []) h (on_side t (at - 1) h, tt)
  shown_rolled t at (negsuc k) h = shown_spliced false t (at - suc k) at (reaching_back (cell_at t.cells at) (suc k) ∷ []) h (back_side t at (suc k) h, tt)

  pub shown-roll : (table : Table) (ts : List TrackState) (c : Roll) → All (IsShown May) ts → AreShown May (roll_named table ts c)
  shown-roll table ts c h = on_own_shown c.track (roll_track table c) ts h each where
    each : (t : TrackState) → t.number ≡ c.track → IsShown May t → StaysShown May (roll_track table c t)
    each t n y = by (is_cut t.cells c.at) where
      by : (b : Bool) → StaysShown May (cond b (roll_cut table t c.by c.at) (Err (NotACut c.at)))
      by true =
          used_stays t (rolled t c.at) (nearest (move_allows table t c.at c.at) c.by) y
          (shown_rolled t c.at (nearest (move_allows table t c.at c.at) c.by) y)
      by false = tt

  shown_slid : (t : TrackState) (x y : ℕ) (d : ℤ) → IsShown May t → IsShown May (slid t x y d)
  shown_slid t x y (pos k) h =
      shown_spliced false t x (y + k) (going_on (cell_at t.cells (x - 1)) k ∷ bare_item (cell_at t.cells x) (y - x) ∷ []) h
      (on_side t (x - 1) h, (has-at (May t.number) t.cells x h, tt))
  shown_slid t x y (negsuc k) h =
      shown_spliced false t (x - suc k) y (bare_item (cell_at t.cells x) (y - x) ∷ reaching_back (cell_at t.cells y) (suc k) ∷ []) h
      (has-at (May t.number) t.cells x h, (back_side t y (suc k) h, tt))

  pub shown-slide : (table : Table) (ts : List TrackState) (c : Slide) → All (IsShown May) ts → AreShown May (slide_named table ts c)
  shown-slide table ts c h = for_own_shown c.track (slide_own table ts c) ts h each where
    stays : (t : TrackState) → IsShown May t → StaysShown May (slide_track table c t)
    stays t y = on_range_stays (slide_range table t c.by) (range_of t.cells c.item)
        (λ a b. used_stays t (slid t a b) (nearest (slide_allows table t a b) c.by) y
        (shown_slid t a b (nearest (slide_allows table t a b) c.by) y))

    each : (t : TrackState) → t.number ≡ c.track → IsShown May t → AreShown May (slide_own table ts c t)
    each t n y =
        unless_shown (links_refuse table ts c t (item_of t c.item)) (among_named ts (slide_track table c t))
        (λ e. among_shown ts (slide_track table c t) h (stays t y))

  -- an end of an item, and all behind it
  used_shown : (ts : List TrackState) (moved : Done → ℤ → Applied) (d : ℤ) → All (IsShown May) ts → AreShown May (moved (By d) d)
      → AreShown May (used_from ts moved d)
  used_shown ts moved (pos zero) h m = h
  used_shown ts moved (pos (suc k)) h m = m
  used_shown ts moved (negsuc k) h m = m

  -- the own track as its links are split
  own_split : (place own : ℕ) (ts : List TrackState) (t : TrackState) → t.number ≡ own → All (IsShown May) ts → IsShown May t → CellsHave (May own) (as_split place ts t).cells
  own_split place own ts t n h y = by (track_numbered t.number (links_split place place ts)) refl (numbered_shown t.number (links_split place place ts) (split_shown place place ts h)) where
    by : (o : Option TrackState) → track_numbered t.number (links_split place place ts) ≡ o → IfSome o (IsShown May) → CellsHave (May own) (unwrap_or o t).cells
    by None e h = subst (λ (k : ℕ). CellsHave (May k) t.cells) n y
    by (Some u) e h =
        subst (λ (k : ℕ). CellsHave (May k) u.cells) n
        (subst (λ (k : ℕ). CellsHave (May k) u.cells) (is-numbered t.number (links_split place place ts) u e) h)

  shown_rippled : (own : ℕ) (ts : List TrackState) (t : TrackState) (x y : ℕ) (end : End) (done : Done) (d : ℤ) → t.number ≡ own → All (IsShown May) ts → IsShown May t
      → AreShown May (rippled own ts t x y end done d)
  shown_rippled own ts t x y Head done (pos k) n h s = shift_shown false own x (x + k) [] done ts h tt
  shown_rippled own ts t x y Head done (negsuc k) n h s =
      shift_shown false own x x (reaching_back (cell_at (as_split x ts t).cells x) (suc k) ∷ []) done ts h
      (has-earlier (May own) (cell_at (as_split x ts t).cells x).side (suc k) (has-at (May own) (as_split x ts t).cells x (own_split x own ts t n h s)), tt)
  shown_rippled own ts t x y Tail done (pos k) n h s =
      shift_shown false own y y (going_on (cell_at t.cells (y - 1)) k ∷ []) done ts h
      (subst (λ (i : ℕ). SideHas (May i) (next_side (cell_at t.cells (y - 1)).side)) n (on_side t (y - 1) s), tt)
  shown_rippled own ts t x y Tail done (negsuc k) n h s = shift_shown false own (y - suc k) y [] done ts h tt

  pub shown-ripple : (table : Table) (ts : List TrackState) (c : Ripple) → All (IsShown May) ts → AreShown May (ripple_named table ts c)
  shown-ripple table ts c h = for_own_shown c.track (ripple_own table c ts) ts h each where
    each : (t : TrackState) → t.number ≡ c.track → IsShown May t → AreShown May (ripple_own table c ts t)
    each t n s = on_range_shown (ripple_end table c.track ts t c.end c.by) (range_of t.cells c.item)
        (λ a b. used_shown ts (rippled c.track ts t a b c.end) (nearest (ripple_allows table c.track ts t a b c.end) c.by) h
        (shown_rippled c.track ts t a b c.end (By (nearest (ripple_allows table c.track ts t a b c.end) c.by)) (nearest (ripple_allows table c.track ts t a b c.end) c.by) n h s))

  -- a link made, and one taken away
  shown_item : (t : TrackState) (i : ℕ) (link : Option Link) → IsShown May t → IsShown May (linked_item t i link)
  shown_item t i link y = by (item_of t i) where
    by : (o : Option (ℕ × ItemView)) → CellsHave (May t.number) (linked_found t.cells link o)
    by None = y
    by (Some (x, v)) = have-linked-on (May t.number) x (x + v.len) link t.cells y

  pub shown-unlink : (ts : List TrackState) (c : Unlink) → All (IsShown May) ts → AreShown May (unlink_named ts c)
  shown-unlink ts c h = on_own_shown c.track (unlink_on c) ts h each where
    each : (t : TrackState) → t.number ≡ c.track → IsShown May t → StaysShown May (unlink_on c t)
    each t n y = by (item_of t c.item) where
      by : (o : Option (ℕ × ItemView)) → StaysShown May (where_there o (Ok (linked_item t c.item None, Plain)))
      by None = tt
      by (Some p) = shown_item t c.item None y

  all_linked_shown : (made : Link) (ts : List TrackState) (is : List ℕ) → All (IsShown May) ts → All (IsShown May) (all_linked made ts is)
  all_linked_shown made [] is h = h
  all_linked_shown made (t ∷ ts) [] h = h
  all_linked_shown made (t ∷ ts) (i ∷ is) h =
      All-cons (IsShown May) (linked_item t i (Some made)) (all_linked made ts is) (shown_item t i (Some made) (all_head (IsShown May) t ts h)) (all_linked_shown made ts is (all_tail (IsShown May) t ts h))

  risen_shown : (ts : List TrackState) → All (IsShown May) ts → All (IsShown May) (home_risen ts)
  risen_shown [] h = h
  risen_shown (t ∷ ts) h =
      All-cons (IsShown May) (record t { next_link = t.next_link + 1 }) ts (all_head (IsShown May) t ts h) (all_tail (IsShown May) t ts h)

  pub shown-link : (ts : List TrackState) (c : Link3) → All (IsShown May) ts → AreShown May (link_named ts c)
  shown-link ts c h = unless_shown (link_refusal ts c.items) (linked ts c) (λ e. by ts h) where
    by : (us : List TrackState) → All (IsShown May) us → AreShown May (linked us c)
    by [] y = tt
    by (u ∷ us) y = risen_shown (all_linked (new_link u c.tracks) (u ∷ us) c.items) (all_linked_shown (new_link u c.tracks) (u ∷ us) c.items y)
