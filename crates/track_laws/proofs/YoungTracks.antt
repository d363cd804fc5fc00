-- How far the item numbers of tracks have risen: each call raises the next item number of a track by two at most.
use Rattle.std.proofs.Common.{◌≡◌, ℕ, zero, suc, ℤ, pos, negsuc, ◌+◌, ◌-◌, ◌<◌, ◌≤◌, Bool, true, false, cond, eqb, min, List, [], ◌∷◌, All, length, map, take, drop, Option, Some, None, IfSome, Result, Ok, Err, refl, sym, arith, subst, nat_lt, unwrap_or}
use Rattle.std.proofs.lemmas.List.Elements.{All-cons}
use Rattle.frame_meaning.specs.declared.cells.What.{What}
use Rattle.composables.specs.declared.calls.Overwrite.{Overwrite}
use Rattle.composables.specs.declared.calls.Insert.{Insert}
use Rattle.composables.specs.declared.calls.Remove.{Remove}
use Rattle.composables.specs.declared.calls.Extract.{Extract}
use Rattle.composables.specs.declared.calls.Fill.{Fill}
use Rattle.composables.specs.declared.calls.Ripple.{Ripple}
use Rattle.composables.specs.declared.calls.Roll.{Roll}
use Rattle.composables.specs.declared.calls.Slide.{Slide}
use Rattle.composables.specs.declared.calls.Slice.{Slice}
use Rattle.composables.specs.declared.calls.Dissolve.{Dissolve}
use Rattle.composables.specs.declared.calls.Undissolve.{Undissolve}
use Rattle.composables.specs.declared.calls.End.{End}
use Rattle.composables.specs.declared.calls.End.TheVariants.{Head, Tail}
use Rattle.composables.specs.declared.calls.Trim.{Trim}
use Rattle.composables.specs.declared.calls.Link3.{Link3}
use Rattle.composables.specs.declared.calls.Unlink.{Unlink}
use Rattle.composables.specs.declared.calls.Slip.{Slip}
use Rattle.composables.specs.declared.items.ItemView.{ItemView}
use Rattle.composables.specs.declared.media.Table.{Table}
use Rattle.composables.specs.declared.refusals.Done.{Done}
use Rattle.composables.specs.declared.refusals.Done.TheVariants.{By, Item, Plain}
use Rattle.composables.specs.declared.refusals.Refusal.{Refusal}
use Rattle.composables.specs.declared.refusals.Refusal.TheVariants.{NoItem, NotACut, NoTrack}
use Rattle.composables.specs.Answers.{Applied, unless}
use Rattle.composables.specs.Joined.{frames_in}
use Rattle.composables.specs.Limits.{too_long, too_many, track_within_limits, within_limits}
use Rattle.composables.specs.Items.{cells_of}
use Rattle.composables.specs.Links.{links_split, moved_cell, outside_refusal, split_links, split_track}
use Rattle.composables.specs.OwnTracks.{among_named, for_own, on_own, track_numbered, with_track}
use Rattle.composables.specs.Ranges.{on_range, gap_at, is_cut, range_of}
use Rattle.composables.specs.TrackFacts.{NumbersBelow}
use Rattle.composables.specs.TrackState.{TrackState}
use Rattle.composables.specs.Views.{clip_view, gap_view, gap_views}
use Rattle.frame_meaning.specs.declared.cells.Cell.{Cell}
use Rattle.frame_meaning.specs.declared.cells.Link.{Link}
use Rattle.frame_meaning.specs.declared.cells.Mark.{Mark}
use Rattle.frame_meaning.specs.Render.{cell_at}
use Rattle.dissolves.specs.Cuts.{dissolve_refusal}
use Rattle.dissolves.specs.Marking.{dissolve_named, dissolve_on, mark_asked, marked_track, undissolve_named, undissolve_on, undissolve_refusal}
use Rattle.edit_delta.specs.Nearest.{nearest}
use Rattle.edit_delta.specs.Reaching.{going_on, reaching_back}
use Rattle.edit_delta.specs.Using.{used_on, used_from}
use Rattle.edit_trim.specs.Rippling.{as_split, ripple_allows, ripple_end, ripple_named, ripple_own, rippled}
use Rattle.edit_trim.specs.Slipping.{cell_moved, link_allows, link_slipped, linked_moved, slip_allows, slip_link, slip_named, slip_own, slip_range, slip_track, slip_with, slipped, slipped_by, track_moved}
use Rattle.edit_trim.specs.Trimming.{trim_allows, trim_end, trim_named, trim_track, trimmed}
use Rattle.edit_insert.specs.Fills.{fill_at, fill_named, fill_track, filled, frames_asked}
use Rattle.edit_roll.specs.Neighbours.{move_allows}
use Rattle.edit_roll.specs.Rolling.{roll_cut, roll_named, roll_track, rolled}
use Rattle.edit_roll.specs.Sliding.{bare_item, links_refuse, slid, slide_allows, slide_named, slide_own, slide_range, slide_track}
use Rattle.edit_splice.specs.Shifts.{after_shift, shift_of, shift_refusal, shifted, shifted_along, shifted_track}
use Rattle.edit_splice.specs.Splicing.{spliced_track}
use Rattle.edit_splice.proofs.Outcomes.{next-bounds}
use Rattle.edit_insert.specs.Edits.{extract_named, extracted, insert_named, inserted, overwrite_named, overwrite_track, overwritten, remove_named, remove_track, slice_named, slice_track}
use Rattle.edit_splice.specs.Padding.{padded_track}
use Rattle.edit_insert.specs.Sources.{source_refusal}
use Rattle.edit_splice.proofs.Bridging.{for-found}
use Rattle.edit_splice.proofs.Standing.{all_head, all_none, all_tail}
use Rattle.edit_splice.proofs.Numbers.{if-weaker}
use Rattle.link_groups.specs.ItemLinks.{carries, link_of}
use Rattle.link_groups.specs.LinkedItems.{item_of, linked_found, linked_item}
use Rattle.link_groups.specs.Linking.{all_linked, home_risen, link_named, link_refusal, linked, new_link, unlink_named, unlink_on, where_there}
use Rattle.track_laws.proofs.PlainCells.{ArePlain, IsPlain, plain-append, plain-at, plain-changed, plain-drop, plain-linked-on, plain-marked, plain-more, plain-relinked, plain-spliced, plain-take, plain-views}

-- a track that has given away at most this many item numbers
pub record IsYoung (n : ℕ) (t : TrackState) : Type 0 where
  pub item : t.next_item ≤ n
  pub plain : ArePlain n t.cells

pub young-more : (n m : ℕ) (t : TrackState) → n ≤ m → IsYoung n t → IsYoung m t
young-more n m t le y = record { item = omega (arith, le, y.item); plain = plain-more n m t.cells le y.plain }

pub all-more : (n m : ℕ) (ts : List TrackState) → n ≤ m → All (IsYoung n) ts → All (IsYoung m) ts
all-more n m ts le h k d lt = young-more n m _ le (h k d lt)

-- what a call leaves, if it is done
abbrev pub AreYoung : ℕ → Applied → Type 0
AreYoung n (Ok (ts, d)) = All (IsYoung n) ts
AreYoung n (Err r) = Unit {0}

abbrev pub StaysYoung : ℕ → Result (TrackState × Done) Refusal → Type 0
StaysYoung n (Ok (u, d)) = IsYoung n u
StaysYoung n (Err r) = Unit {0}

-- a splice
young_views : (n m : ℕ) (views : List ItemView) → n ≡ m → NumbersBelow n views → NumbersBelow m views
young_views n m views e h = subst (λ (k : ℕ). NumbersBelow k views) e h

pub young-spliced : (keep : Bool) (n : ℕ) (t : TrackState) (x y : ℕ) (views : List ItemView) → IsYoung n t → NumbersBelow (n + 1) views
    → IsYoung (n + 2) (spliced_track keep t x y views)
young-spliced keep n t x y views h below =
    let more : ℕ = n + 1 - t.next_item in
    let e : n + 1 ≡ t.next_item + more = omega (arith, h.item) in
    let next = next-bounds keep t x y more views (young_views (n + 1) (t.next_item + more) views e below) in
    let most : (spliced_track keep t x y views).next_item ≤ t.next_item + more + 1 = next.1 in
    let up : n ≤ n + 1 = omega arith in
    let low : t.next_item ≤ n + 1 = omega (arith, h.item) in
    let plain = plain-spliced keep (n + 1) t x y views low (plain-more n (n + 1) t.cells up h.plain) below in
    let same : n + 1 + 1 ≡ n + 2 = omega arith in
    record { item = omega (arith, most, e); plain = subst (λ (k : ℕ). ArePlain k (spliced_track keep t x y views).cells) same plain }

gap_young : (n k : ℕ) → NumbersBelow n (gap_views k)
gap_young n k = by (eqb k 0) where
  by : (b : Bool) → NumbersBelow n (cond b [] (gap_view k ∷ []))
  by true = tt
  by false = (tt, tt)

pub young-padded : (n : ℕ) (t : TrackState) (at : ℕ) → IsYoung n t → IsYoung n (padded_track t at)
young-padded n t at h = record {
  item = h.item;
  plain = plain-append n t.cells (cells_of (gap_views (at - length t.cells))) h.plain
      (plain-views n (gap_views (at - length t.cells)) (gap_young n (at - length t.cells)));
}

-- refusals
unless_young : (n : ℕ) (why : Option Refusal) (meant : Applied) → AreYoung n meant → AreYoung n (unless why meant)
unless_young n None meant h = h
unless_young n (Some r) meant h = tt

unless_stays : (n : ℕ) (why : Option Refusal) (meant : Result (TrackState × Done) Refusal) → StaysYoung n meant → StaysYoung n (unless why meant)
unless_stays n None meant h = h
unless_stays n (Some r) meant h = tt

within_young : (n : ℕ) (ts : List TrackState) (done : Done) → All (IsYoung n) ts → AreYoung n (within_limits ts done)
within_young n ts done h = unless_young n (too_long ts) (unless (too_many ts) (Ok (ts, done))) (unless_young n (too_many ts) (Ok (ts, done)) h)

within_stays : (n : ℕ) (t : TrackState) (done : Done) → IsYoung n t → StaysYoung n (track_within_limits t done)
within_stays n t done h =
    unless_stays n (too_long (t ∷ [])) (unless (too_many (t ∷ [])) (Ok (t, done))) (unless_stays n (too_many (t ∷ [])) (Ok (t, done)) h)

-- the own track of a call
with_young : (n : ℕ) (ts : List TrackState) (u : TrackState) → All (IsYoung n) ts → IsYoung n u → All (IsYoung n) (with_track ts u)
with_young n [] u h y = h
with_young n (t ∷ ts) u h y = by (eqb t.number u.number) (with_young n ts u (all_tail (IsYoung n) t ts h) y) where
  by : (b : Bool) → All (IsYoung n) (with_track ts u) → All (IsYoung n) (cond b (u ∷ ts) (t ∷ with_track ts u))
  by true later = All-cons (IsYoung n) u ts y (all_tail (IsYoung n) t ts h)
  by false later = All-cons (IsYoung n) t (with_track ts u) (all_head (IsYoung n) t ts h) later

numbered_young : (n own : ℕ) (ts : List TrackState) → All (IsYoung n) ts → IfSome (track_numbered own ts) (IsYoung n)
numbered_young n own [] h = tt
numbered_young n own (t ∷ ts) h = by (eqb t.number own) (numbered_young n own ts (all_tail (IsYoung n) t ts h)) where
  by : (b : Bool) → IfSome (track_numbered own ts) (IsYoung n) → IfSome (cond b (Some t) (track_numbered own ts)) (IsYoung n)
  by true later = all_head (IsYoung n) t ts h
  by false later = later

not_found : (own : ℕ) (meant : TrackState → Applied) (ts : List TrackState) → track_numbered own ts ≡ None → for_own own meant ts ≡ Err (NoTrack own)
not_found own meant ts e = rw e refl

for_own_young : (n m own : ℕ) (meant : TrackState → Applied) (ts : List TrackState) → All (IsYoung n) ts
    → ((t : TrackState) → IsYoung n t → AreYoung m (meant t)) → AreYoung m (for_own own meant ts)
for_own_young n m own meant ts h each = by (track_numbered own ts) refl (numbered_young n own ts h) where
  by : (o : Option TrackState) → track_numbered own ts ≡ o → IfSome o (IsYoung n) → AreYoung m (for_own own meant ts)
  by None e y = subst (AreYoung m) (sym (not_found own meant ts e)) tt
  by (Some t) e y = subst (AreYoung m) (sym (for-found own meant ts t e)) (each t y)

among_young : (n m : ℕ) (ts : List TrackState) (r : Result (TrackState × Done) Refusal) → n ≤ m → All (IsYoung n) ts → StaysYoung m r → AreYoung m (among_named ts r)
among_young n m ts (Ok (u, d)) le h y = with_young m ts u (all-more n m ts le h) y
among_young n m ts (Err r) le h y = tt

pub on-own-young : (n m own : ℕ) (meant : TrackState → Result (TrackState × Done) Refusal) (ts : List TrackState) → n ≤ m → All (IsYoung n) ts
    → ((t : TrackState) → IsYoung n t → StaysYoung m (meant t)) → AreYoung m (on_own own meant ts)
on-own-young n m own meant ts le h each =
    for_own_young n m own (λ t. among_named ts (meant t)) ts h (λ t y. among_young n m ts (meant t) le h (each t y))

for_range_stays : (m : ℕ) (meant : ℕ → ℕ → Result (TrackState × Done) Refusal) (range : Option (ℕ × ℕ)) → ((x y : ℕ) → StaysYoung m (meant x y))
    → StaysYoung m (on_range meant range)
for_range_stays m meant None h = tt
for_range_stays m meant (Some (x, y)) h = h x y

for_range_young : (m : ℕ) (meant : ℕ → ℕ → Applied) (range : Option (ℕ × ℕ)) → ((x y : ℕ) → AreYoung m (meant x y)) → AreYoung m (on_range meant range)
for_range_young m meant None h = tt
for_range_young m meant (Some (x, y)) h = h x y

-- a shift
along_young : (keep : Bool) (n : ℕ) (t : TrackState) (x y len : ℕ) → IsYoung n t → IsYoung (n + 2) (shifted_along keep t x y len)
along_young keep n t x y len h = by (nat_lt x (length t.cells)) where
  by : (b : Bool) → IsYoung (n + 2) (spliced_track keep t (min x (length t.cells)) (min y (length t.cells)) (cond b (gap_views len) []))
  by true = young-spliced keep n t (min x (length t.cells)) (min y (length t.cells)) (gap_views len) h (gap_young (n + 1) len)
  by false = young-spliced keep n t (min x (length t.cells)) (min y (length t.cells)) [] h tt

shifted_young : (keep : Bool) (n own x y : ℕ) (views : List ItemView) (ts : List TrackState) → All (IsYoung n) ts → NumbersBelow (n + 1) views
    → All (IsYoung (n + 2)) (shifted keep own x y views ts)
shifted_young keep n own x y views [] h below = all_none (IsYoung (n + 2))
shifted_young keep n own x y views (t ∷ ts) h below =
    All-cons (IsYoung (n + 2)) (shifted_track keep own x y views t) (shifted keep own x y views ts) (by (eqb t.number own))
    (shifted_young keep n own x y views ts (all_tail (IsYoung n) t ts h) below) where
      by : (b : Bool) → IsYoung (n + 2) (cond b (spliced_track keep t x y views) (shifted_along keep t x y (frames_in views)))
      by true = young-spliced keep n t x y views (all_head (IsYoung n) t ts h) below
      by false = along_young keep n t x y (frames_in views) (all_head (IsYoung n) t ts h)

-- links are split: no item number is given away
relinked_young : (n z : ℕ) (us : List TrackState) (ls : List Link) (ts : List TrackState) → All (IsYoung n) ts → All (IsYoung n) (map (split_track z us ls) ts)
relinked_young n z us ls [] h = all_none (IsYoung n)
relinked_young n z us ls (t ∷ ts) h =
    All-cons (IsYoung n) (split_track z us ls t) (map (split_track z us ls) ts) (one (all_head (IsYoung n) t ts h)) (relinked_young n z us ls ts (all_tail (IsYoung n) t ts h)) where
      one : IsYoung n t → IsYoung n (split_track z us ls t)
      one y = record {
        item = y.item;
        plain = plain-append n (take z t.cells) (map (moved_cell us ls) (drop z t.cells)) (plain-take n z t.cells y.plain) (plain-relinked n us ls (drop z t.cells) (plain-drop n z t.cells y.plain));
      }

split_young : (n x z : ℕ) (ts : List TrackState) → All (IsYoung n) ts → All (IsYoung n) (links_split x z ts)
split_young n x z ts h = relinked_young n z ts (split_links x z ts) ts h

shift_young : (keep : Bool) (n own x y : ℕ) (views : List ItemView) (done : Done) (ts : List TrackState) → All (IsYoung n) ts → NumbersBelow (n + 1) views
    → AreYoung (n + 2) (shift_of keep own x y views done ts)
shift_young keep n own x y views done ts h below =
    unless_young (n + 2) (shift_refusal x y (frames_in views) ts) (within_limits (after_shift keep own x y views ts) done)
    (within_young (n + 2) (after_shift keep own x y views ts) done (by (eqb (frames_in views) (y - x)))) where
      all : All (IsYoung (n + 2)) (shifted keep own x y views ts)
      all = shifted_young keep n own x y views ts h below

      by : (b : Bool) → All (IsYoung (n + 2)) (cond b (shifted keep own x y views ts) (links_split x (x + frames_in views) (shifted keep own x y views ts)))
      by true = all
      by false = split_young (n + 2) x (x + frames_in views) (shifted keep own x y views ts) all

-- each call
clip_below : (n m : ℕ) (what : What) (from len : ℕ) → m ≤ n → NumbersBelow (n + 1) (clip_view m what from len ∷ [])
clip_below n m what from len le = (omega (arith, le), tt)

pub young-overwrite : (n : ℕ) (table : Table) (ts : List TrackState) (c : Overwrite) → All (IsYoung n) ts → AreYoung (n + 2) (overwrite_named table ts c)
young-overwrite n table ts c h = on-own-young n (n + 2) c.track (overwrite_track table c) ts (omega arith) h each where
  each : (t : TrackState) → IsYoung n t → StaysYoung (n + 2) (overwrite_track table c t)
  each t y =
      unless_stays (n + 2) (source_refusal table t.number c.what c.from c.len) (track_within_limits (overwritten c.keep t c.at c.what c.from c.len) (Item t.next_item))
      (within_stays (n + 2) (overwritten c.keep t c.at c.what c.from c.len) (Item t.next_item)
      (young-spliced c.keep n (padded_track t c.at) c.at (min (c.at + c.len) (length (padded_track t c.at).cells)) (clip_view t.next_item c.what c.from c.len ∷ [])
      (young-padded n t c.at y) (clip_below n t.next_item c.what c.from c.len y.item)))

pub young-insert : (n : ℕ) (table : Table) (ts : List TrackState) (c : Insert) → All (IsYoung n) ts → AreYoung (n + 2) (insert_named table ts c)
young-insert n table ts c h = for_own_young n (n + 2) c.track (inserted table c ts) ts h each where
  each : (t : TrackState) → IsYoung n t → AreYoung (n + 2) (inserted table c ts t)
  each t y =
      unless_young (n + 2) (source_refusal table t.number c.what c.from c.len)
      (shift_of c.keep c.track c.at c.at (clip_view t.next_item c.what c.from c.len ∷ []) (Item t.next_item) (with_track ts (padded_track t c.at)))
      (shift_young c.keep n c.track c.at c.at (clip_view t.next_item c.what c.from c.len ∷ []) (Item t.next_item) (with_track ts (padded_track t c.at))
      (with_young n ts (padded_track t c.at) h (young-padded n t c.at y)) (clip_below n t.next_item c.what c.from c.len y.item))

pub young-remove : (n : ℕ) (ts : List TrackState) (c : Remove) → All (IsYoung n) ts → AreYoung (n + 2) (remove_named ts c)
young-remove n ts c h = on-own-young n (n + 2) c.track (remove_track c) ts (omega arith) h each where
  each : (t : TrackState) → IsYoung n t → StaysYoung (n + 2) (remove_track c t)
  each t y = for_range_stays (n + 2) (λ a b. track_within_limits (spliced_track c.keep t a b (gap_views (b - a))) Plain) (range_of t.cells c.item)
      (λ a b. within_stays (n + 2) (spliced_track c.keep t a b (gap_views (b - a))) Plain
      (young-spliced c.keep n t a b (gap_views (b - a)) y (gap_young (n + 1) (b - a))))

pub young-extract : (n : ℕ) (ts : List TrackState) (c : Extract) → All (IsYoung n) ts → AreYoung (n + 2) (extract_named ts c)
young-extract n ts c h = for_own_young n (n + 2) c.track (extracted c ts) ts h each where
  each : (t : TrackState) → IsYoung n t → AreYoung (n + 2) (extracted c ts t)
  each t y = for_range_young (n + 2) (λ a b. shift_of c.keep c.track a b [] Plain ts) (range_of t.cells c.item) (λ a b. shift_young c.keep n c.track a b [] Plain ts h tt)

pub young-slice : (n : ℕ) (ts : List TrackState) (c : Slice) → All (IsYoung n) ts → AreYoung (n + 2) (slice_named ts c)
young-slice n ts c h = on-own-young n (n + 2) c.track (slice_track c) ts (omega arith) h each where
  each : (t : TrackState) → IsYoung n t → StaysYoung (n + 2) (slice_track c t)
  each t y = by (nat_lt c.at (length t.cells)) where
    by : (b : Bool) → StaysYoung (n + 2) (cond b (track_within_limits (spliced_track c.keep t c.at c.at []) Plain) (Err NoItem))
    by true = within_stays (n + 2) (spliced_track c.keep t c.at c.at []) Plain (young-spliced c.keep n t c.at c.at [] y tt)
    by false = tt

-- a dissolve put or taken away
young_marked : (n : ℕ) (t : TrackState) (p : ℕ) (mark : Option Mark) → IsYoung n t → IsYoung (n + 2) (marked_track t p mark)
young_marked n t p mark y = record {
  item = omega (arith, y.item);
  plain = plain-marked (n + 2) t.cells p mark (plain-more n (n + 2) t.cells (omega arith) y.plain);
}

pub young-dissolve : (n : ℕ) (table : Table) (ts : List TrackState) (c : Dissolve) → All (IsYoung n) ts → AreYoung (n + 2) (dissolve_named table ts c)
young-dissolve n table ts c h = on-own-young n (n + 2) c.track (λ t. dissolve_on table t c) ts (omega arith) h each where
  each : (t : TrackState) → IsYoung n t → StaysYoung (n + 2) (dissolve_on table t c)
  each t y =
      unless_stays (n + 2) (dissolve_refusal table t.cells c.at (mark_asked c)) (Ok (marked_track t c.at (Some (mark_asked c)), Plain))
      (young_marked n t c.at (Some (mark_asked c)) y)

pub young-undissolve : (n : ℕ) (ts : List TrackState) (c : Undissolve) → All (IsYoung n) ts → AreYoung (n + 2) (undissolve_named ts c)
young-undissolve n ts c h = on-own-young n (n + 2) c.track (λ t. undissolve_on t c) ts (omega arith) h each where
  each : (t : TrackState) → IsYoung n t → StaysYoung (n + 2) (undissolve_on t c)
  each t y =
      unless_stays (n + 2) (undissolve_refusal (cell_at t.cells c.at).mark c.at) (Ok (marked_track t c.at None, Plain)) (young_marked n t c.at None y)

-- an edit by a delta
on_range_stays : (m : ℕ) (meant : ℕ → ℕ → Result (TrackState × Done) Refusal) (range : Option (ℕ × ℕ)) → ((x y : ℕ) → StaysYoung m (meant x y))
    → StaysYoung m (on_range meant range)
on_range_stays m meant None h = tt
on_range_stays m meant (Some (x, y)) h = h x y

used_stays : (n : ℕ) (t : TrackState) (moved : ℤ → TrackState) (d : ℤ) → IsYoung n t → IsYoung (n + 2) (moved d) → StaysYoung (n + 2) (used_on t moved d)
used_stays n t moved (pos zero) y h = young-more n (n + 2) t (omega arith) y
used_stays n t moved (pos (suc k)) y h = within_stays (n + 2) (moved (pos (suc k))) (By (pos (suc k))) h
used_stays n t moved (negsuc k) y h = within_stays (n + 2) (moved (negsuc k)) (By (negsuc k)) h

-- a part of an item that goes on or reaches back, with the item's number
part_young : (keep : Bool) (n : ℕ) (t : TrackState) (x y p : ℕ) (v : ItemView) → IsYoung n t → v.item ≡ (cell_at t.cells p).item
    → IsYoung (n + 2) (spliced_track keep t x y (v ∷ []))
part_young keep n t x y p v h item =
    let plain : IsPlain n (cell_at t.cells p) = plain-at n t.cells p h.plain in
    let below : IfSome v.item (λ i. i < n) = subst (λ (o : Option ℕ). IfSome o (λ i. i < n)) (sym item) plain in
    young-spliced keep n t x y (v ∷ []) h (if-weaker v.item n (n + 1) (omega arith) below, tt)

-- two parts side by side
parts_young : (keep : Bool) (n : ℕ) (t : TrackState) (x y p q : ℕ) (v w : ItemView) → IsYoung n t
    → v.item ≡ (cell_at t.cells p).item → w.item ≡ (cell_at t.cells q).item
    → IsYoung (n + 2) (spliced_track keep t x y (v ∷ w ∷ []))
parts_young keep n t x y p q v w h vi wi =
    young-spliced keep n t x y (v ∷ w ∷ []) h (below v p vi, (below w q wi, tt)) where
      below : (u : ItemView) (at : ℕ) → u.item ≡ (cell_at t.cells at).item → IfSome u.item (λ i. i < n + 1)
      below u at e = if-weaker u.item n (n + 1) (omega arith) (subst (λ (o : Option ℕ). IfSome o (λ i. i < n)) (sym e) (plain-at n t.cells at h.plain))

dark_young : (keep : Bool) (n : ℕ) (t : TrackState) (x y k : ℕ) → IsYoung n t → IsYoung (n + 2) (spliced_track keep t x y (gap_views k))
dark_young keep n t x y k h = young-spliced keep n t x y (gap_views k) h (gap_young (n + 1) k)

young_trimmed : (n : ℕ) (t : TrackState) (x y : ℕ) (end : End) (d : ℤ) → IsYoung n t → IsYoung (n + 2) (trimmed t x y end d)
young_trimmed n t x y Head (pos k) h = dark_young false n t x (x + k) k h
young_trimmed n t x y Head (negsuc k) h = part_young false n t (x - suc k) x x (reaching_back (cell_at t.cells x) (suc k)) h refl
young_trimmed n t x y Tail (pos k) h = part_young false n t y (min (y + k) (length t.cells)) (y - 1) (going_on (cell_at t.cells (y - 1)) k) h refl
young_trimmed n t x y Tail (negsuc k) h = dark_young false n t (y - suc k) y (suc k) h

pub young-trim : (n : ℕ) (table : Table) (ts : List TrackState) (c : Trim) → All (IsYoung n) ts → AreYoung (n + 2) (trim_named table ts c)
young-trim n table ts c h = on-own-young n (n + 2) c.track (trim_track table c) ts (omega arith) h each where
  each : (t : TrackState) → IsYoung n t → StaysYoung (n + 2) (trim_track table c t)
  each t y = on_range_stays (n + 2) (trim_end table t c.end c.by) (range_of t.cells c.item)
      (λ a b. used_stays n t (trimmed t a b c.end) (nearest (trim_allows table t a b c.end) c.by) y
      (young_trimmed n t a b c.end (nearest (trim_allows table t a b c.end) c.by) y))

young_moved : (n : ℕ) (t : TrackState) (x y on back : ℕ) → IsYoung n t → IsYoung (n + 2) (slipped_by t x y on back)
young_moved n t x y on back h = record {
  item = omega (arith, h.item);
  plain = plain-changed (n + 2) x y on back t.cells (plain-more n (n + 2) t.cells (omega arith) h.plain);
}

young_slipped : (n : ℕ) (t : TrackState) (x y : ℕ) (d : ℤ) → IsYoung n t → IsYoung (n + 2) (slipped t x y d)
young_slipped n t x y (pos k) h = young_moved n t x y k 0 h
young_slipped n t x y (negsuc k) h = young_moved n t x y 0 (suc k) h

plain_linked : (n : ℕ) (l : Link) (on back : ℕ) (cs : List Cell) → ArePlain n cs → ArePlain n (map (linked_moved l on back) cs)
plain_linked n l on back [] h = tt
plain_linked n l on back (c ∷ cs) h = (by (carries l c.link), plain_linked n l on back cs h.1) where
  by : (b : Bool) → IsPlain n (cond b (cell_moved on back c) c)
  by true = h.0
  by false = h.0

young_linked : (n : ℕ) (l : Link) (on back : ℕ) (ts : List TrackState) → All (IsYoung n) ts → All (IsYoung (n + 2)) (map (track_moved l on back) ts)
young_linked n l on back [] h = all_none (IsYoung (n + 2))
young_linked n l on back (t ∷ ts) h =
    All-cons (IsYoung (n + 2)) (track_moved l on back t) (map (track_moved l on back) ts) moved (young_linked n l on back ts (all_tail (IsYoung n) t ts h)) where
      y : IsYoung n t
      y = all_head (IsYoung n) t ts h

      moved : IsYoung (n + 2) (track_moved l on back t)
      moved = record {
        item = omega (arith, y.item);
        plain = plain_linked (n + 2) l on back t.cells (plain-more n (n + 2) t.cells (omega arith) y.plain);
      }

young_all : (n : ℕ) (l : Link) (ts : List TrackState) (d : ℤ) → All (IsYoung n) ts → All (IsYoung (n + 2)) (link_slipped l ts d)
young_all n l ts (pos k) h = young_linked n l k 0 ts h
young_all n l ts (negsuc k) h = young_linked n l 0 (suc k) ts h

pub young-slip : (n : ℕ) (table : Table) (ts : List TrackState) (c : Slip) → All (IsYoung n) ts → AreYoung (n + 2) (slip_named table ts c)
young-slip n table ts c h = for_own_young n (n + 2) c.track (slip_own table ts c) ts h (λ t y. with_link t (link_of t c.item) y) where
  alone : (t : TrackState) → IsYoung n t → StaysYoung (n + 2) (slip_track table c t)
  alone t y = on_range_stays (n + 2) (slip_range table t c.by) (range_of t.cells c.item)
      (λ a b. used_stays n t (slipped t a b) (nearest (slip_allows table t a b) c.by) y
      (young_slipped n t a b (nearest (slip_allows table t a b) c.by) y))

  with_link : (t : TrackState) (o : Option Link) → IsYoung n t → AreYoung (n + 2) (slip_with table ts c t o)
  with_link t None y = among_young n (n + 2) ts (slip_track table c t) (omega arith) h (alone t y)
  with_link t (Some l) y =
      unless_young (n + 2) (outside_refusal ts (Some l)) (slip_link table ts l c.by) (young_all n l ts (nearest (link_allows table ts l) c.by) h)

-- a cut, and an item between its neighbours
young_rolled : (n : ℕ) (t : TrackState) (at : ℕ) (d : ℤ) → IsYoung n t → IsYoung (n + 2) (rolled t at d)
young_rolled n t at (pos k) h = part_young false n t at (at + k) (at - 1) (going_on (cell_at t.cells (at - 1)) k) h refl
young_rolled n t at (negsuc k) h = part_young false n t (at - suc k) at at (reaching_back (cell_at t.cells at) (suc k)) h refl

pub young-roll : (n : ℕ) (table : Table) (ts : List TrackState) (c : Roll) → All (IsYoung n) ts → AreYoung (n + 2) (roll_named table ts c)
young-roll n table ts c h = on-own-young n (n + 2) c.track (roll_track table c) ts (omega arith) h each where
  each : (t : TrackState) → IsYoung n t → StaysYoung (n + 2) (roll_track table c t)
  each t y = by (is_cut t.cells c.at) where
    by : (b : Bool) → StaysYoung (n + 2) (cond b (roll_cut table t c.by c.at) (Err (NotACut c.at)))
    by true =
        used_stays n t (rolled t c.at) (nearest (move_allows table t c.at c.at) c.by) y
        (young_rolled n t c.at (nearest (move_allows table t c.at c.at) c.by) y)
    by false = tt

young_slid : (n : ℕ) (t : TrackState) (x y : ℕ) (d : ℤ) → IsYoung n t → IsYoung (n + 2) (slid t x y d)
young_slid n t x y (pos k) h =
    parts_young false n t x (y + k) (x - 1) x (going_on (cell_at t.cells (x - 1)) k) (bare_item (cell_at t.cells x) (y - x)) h refl refl
young_slid n t x y (negsuc k) h =
    parts_young false n t (x - suc k) y x y (bare_item (cell_at t.cells x) (y - x)) (reaching_back (cell_at t.cells y) (suc k)) h refl refl

pub young-slide : (n : ℕ) (table : Table) (ts : List TrackState) (c : Slide) → All (IsYoung n) ts → AreYoung (n + 2) (slide_named table ts c)
young-slide n table ts c h = for_own_young n (n + 2) c.track (slide_own table ts c) ts h each where
  stays : (t : TrackState) → IsYoung n t → StaysYoung (n + 2) (slide_track table c t)
  stays t y = on_range_stays (n + 2) (slide_range table t c.by) (range_of t.cells c.item)
      (λ a b. used_stays n t (slid t a b) (nearest (slide_allows table t a b) c.by) y
      (young_slid n t a b (nearest (slide_allows table t a b) c.by) y))

  each : (t : TrackState) → IsYoung n t → AreYoung (n + 2) (slide_own table ts c t)
  each t y =
      unless_young (n + 2) (links_refuse table ts c t (item_of t c.item)) (among_named ts (slide_track table c t))
      (among_young n (n + 2) ts (slide_track table c t) (omega arith) h (stays t y))

-- a new item in a gap
young_filled : (n : ℕ) (t : TrackState) (c : Fill) (at len : ℕ) → IsYoung n t → StaysYoung (n + 2) (track_within_limits (filled t c at len) (Item t.next_item))
young_filled n t c at len h =
    within_stays (n + 2) (filled t c at len) (Item t.next_item)
    (young-spliced c.keep n t at (at + len) (clip_view t.next_item c.what c.from len ∷ []) h (clip_below n t.next_item c.what c.from len h.item))

pub young-fill : (n : ℕ) (table : Table) (ts : List TrackState) (c : Fill) → All (IsYoung n) ts → AreYoung (n + 2) (fill_named table ts c)
young-fill n table ts c h = on-own-young n (n + 2) c.track (fill_track table c) ts (omega arith) h each where
  each : (t : TrackState) → IsYoung n t → StaysYoung (n + 2) (fill_track table c t)
  each t y = by (gap_at t.cells c.at) where
    by : (gap : Option (ℕ × ℕ)) → StaysYoung (n + 2) (fill_at table c t gap)
    by None = tt
    by (Some (a, b)) =
        let asked : ℕ = frames_asked c.length (b - a) in
        unless_stays (n + 2) (source_refusal table t.number c.what c.from asked) (track_within_limits (filled t c a (min asked (b - a))) (Item t.next_item))
        (young_filled n t c a (min asked (b - a)) y)

-- an end of an item, and all behind it
on_range_young : (m : ℕ) (meant : ℕ → ℕ → Applied) (range : Option (ℕ × ℕ)) → ((x y : ℕ) → AreYoung m (meant x y)) → AreYoung m (on_range meant range)
on_range_young m meant None h = tt
on_range_young m meant (Some (x, y)) h = h x y

used_young : (n : ℕ) (ts : List TrackState) (moved : Done → ℤ → Applied) (d : ℤ) → All (IsYoung n) ts → AreYoung (n + 2) (moved (By d) d)
    → AreYoung (n + 2) (used_from ts moved d)
used_young n ts moved (pos zero) h m = all-more n (n + 2) ts (omega arith) h
used_young n ts moved (pos (suc k)) h m = m
used_young n ts moved (negsuc k) h m = m

part_shifted : (keep : Bool) (n own x y p : ℕ) (t : TrackState) (v : ItemView) (done : Done) (ts : List TrackState) → All (IsYoung n) ts → IsYoung n t
    → v.item ≡ (cell_at t.cells p).item → AreYoung (n + 2) (shift_of keep own x y (v ∷ []) done ts)
part_shifted keep n own x y p t v done ts h young item =
    let plain : IsPlain n (cell_at t.cells p) = plain-at n t.cells p young.plain in
    let below : IfSome v.item (λ i. i < n) = subst (λ (o : Option ℕ). IfSome o (λ i. i < n)) (sym item) plain in
    shift_young keep n own x y (v ∷ []) done ts h (if-weaker v.item n (n + 1) (omega arith) below, tt)

-- the track as its links are split
young_split : (n place : ℕ) (ts : List TrackState) (t : TrackState) → All (IsYoung n) ts → IsYoung n t → IsYoung n (as_split place ts t)
young_split n place ts t h young = by (track_numbered t.number (links_split place place ts)) (numbered_young n t.number (links_split place place ts) (split_young n place place ts h)) where
  by : (o : Option TrackState) → IfSome o (IsYoung n) → IsYoung n (unwrap_or o t)
  by None y = young
  by (Some u) y = y

young_rippled : (n own : ℕ) (ts : List TrackState) (t : TrackState) (x y : ℕ) (end : End) (done : Done) (d : ℤ) → All (IsYoung n) ts → IsYoung n t
    → AreYoung (n + 2) (rippled own ts t x y end done d)
young_rippled n own ts t x y Head done (pos k) h young = shift_young false n own x (x + k) [] done ts h tt
young_rippled n own ts t x y Head done (negsuc k) h young = part_shifted false n own x x x (as_split x ts t) (reaching_back (cell_at (as_split x ts t).cells x) (suc k)) done ts h (young_split n x ts t h young) refl
young_rippled n own ts t x y Tail done (pos k) h young = part_shifted false n own y y (y - 1) t (going_on (cell_at t.cells (y - 1)) k) done ts h young refl
young_rippled n own ts t x y Tail done (negsuc k) h young = shift_young false n own (y - suc k) y [] done ts h tt

pub young-ripple : (n : ℕ) (table : Table) (ts : List TrackState) (c : Ripple) → All (IsYoung n) ts → AreYoung (n + 2) (ripple_named table ts c)
young-ripple n table ts c h = for_own_young n (n + 2) c.track (ripple_own table c ts) ts h each where
  each : (t : TrackState) → IsYoung n t → AreYoung (n + 2) (ripple_own table c ts t)
  each t young = on_range_young (n + 2) (ripple_end table c.track ts t c.end c.by) (range_of t.cells c.item)
      (λ a b. used_young n ts (rippled c.track ts t a b c.end) (nearest (ripple_allows table c.track ts t a b c.end) c.by) h
      (young_rippled n c.track ts t a b c.end (By (nearest (ripple_allows table c.track ts t a b c.end) c.by)) (nearest (ripple_allows table c.track ts t a b c.end) c.by) h young))

-- a link made, and one taken away
young_item : (n : ℕ) (t : TrackState) (i : ℕ) (link : Option Link) → IsYoung n t → IsYoung n (linked_item t i link)
young_item n t i link y = record { item = y.item; plain = by (item_of t i) } where
  by : (o : Option (ℕ × ItemView)) → ArePlain n (linked_found t.cells link o)
  by None = y.plain
  by (Some (x, v)) = plain-linked-on n x (x + v.len) link t.cells y.plain

pub young-unlink : (n : ℕ) (ts : List TrackState) (c : Unlink) → All (IsYoung n) ts → AreYoung (n + 2) (unlink_named ts c)
young-unlink n ts c h = on-own-young n (n + 2) c.track (unlink_on c) ts (omega arith) h each where
  each : (t : TrackState) → IsYoung n t → StaysYoung (n + 2) (unlink_on c t)
  each t y = by (item_of t c.item) where
    by : (o : Option (ℕ × ItemView)) → StaysYoung (n + 2) (where_there o (Ok (linked_item t c.item None, Plain)))
    by None = tt
    by (Some p) = young-more n (n + 2) (linked_item t c.item None) (omega arith) (young_item n t c.item None y)

all_linked_young : (n : ℕ) (made : Link) (ts : List TrackState) (is : List ℕ) → All (IsYoung n) ts → All (IsYoung n) (all_linked made ts is)
all_linked_young n made [] is h = h
all_linked_young n made (t ∷ ts) [] h = h
all_linked_young n made (t ∷ ts) (i ∷ is) h =
    All-cons (IsYoung n) (linked_item t i (Some made)) (all_linked made ts is) (young_item n t i (Some made) (all_head (IsYoung n) t ts h)) (all_linked_young n made ts is (all_tail (IsYoung n) t ts h))

risen_young : (n : ℕ) (ts : List TrackState) → All (IsYoung n) ts → All (IsYoung n) (home_risen ts)
risen_young n [] h = h
risen_young n (t ∷ ts) h =
    let y = all_head (IsYoung n) t ts h in
    All-cons (IsYoung n) (record t { next_link = t.next_link + 1 }) ts (record { item = y.item; plain = y.plain }) (all_tail (IsYoung n) t ts h)

pub young-link : (n : ℕ) (ts : List TrackState) (c : Link3) → All (IsYoung n) ts → AreYoung (n + 2) (link_named ts c)
young-link n ts c h = unless_young (n + 2) (link_refusal ts c.items) (linked ts c) (by ts h) where
  by : (us : List TrackState) → All (IsYoung n) us → AreYoung (n + 2) (linked us c)
  by [] y = tt
  by (u ∷ us) y =
      all-more n (n + 2) (home_risen (all_linked (new_link u c.tracks) (u ∷ us) c.items)) (omega arith)
      (risen_young n (all_linked (new_link u c.tracks) (u ∷ us) c.items) (all_linked_young n (new_link u c.tracks) (u ∷ us) c.items y))
