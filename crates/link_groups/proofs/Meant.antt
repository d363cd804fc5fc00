-- A shift as it is meant is the shift item by item.
use Rattle.std.proofs.Common.{◌≡◌, ◌≢◌, ℕ, zero, suc, ◌+◌, ◌-◌, ◌<◌, ◌≤◌, inl, inr, Bool, true, false, cond, eqb, ltb, ◌||◌, min, max, List, [], ◌∷◌, ◌++◌, All, take, drop, map, length, is_some, Option, Some, None, slice_get, refl, sym, ap, ◌∙◌, arith, subst}
use Rattle.std.proofs.lemmas.Bool.{eqb-false, eqb-true, ltb-true, ltb-false}
use Rattle.std.proofs.lemmas.List.{append-nil, map-append}
use Rattle.frame_meaning.specs.declared.cells.Cell.{Cell}
use Rattle.frame_meaning.specs.declared.cells.Link.{Link}
use Rattle.frame_meaning.specs.Render.{cell_at}
use Rattle.composables.specs.declared.items.ItemView.{ItemView}
use Rattle.composables.specs.declared.media.Table.{Table}
use Rattle.composables.specs.declared.refusals.Done.{Done}
use Rattle.composables.specs.declared.refusals.Refusal.{Refusal}
use Rattle.composables.specs.Answers.{unless}
use Rattle.composables.specs.Good.{IsGood}
use Rattle.composables.specs.Items.{cells_of, items_of}
use Rattle.composables.specs.Joined.{frames_in}
use Rattle.composables.specs.Limits.{within_limits}
use Rattle.composables.specs.Links.{cells_from, first_unnamed, is_named, least_link, least_outside, link_outside, links_split, outside, outside_at, outside_refusal}
use Rattle.composables.specs.OwnTracks.{with_track}
use Rattle.composables.specs.Roomy.{IsRoomy}
use Rattle.composables.specs.TrackFacts.{IsKept}
use Rattle.composables.specs.TrackSets.{has_track, tracks_from, tracks_in}
use Rattle.composables.specs.TrackState.{TrackState, next_past, next_past_all}
use Rattle.composables.specs.Views.{gap_view, gap_views}
use Rattle.composables.proofs.Frames.{frames_in-append, frames_in-take_le}
use Rattle.composables.proofs.Joining.{length-cells_of}
use Rattle.edit_splice.specs.declared.shifting.Shift.{Shift}
use Rattle.edit_splice.specs.Moves.{all_moved, moved, put_views}
use Rattle.edit_splice.specs.Padding.{new_len, new_views, padded_track}
use Rattle.edit_splice.specs.Shifts.{shift_of, shift_refusal, shifted}
use Rattle.edit_splice.proofs.Moving.{frames-put, frames_new, length-none, put-along, put-own}
use Rattle.edit_splice.proofs.Numbers.{next-append}
use Rattle.edit_splice.proofs.Padding.{frames-gap}
use Rattle.link_groups.specs.LinkedShifts.{linked_shift}
use Rattle.link_groups.specs.Renumbering.{IsUncut, MayBeSplit}
use Rattle.link_groups.proofs.LeastLinks.{frames-more}
use Rattle.link_groups.proofs.LinkedShifts.{EachUncut, KeptWithin, shift-items}
use Rattle.link_groups.proofs.ShiftLinks.{gap-there, least-there, links, links-drop, there, there-append}
use Rattle.link_groups.proofs.Uncut.{EndsApart, cell-there, uncut-spliced}

pub shift-meant : (s : Shift) (done : Done) (ts named : List TrackState) → shifted s.keep s.own s.x s.y (new_views s.new) named ≡ all_moved s ts
    → link_outside named (cells_from s.y named) ≡ link_outside ts (cells_from s.y ts) → s.x ≤ s.y → KeptWithin s ts → EachUncut s ts
    → shift_of s.keep s.own s.x s.y (new_views s.new) done named ≡ linked_shift s (s.x + new_len s.new) done ts
shift-meant s done ts named same outside order kept uncut =
    ap (λ (n : ℕ). unless (shift_refusal s.x s.y n named) (within_limits (cond (eqb n (s.y - s.x)) (shifted s.keep s.own s.x s.y (new_views s.new) named) (links_split s.x (s.x + n) (shifted s.keep s.own s.x s.y (new_views s.new) named))) done)) (frames_new s.new)
    ∙ (ap (λ (us : List TrackState). unless (shift_refusal s.x s.y (new_len s.new) named) (within_limits (cond (eqb (new_len s.new) (s.y - s.x)) us (links_split s.x (s.x + new_len s.new) us)) done)) same
    ∙ (ap (λ (r : Option Refusal). unless (cond (eqb (new_len s.new) (s.y - s.x)) None r) (within_limits (cond (eqb (new_len s.new) (s.y - s.x)) (all_moved s ts) (links_split s.x (s.x + new_len s.new) (all_moved s ts))) done)) outside
    ∙ shift-items s done ts order kept uncut))

-- a track made longer by dark frames has no other links

is_named_with : (ts : List TrackState) (u : TrackState) (n : ℕ) → is_named (with_track ts u) n ≡ is_named ts n
is_named_with [] u n = refl
is_named_with (t ∷ ts) u n = by (eqb t.number u.number) refl (is_named_with ts u n) where
  by : (b : Bool) → eqb t.number u.number ≡ b → is_named (with_track ts u) n ≡ is_named ts n → is_named (cond b (u ∷ ts) (t ∷ with_track ts u)) n ≡ is_named (t ∷ ts) n
  by true e i = ap (λ (m : ℕ). eqb m n || is_named ts n) (sym (eqb-true t.number u.number e))
  by false e i = ap (λ (b : Bool). eqb t.number n || b) i

first_same : (ms bs : List TrackState) (ns : List ℕ) → ((n : ℕ) → is_named ms n ≡ is_named bs n) → first_unnamed ms ns ≡ first_unnamed bs ns
first_same ms bs [] h = refl
first_same ms bs (n ∷ ns) h =
    ap (λ (b : Bool). cond b (first_unnamed ms ns) (Some n)) (h n) ∙ ap (λ (o : Option ℕ). cond (is_named bs n) o (Some n)) (first_same ms bs ns h)

outside_same : (ms bs : List TrackState) (o : Option Link) → ((n : ℕ) → is_named ms n ≡ is_named bs n) → outside ms o ≡ outside bs o
outside_same ms bs None h = refl
outside_same ms bs (Some l) h = ap (λ (o : Option ℕ). cond (is_some o) (Some l) None) (first_same ms bs (tracks_in l.tracks) h)

least_same : (ms bs : List TrackState) (cs : List Cell) → ((n : ℕ) → is_named ms n ≡ is_named bs n) → least_outside ms cs ≡ least_outside bs cs
least_same ms bs [] h = refl
least_same ms bs (c ∷ cs) h =
    ap (λ (o : Option Link). least_link o (least_outside ms cs)) (outside_same ms bs c.link h) ∙ ap (least_link (outside bs c.link)) (least_same ms bs cs h)

refusal_same : (ms bs : List TrackState) (o : Option Link) → ((n : ℕ) → is_named ms n ≡ is_named bs n) → outside_refusal ms o ≡ outside_refusal bs o
refusal_same ms bs None h = refl
refusal_same ms bs (Some l) h = ap (outside_at l) (first_same ms bs (tracks_in l.tracks) h)

none_drop : (n : ℕ) (ls : List (Option Link)) → there ls ≡ [] → there (drop n ls) ≡ []
none_drop zero ls e = e
none_drop (suc n) [] e = refl
none_drop (suc n) (None ∷ ls) e = none_drop n ls e
none_drop (suc n) (Some l ∷ ls) e = absurd (Prim.grind (arith, e))

drop_there : (n : ℕ) (ls gs : List (Option Link)) → there gs ≡ [] → there (drop n (ls ++ gs)) ≡ there (drop n ls)
drop_there zero ls gs e = there-append ls gs ∙ (ap (λ (ms : List Link). there ls ++ ms) e ∙ append-nil (there ls))
drop_there (suc n) [] gs e = none_drop (suc n) gs e
drop_there (suc n) (l ∷ ls) gs e = drop_there n ls gs e

drop_padded : (t : TrackState) (at y : ℕ) → there (links (drop y (padded_track t at).cells)) ≡ there (links (drop y t.cells))
drop_padded t at y =
    ap there (links-drop y (padded_track t at).cells ∙ ap (drop y) (map-append (λ (c : Cell). c.link) t.cells (cells_of (gap_views (at - length t.cells)))))
    ∙ (drop_there y (links t.cells) (links (cells_of (gap_views (at - length t.cells)))) (gap-there (at - length t.cells)) ∙ ap there (sym (links-drop y t.cells)))

from_padded : (ts : List TrackState) (own : TrackState) (at y : ℕ) → All (λ (t : TrackState). t.number ≡ own.number → t ≡ own) ts
    → there (links (cells_from y (with_track ts (padded_track own at)))) ≡ there (links (cells_from y ts))
from_padded [] own at y only = refl
from_padded (t ∷ ts) own at y only = by (eqb t.number own.number) refl (from_padded ts own at y (λ k d lt. only (suc k) d (omega (arith, lt)))) where
  apart : (cs bs : List Cell) → there (links (cs ++ bs)) ≡ there (links cs) ++ there (links bs)
  apart cs bs = ap there (map-append (λ (c : Cell). c.link) cs bs) ∙ there-append (links cs) (links bs)

  by : (b : Bool) → eqb t.number own.number ≡ b → there (links (cells_from y (with_track ts (padded_track own at)))) ≡ there (links (cells_from y ts))
      → there (links (cells_from y (cond b (padded_track own at ∷ ts) (t ∷ with_track ts (padded_track own at))))) ≡ there (links (cells_from y (t ∷ ts)))
  by true e i =
      let here : t ≡ own = only 0 t (omega arith) (eqb-true t.number own.number e) in
      apart (drop y (padded_track own at).cells) (cells_from y ts)
      ∙ (ap (λ (ls : List Link). ls ++ there (links (cells_from y ts))) (drop_padded own at y ∙ ap (λ (u : TrackState). there (links (drop y u.cells))) (sym here))
      ∙ sym (apart (drop y t.cells) (cells_from y ts)))
  by false e i =
      apart (drop y t.cells) (cells_from y (with_track ts (padded_track own at)))
      ∙ (ap (λ (ls : List Link). there (links (drop y t.cells)) ++ ls) i ∙ sym (apart (drop y t.cells) (cells_from y ts)))

pub outside-padded : (ts : List TrackState) (own : TrackState) (at y : ℕ) → All (λ (t : TrackState). t.number ≡ own.number → t ≡ own) ts
    → link_outside (with_track ts (padded_track own at)) (cells_from y (with_track ts (padded_track own at))) ≡ link_outside ts (cells_from y ts)
outside-padded ts own at y only =
    let us : List TrackState = with_track ts (padded_track own at) in
    let named : (n : ℕ) → is_named (with_track ts (padded_track own at)) n ≡ is_named ts n = is_named_with ts (padded_track own at) in
    refusal_same (with_track ts (padded_track own at)) ts (least_outside (with_track ts (padded_track own at)) (cells_from y (with_track ts (padded_track own at)))) named
    ∙ ap (outside_refusal ts)
    (least_same (with_track ts (padded_track own at)) ts (cells_from y (with_track ts (padded_track own at))) named
    ∙ least-there ts (cells_from y (with_track ts (padded_track own at))) (cells_from y ts) (from_padded ts own at y only))

-- the end of what a shift puts in

last_item : (vs : List ItemView) (v : ItemView) → 0 < v.len → (cell_at (cells_of (vs ++ v ∷ [])) (frames_in (vs ++ v ∷ []) - 1)).item ≡ v.item
last_item vs v some =
    let all : frames_in (vs ++ v ∷ []) ≡ frames_in vs + (v.len + 0) = frames_in-append vs (v ∷ []) in
    let at : frames_in (take (length vs) (vs ++ v ∷ [])) + (v.len - 1) ≡ frames_in (vs ++ v ∷ []) - 1 = omega (arith, all, ap frames_in (front vs), some) in
    ap (λ (n : ℕ). (cell_at (cells_of (vs ++ v ∷ [])) n).item) (sym at)
    ∙ ap (λ (c : Cell). c.item) (cell-there (vs ++ v ∷ []) (length vs) (v.len - 1) v (here vs) (omega (arith, some))) where
      front : (vs : List ItemView) → take (length vs) (vs ++ v ∷ []) ≡ vs
      front [] = refl
      front (w ∷ ws) = ap (λ (us : List ItemView). w ∷ us) (front ws)

      here : (vs : List ItemView) → slice_get (vs ++ v ∷ []) (length vs) ≡ Some v
      here [] = refl
      here (w ∷ ws) = here ws

pub ends-dark : (t : TrackState) (y n : ℕ) → EndsApart t y (gap_views n)
ends-dark t y n = by (eqb n 0) where
  by : (b : Bool) → EndsApart t y (cond b [] (gap_view n ∷ []))
  by true some = absurd (omega (arith, some))
  by false some = inl (last_item [] (gap_view n) (omega (arith, some)))

next_gap : (n m : ℕ) → next_past_all n (gap_views m) ≡ n
next_gap n m = by (eqb m 0) where
  by : (b : Bool) → next_past_all n (cond b [] (gap_view m ∷ [])) ≡ n
  by true = refl
  by false = refl

-- frames of no item behind dark frames
pub ends-none : (t : TrackState) (y n : ℕ) (v : ItemView) → 0 < v.len → v.item ≡ None → EndsApart t y (gap_views n ++ v ∷ [])
ends-none t y n v some is h = inl (last_item (gap_views n) v some ∙ is)

-- a new item behind dark frames
pub ends-new : (t : TrackState) (y n i : ℕ) (v : ItemView) → 0 < v.len → v.item ≡ Some i → (cell_at t.cells y).item ≢ Some i → i ≢ max t.next_item (i + 1) → EndsApart t y (gap_views n ++ v ∷ [])
ends-new t y n i v some is other fresh h =
    let next : next_past_all t.next_item (gap_views n ++ v ∷ []) ≡ max t.next_item (i + 1) =
    next-append t.next_item (gap_views n) (v ∷ []) ∙ (ap (λ (m : ℕ). next_past_all m (v ∷ [])) (next_gap t.next_item n) ∙ ap (λ (o : Option ℕ). next_past t.next_item o) is) in
    inr (i, last_item (gap_views n) v some ∙ is, other, λ e. fresh (e ∙ next))

pub uncut-beyond : (u : TrackState) (z : ℕ) → IsKept u → length u.cells ≤ z → IsUncut z u
uncut-beyond u z kept le i v e begins ends =
    absurd (omega (arith, ends, le, frames-more (items_of u.cells) i v e, frames_in-take_le (i + 1) (items_of u.cells), length-cells_of (items_of u.cells), ap length kept.whole))

pub uncut-moved : (s : Shift) (t : TrackState) → IsKept t → s.x ≤ s.y → (t.number ≡ s.own → EndsApart t (min s.y (length t.cells)) (gap_views (s.x - length t.cells) ++ new_views s.new))
    → IsKept (moved s t) → IsUncut (s.x + new_len s.new) (moved s t)
uncut-moved s t kept order apart after = by (eqb t.number s.own) refl (ltb s.x (length t.cells)) refl where
  at : (vs : List ItemView) → put_views s t ≡ vs → EndsApart t (min s.y (length t.cells)) vs → min s.x (length t.cells) + frames_in vs ≡ s.x + new_len s.new → IsUncut (s.x + new_len s.new) (moved s t)
  at vs e ends sum =
      subst (λ (z : ℕ). IsUncut z (moved s t)) (ap (λ (us : List ItemView). min s.x (length t.cells) + frames_in us) e ∙ sum)
      (uncut-spliced s.keep t (min s.x (length t.cells)) (min s.y (length t.cells)) (put_views s t) kept (omega arith) (subst (EndsApart t (min s.y (length t.cells))) (sym e) ends) after)

  by : (a : Bool) → eqb t.number s.own ≡ a → (b : Bool) → ltb s.x (length t.cells) ≡ b → IsUncut (s.x + new_len s.new) (moved s t)
  by true e b f =
      let own = eqb-true t.number s.own e in
      at (gap_views (s.x - length t.cells) ++ new_views s.new) (put-own s t own) (apart own) (omega (arith, frames-put (s.x - length t.cells) s.new))
  by false e true f =
      let other : t.number ≢ s.own = eqb-false t.number s.own e in
      let less = ltb-true s.x (length t.cells) f in
      at (gap_views (new_len s.new)) (put-along s t other less) (ends-dark t (min s.y (length t.cells)) (new_len s.new)) (omega (arith, less, frames-gap (new_len s.new)))
  by false e false f =
      let other : t.number ≢ s.own = eqb-false t.number s.own e in
      let le = ltb-false s.x (length t.cells) f in
      uncut-beyond (moved s t) (s.x + new_len s.new) after (omega (arith, le, length-none s t order other le))

-- named tracks that are good may be split

few_from : (set t n : ℕ) → length (tracks_from set t n) ≤ n
few_from set t zero = omega arith
few_from set t (suc n) = by (has_track set t) (few_from set (suc t) n) where
  by : (b : Bool) → length (tracks_from set (suc t) n) ≤ n → length (cond b (t ∷ tracks_from set (suc t) n) (tracks_from set (suc t) n)) ≤ suc n
  by true h = omega (arith, h)
  by false h = omega (arith, h)

few_in : (set : ℕ) → length (tracks_in set) ≤ 32
unfolding tracks_in
few_in set = few_from set 0 32

as_many : (ts : List TrackState) → length (map (λ (t : TrackState). t.number) ts) ≡ length ts
as_many [] = refl
as_many (t ∷ ts) = ap suc (as_many ts)

pub few-named : (ts : List TrackState) (set : ℕ) → map (λ (t : TrackState). t.number) ts ≡ tracks_in set → length ts ≤ 32
few-named ts set named = omega (arith, as_many ts, ap length named, few_in set)

pub may-split : (table : Table) (ts : List TrackState) (set : ℕ) → All (IsGood table) ts → All (λ (t : TrackState). IsRoomy t) ts → map (λ (t : TrackState). t.number) ts ≡ tracks_in set → MayBeSplit ts
may-split table ts set good roomy named = record {
  kept = λ k d lt. (good k d lt).kept;
  few = few-named ts set named;
  next = λ k d lt. (roomy k d lt).link;
  items = λ k d lt. (good k d lt).items;
}
