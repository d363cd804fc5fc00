-- Insert and extract as they are meant, and as shifts of all named tracks.
use Rattle.std.proofs.Common.{◌≡◌, ℕ, ◌+◌, ◌-◌, ◌<◌, ◌≤◌, min, List, [], ◌∷◌, ◌++◌, All, length, map, Option, Some, None, Err, refl, sym, ap, ◌∙◌, arith, subst, get_or, slice_get}
use Rattle.std.proofs.lemmas.Option.{slice_get-get_or, slice_get_read}
use Rattle.composables.specs.declared.calls.Extract.{Extract}
use Rattle.composables.specs.declared.calls.Insert.{Insert}
use Rattle.composables.specs.declared.items.ItemView.{ItemView}
use Rattle.composables.specs.declared.media.Table.{Table}
use Rattle.composables.specs.declared.refusals.Done.TheVariants.{Item, Plain}
use Rattle.composables.specs.declared.refusals.Refusal.{Refusal}
use Rattle.composables.specs.declared.refusals.Refusal.TheVariants.{NoItem}
use Rattle.composables.specs.Good.{IsGood}
use Rattle.composables.specs.Ranges.{on_range, range_of}
use Rattle.composables.specs.Roomy.{IsRoomy}
use Rattle.composables.specs.TrackFacts.{IsKept}
use Rattle.composables.specs.TrackState.{TrackState}
use Rattle.composables.specs.Views.{clip_view, gap_views}
use Rattle.edit_splice.specs.declared.shifting.Shift.{Shift}
use Rattle.composables.specs.Answers.{unless}
use Rattle.edit_insert.specs.Edits.{extract_named, extracted, insert_named, inserted}
use Rattle.edit_splice.specs.Moves.{IsShiftOf, put_views}
use Rattle.composables.specs.OwnTracks.{track_numbered, with_track}
use Rattle.edit_splice.specs.Padding.{new_views, padded_track}
use Rattle.edit_splice.specs.Shifts.{shift_of}
use Rattle.edit_insert.specs.Sources.{source_refusal}
use Rattle.composables.specs.TrackSets.{tracks_in}
use Rattle.edit_splice.proofs.Bridging.{Rise, StaysMoved, extract-moved, for-found, insert-moved, is-numbered, is-shift, only-one, put-moved, put-shift, tracks-rise}
use Rattle.edit_splice.proofs.Put.{Clip, PutIn, put-clip, put-only}
use Rattle.edit_insert.proofs.Removals.{range-within}
use Rattle.edit_splice.proofs.Moving.{frames-put}
use Rattle.link_groups.specs.LinkedShifts.{linked_shift}
use Rattle.link_groups.proofs.LinkedShifts.{EachUncut, within-kept}
use Rattle.link_groups.proofs.Meant.{ends-new, outside-padded, shift-meant, uncut-moved}
use Rattle.link_groups.proofs.Uncut.{EndsApart, cell-below, some_below}
use Rattle.frame_meaning.specs.Render.{cell_at}

abbrev pub no_track : TrackState
no_track = record { number = 0; cells = []; next_item = 0; next_link = 0 }

-- the own track of a call, where it stands among the named
pub record IsOwn (n : ℕ) (ts : List TrackState) (own : TrackState) : Type 0 where
  pub found : track_numbered n ts ≡ Some own
  pub number : own.number ≡ n
  pub only : All (λ (t : TrackState). t.number ≡ n → t ≡ own) ts

pub is-own : (n tracks i : ℕ) (ts : List TrackState) (own : TrackState) → map (λ (t : TrackState). t.number) ts ≡ tracks_in tracks → track_numbered n ts ≡ slice_get ts i
    → slice_get ts i ≡ Some own → IsOwn n ts own
is-own n tracks i ts own e f is =
    let found : track_numbered n ts ≡ Some own = f ∙ is in
    record { found = found; number = is-numbered n ts own found; only = only-one n ts own (subst Rise (sym e) (tracks-rise tracks)) found }

pub own-here : (ts : List TrackState) (i : ℕ) (own : TrackState) → i < length ts → own ≡ get_or ts i own → slice_get ts i ≡ Some own
own-here ts i own h is = slice_get_read ts (length ts) i own refl h is

pub own-there : (ts : List TrackState) (i : ℕ) → i < length ts → slice_get ts i ≡ Some (get_or ts i no_track)
own-there ts i h = slice_get-get_or ts i no_track h

pub insert-refused : (table : Table) (c : Insert) (ts : List TrackState) (own : TrackState) (why : Refusal) → IsOwn c.track ts own → source_refusal table c.track c.what c.from c.len ≡ Some why
    → insert_named table ts c ≡ Err why
insert-refused table c ts own why o e =
    for-found c.track (inserted table c ts) ts own o.found
    ∙ ap (λ (r : Option Refusal). unless r (shift_of c.keep c.track c.at c.at (clip_view own.next_item c.what c.from c.len ∷ []) (Item own.next_item) (with_track ts (padded_track own c.at))))
    (ap (λ (n : ℕ). source_refusal table n c.what c.from c.len) o.number ∙ e)

abbrev pub shift_at : Insert → ItemView → Shift
shift_at c v = record { own = c.track; x = c.at; y = c.at; new = Some v; keep = c.keep }

-- the shift of an insert splits links as they are split cell by cell: what is put into the own track ends with an item
-- that is new to it
pub insert-uncut : (table : Table) (c : Insert) (ts : List TrackState) (own : TrackState) (v : ItemView) (number : ℕ) → IsOwn c.track ts own → 0 < c.len
    → number ≡ own.next_item → v ≡ clip_view number c.what c.from c.len → All (IsGood table) ts → EachUncut (shift_at c v) ts
insert-uncut table c ts own v number o some f g good k d lt after =
    uncut-moved (shift_at c v) (get_or ts k d) (good k d lt).kept (omega arith) on_own after where
      on_own : (get_or ts k d).number ≡ c.track → EndsApart (get_or ts k d) (min c.at (length (get_or ts k d).cells)) (gap_views (c.at - length (get_or ts k d).cells) ++ new_views (Some v))
      on_own e =
          let here : get_or ts k d ≡ own = o.only k d lt e in
          let next : number ≡ (get_or ts k d).next_item = f ∙ ap (λ (t : TrackState). t.next_item) (sym here) in
          ends-new (get_or ts k d) (min c.at (length (get_or ts k d).cells)) (c.at - length (get_or ts k d).cells) number v
          (subst (λ (w : ItemView). 0 < w.len) (sym g) some) (ap (λ (w : ItemView). w.item) g)
          (λ is. omega (arith, next, some_below (cell_at (get_or ts k d).cells (min c.at (length (get_or ts k d).cells))).item (get_or ts k d).next_item number (cell-below (get_or ts k d) (min c.at (length (get_or ts k d).cells)) (good k d lt).kept) is))
          (λ is. omega (arith, is, next))

pub insert-allowed : (table : Table) (c : Insert) (tracks : ℕ) (ts : List TrackState) (own : TrackState) (v : ItemView) (number : ℕ) → IsOwn c.track ts own → source_refusal table c.track c.what c.from c.len ≡ None
    → 0 < c.len → map (λ (t : TrackState). t.number) ts ≡ tracks_in tracks → All (IsGood table) ts → All (IsShiftOf (shift_at c v)) ts → IsKept own → number ≡ own.next_item → v ≡ clip_view number c.what c.from c.len
    → insert_named table ts c ≡ linked_shift (shift_at c v) (c.at + v.len) (Item number) ts
insert-allowed table c tracks ts own v number o e some numbers good fits kept f g =
    for-found c.track (inserted table c ts) ts own o.found
    ∙ (ap (λ (r : Option Refusal). unless r (shift_of c.keep c.track c.at c.at (clip_view own.next_item c.what c.from c.len ∷ []) (Item own.next_item) (with_track ts (padded_track own c.at))))
    (ap (λ (n : ℕ). source_refusal table n c.what c.from c.len) o.number ∙ e)
    ∙ (ap (λ (n : ℕ). shift_of c.keep c.track c.at c.at (clip_view n c.what c.from c.len ∷ []) (Item n) (with_track ts (padded_track own c.at))) (sym f)
    ∙ (ap (λ (w : ItemView). shift_of c.keep c.track c.at c.at (w ∷ []) (Item number) (with_track ts (padded_track own c.at))) (sym g)
    ∙ shift-meant (shift_at c v) (Item number) ts (with_track ts (padded_track own c.at))
    (insert-moved (shift_at c v) ts own (subst Rise (sym numbers) (tracks-rise tracks)) o.found kept refl)
    (outside-padded ts own c.at c.at (subst (λ (n : ℕ). All (λ (t : TrackState). t.number ≡ n → t ≡ own) ts) (sym o.number) o.only))
    (omega arith) (within-kept (shift_at c v) ts (omega arith) fits) (insert-uncut table c ts own v number o some f g good))))

pub insert-put : (table : Table) (c : Insert) (ts : List TrackState) (own : TrackState) (v : ItemView) (number : ℕ) → IsOwn c.track ts own → Clip table c.what c.from c.len
    → number ≡ own.next_item → v ≡ clip_view number c.what c.from c.len → All (λ (t : TrackState). PutIn table t (put_views (shift_at c v) t)) ts
insert-put table c ts own v number o clip f g k d lt = put-shift table (shift_at c v) (get_or ts k d) on_own where
  on_own : (get_or ts k d).number ≡ c.track → PutIn table (get_or ts k d) (gap_views (c.at - length (get_or ts k d).cells) ++ new_views (Some v))
  on_own e =
      let here : get_or ts k d ≡ own = o.only k d lt e in
      subst (λ (w : ItemView). PutIn table (get_or ts k d) (gap_views (c.at - length (get_or ts k d).cells) ++ new_views (Some w))) (sym g)
      (put-clip table (get_or ts k d) (c.at - length (get_or ts k d).cells) number c.what c.from c.len (f ∙ ap (λ (t : TrackState). t.next_item) (sym here)) clip)

abbrev pub shift_out : Extract → ℕ → ℕ → Shift
shift_out c x y = record { own = c.track; x = x; y = y; new = None; keep = c.keep }

pub extract-missing : (c : Extract) (ts : List TrackState) (own : TrackState) → IsOwn c.track ts own → range_of own.cells c.item ≡ None → extract_named ts c ≡ Err NoItem
extract-missing c ts own o e =
    for-found c.track (extracted c ts) ts own o.found
    ∙ ap (λ (r : Option (ℕ × ℕ)). on_range (λ x y. shift_of c.keep c.track x y [] Plain ts) r) e

-- the range of an item that is taken out there lies on its own track, and no link is split within an item by it
pub out-long : (c : Extract) (ts : List TrackState) (own : TrackState) (x y : ℕ) → IsOwn c.track ts own → (x ≤ y) × (y ≤ length own.cells)
    → All (λ (t : TrackState). t.number ≡ c.track → (x ≤ length t.cells) × (y ≤ length t.cells)) ts
out-long c ts own x y o within k d lt n =
    let l : length (get_or ts k d).cells ≡ length own.cells = ap (λ (t : TrackState). length t.cells) (o.only k d lt n) in
    (omega (arith, within.0, within.1, l), omega (arith, within.1, l))

pub out-uncut : (table : Table) (c : Extract) (ts : List TrackState) (own : TrackState) (x y : ℕ) → IsOwn c.track ts own → (x ≤ y) × (y ≤ length own.cells) → All (IsGood table) ts → EachUncut (shift_out c x y) ts
out-uncut table c ts own x y o within good k d lt after =
    uncut-moved (shift_out c x y) (get_or ts k d) (good k d lt).kept within.0
    (λ n some. absurd (omega (arith, some, frames-put (x - length (get_or ts k d).cells) None, (out-long c ts own x y o within k d lt n).0))) after

pub extract-found : (table : Table) (c : Extract) (ts : List TrackState) (own : TrackState) (x y : ℕ) → IsOwn c.track ts own → range_of own.cells c.item ≡ Some (x, y) → All (IsGood table) ts
    → All (IsShiftOf (shift_out c x y)) ts → IsKept own → extract_named ts c ≡ linked_shift (shift_out c x y) (x + 0) Plain ts
extract-found table c ts own x y o e good fits kept =
    let within = range-within own c.item x y kept e in
    for-found c.track (extracted c ts) ts own o.found
    ∙ (ap (λ (r : Option (ℕ × ℕ)). on_range (λ x y. shift_of c.keep c.track x y [] Plain ts) r) e
    ∙ shift-meant (shift_out c x y) Plain ts ts (extract-moved (shift_out c x y) ts (out-long c ts own x y o within)) refl within.0 (within-kept (shift_out c x y) ts within.0 fits) (out-uncut table c ts own x y o within good))

pub extract-put : (table : Table) (c : Extract) (ts : List TrackState) (x y : ℕ) → All (λ (t : TrackState). PutIn table t (put_views (shift_out c x y) t)) ts
extract-put table c ts x y k d lt = put-shift table (shift_out c x y) (get_or ts k d) (λ e. put-only table (get_or ts k d) (x - length (get_or ts k d).cells))

pub all-shifts : (table : Table) (s : Shift) (ts : List TrackState) → All (IsGood table) ts → All (λ (t : TrackState). IsRoomy t) ts → All (λ (t : TrackState). PutIn table t (put_views s t)) ts
    → All (λ (t : TrackState). IsShiftOf s t) ts
all-shifts table s ts g r p k d lt = is-shift table s (get_or ts k d) (g k d lt) (r k d lt) (p k d lt)

pub each-stays : (table : Table) (s : Shift) (ts : List TrackState) → s.x ≤ s.y → All (IsGood table) ts → All (λ (t : TrackState). PutIn table t (put_views s t)) ts → All (StaysMoved table s) ts
each-stays table s ts le g p k d lt = put-moved table s (get_or ts k d) le (g k d lt) (p k d lt)
