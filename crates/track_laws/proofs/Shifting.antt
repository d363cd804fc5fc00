-- Insert and extract: what moves on all named tracks, with links split, leaves them good.
use Rattle.std.proofs.Common.{◌≡◌, ℕ, ◌+◌, ◌≤◌, List, [], ◌∷◌, All, Option, Some, None, Ok, refl, sym, ◌∙◌, arith, subst}
use Rattle.composables.specs.declared.calls.Extract.{Extract}
use Rattle.composables.specs.declared.calls.Insert.{Insert}
use Rattle.composables.specs.declared.items.ItemView.{ItemView}
use Rattle.composables.specs.declared.media.Table.{Table}
use Rattle.composables.specs.declared.refusals.Done.{Done}
use Rattle.composables.specs.declared.refusals.Done.TheVariants.{Item, Plain}
use Rattle.composables.specs.Good.{IsGood}
use Rattle.composables.specs.Links.{cells_from, link_outside}
use Rattle.composables.specs.OwnTracks.{numbers_of, track_numbered, with_track}
use Rattle.composables.specs.Ranges.{on_range, range_of}
use Rattle.composables.specs.TrackFacts.{IsKept}
use Rattle.composables.specs.TrackSets.{tracks_in}
use Rattle.composables.specs.TrackState.{TrackState}
use Rattle.composables.specs.Views.{clip_view}
use Rattle.edit_splice.specs.declared.shifting.Shift.{Shift}
use Rattle.edit_splice.specs.Moves.{all_moved}
use Rattle.edit_splice.specs.Padding.{new_len, new_views, padded_track}
use Rattle.edit_splice.specs.Shifts.{shift_of, shifted}
use Rattle.edit_splice.proofs.Bridging.{Rise, StaysMoved, extract-moved, insert-moved, is-numbered, only-one, tracks-rise}
use Rattle.edit_splice.proofs.Firsts.{few-all, short-all}
use Rattle.edit_insert.specs.Edits.{extracted, inserted}
use Rattle.edit_insert.specs.Sources.{source_refusal}
use Rattle.edit_insert.proofs.Inserts.{IsOwn, each-stays, extract-put, insert-put, insert-uncut, out-long, out-uncut, shift_at, shift_out}
use Rattle.edit_insert.proofs.Removals.{range-within}
use Rattle.link_groups.proofs.GoodShifts.{each-linked}
use Rattle.edit_splice.proofs.Standing.{each-good}
use Rattle.link_groups.proofs.LinkedShifts.{EachUncut, KeptWithin}
use Rattle.link_groups.proofs.Meant.{outside-padded, shift-meant}
use Rattle.track_laws.specs.Goods.{IsBounded, ShiftingKeepsGood}
use Rattle.track_laws.proofs.Own.{found-good, own-done}
use Rattle.track_laws.proofs.Putting.{clip-there, none-refused}

-- Whatever numbers the tracks have given away, what moves on them keeps them.

kept_within : (table : Table) (s : Shift) (ts : List TrackState) → All (StaysMoved table s) ts → KeptWithin s ts
kept_within table s ts stays long many k d lt = (stays k d lt (record { frames = short-all s ts long k d lt; items = few-all s ts many k d lt })).good.kept

-- what it leaves is good
pub shift-good : (table : Table) (s : Shift) (done d : Done) (ts named us : List TrackState) → shifted s.keep s.own s.x s.y (new_views s.new) named ≡ all_moved s ts
    → link_outside named (cells_from s.y named) ≡ link_outside ts (cells_from s.y ts) → s.x ≤ s.y → All (IsGood table) ts → All (StaysMoved table s) ts → EachUncut s ts
    → shift_of s.keep s.own s.x s.y (new_views s.new) done named ≡ Ok (us, d) → All (IsGood table) us
shift-good table s done d ts named us same outside order good stays uncut k =
    each-good table ts us
    (each-linked table s (s.x + new_len s.new) ts us done (Ok d) good stays (sym (shift-meant s done ts named same outside order (kept_within table s ts stays) uncut) ∙ k))

-- the own track of a call
owned : (n tracks : ℕ) (ts : List TrackState) (own : TrackState) → numbers_of ts ≡ tracks_in tracks → track_numbered n ts ≡ Some own → IsOwn n ts own
owned n tracks ts own names found = record { found = found; number = is-numbered n ts own found; only = only-one n ts own (subst Rise (sym names) (tracks-rise tracks)) found }

insert_good : (table : Table) (c : Insert) (ts us : List TrackState) (own : TrackState) (done : Done) → IsBounded table → numbers_of ts ≡ tracks_in c.tracks → All (IsGood table) ts → IsOwn c.track ts own
    → inserted table c ts own ≡ Ok (us, done) → All (IsGood table) us
insert_good table c ts us own done bounded names good o k =
    let v : ItemView = clip_view own.next_item c.what c.from c.len in
    let s : Shift = shift_at c (clip_view own.next_item c.what c.from c.len) in
    let r = none-refused (source_refusal table own.number c.what c.from c.len) (shift_of c.keep c.track c.at c.at (clip_view own.next_item c.what c.from c.len ∷ []) (Item own.next_item) (with_track ts (padded_track own c.at))) (us, done) k in
    let clip = clip-there table own.number c.what c.from c.len bounded r.0 in
    let kept : IsKept own = (found-good table c.track ts own good o.found).kept in
    let stays = each-stays table (shift_at c (clip_view own.next_item c.what c.from c.len)) ts (omega arith) good
    (insert-put table c ts own (clip_view own.next_item c.what c.from c.len) own.next_item o clip refl refl) in
    shift-good table (shift_at c (clip_view own.next_item c.what c.from c.len)) (Item own.next_item) done ts (with_track ts (padded_track own c.at)) us
    (insert-moved (shift_at c (clip_view own.next_item c.what c.from c.len)) ts own (subst Rise (sym names) (tracks-rise c.tracks)) o.found kept refl)
    (outside-padded ts own c.at c.at (subst (λ (n : ℕ). All (λ (t : TrackState). t.number ≡ n → t ≡ own) ts) (sym o.number) o.only))
    (omega arith) good stays (insert-uncut table c ts own (clip_view own.next_item c.what c.from c.len) own.next_item o clip.filled refl refl good) r.1

extract_good : (table : Table) (c : Extract) (ts us : List TrackState) (own : TrackState) (done : Done) → All (IsGood table) ts → IsOwn c.track ts own → extracted c ts own ≡ Ok (us, done) → All (IsGood table) us
extract_good table c ts us own done good o k = by (range_of own.cells c.item) refl k where
  by : (r : Option (ℕ × ℕ)) → range_of own.cells c.item ≡ r → on_range (λ x y. shift_of c.keep c.track x y [] Plain ts) r ≡ Ok (us, done) → All (IsGood table) us
  by None e k = absurd (Prim.grind (arith, k))
  by (Some (x, y)) e k =
      let within = range-within own c.item x y (found-good table c.track ts own good o.found).kept e in
      shift-good table (shift_out c x y) Plain done ts ts us (extract-moved (shift_out c x y) ts (out-long c ts own x y o within)) refl within.0 good
      (each-stays table (shift_out c x y) ts within.0 good (extract-put table c ts x y)) (out-uncut table c ts own x y o within good) k

pub shifting-keeps : ShiftingKeepsGood
shifting-keeps = record {
  insert = λ table c named news done bounded names good k.
      let o = own-done c.track (inserted table c named) named news done k in
      insert_good table c named news o.own done bounded names good (owned c.track c.tracks named o.own names o.found) o.is;
  extract = λ table c named news done bounded names good k.
      let o = own-done c.track (extracted c named) named news done k in
      extract_good table c named news o.own done good (owned c.track c.tracks named o.own names o.found) o.is;
}
