-- An item put into a track, taken out of it, and cut in two: the track stays good.
use Rattle.std.proofs.Common.{◌≡◌, ◌≢◌, ℕ, ◌+◌, ◌-◌, ◌<◌, ◌≤◌, ◌^◌, ◌++◌, Bool, true, false, cond, eqb, leb, ltb, ◌&&◌, min, List, [], ◌∷◌, length, Option, Some, None, IfSome, Result, Ok, refl, sym, ap, ◌∙◌, arith, slice_get}
use Rattle.std.proofs.lemmas.Bool.{eqb-false, leb-true}
use Rattle.frame_meaning.specs.declared.cells.What.{What}
use Rattle.frame_meaning.specs.Cells.{same_number}
use Rattle.composables.specs.declared.calls.Fill.{Fill}
use Rattle.composables.specs.declared.calls.Overwrite.{Overwrite}
use Rattle.composables.specs.declared.items.ItemView.{ItemView}
use Rattle.composables.specs.declared.media.Table.{Table}
use Rattle.composables.specs.declared.refusals.Done.{Done}
use Rattle.composables.specs.declared.refusals.Done.TheVariants.{Item}
use Rattle.composables.specs.declared.refusals.Refusal.{Refusal}
use Rattle.composables.specs.declared.refusals.Refusal.TheVariants.{EmptyRange, MediaEnds}
use Rattle.composables.specs.Answers.{unless}
use Rattle.composables.specs.Bounds.{bounds_of}
use Rattle.composables.specs.Good.{IsGood}
use Rattle.composables.specs.Items.{cells_of, items_of}
use Rattle.composables.specs.Joined.{AllFilled, frames_in}
use Rattle.composables.specs.Limits.{track_within_limits}
use Rattle.composables.specs.Ranges.{gap_at, gap_from}
use Rattle.composables.specs.TrackState.{TrackState}
use Rattle.composables.specs.Views.{clip_view, gap_views}
use Rattle.composables.proofs.Joining.{length-cells_of}
use Rattle.edit_splice.specs.Padding.{new_views}
use Rattle.edit_splice.specs.Splicing.{spliced_track}
use Rattle.edit_splice.proofs.Put.{Clip, put-clip}
use Rattle.edit_splice.proofs.Standing.{stays-placed}
use Rattle.edit_insert.specs.Edits.{overwrite_track, overwritten, remove_track, slice_track}
use Rattle.edit_insert.specs.Fills.{fill_at, fill_track, filled, frames_asked}
use Rattle.edit_insert.specs.Sources.{refusal_in, source_refusal, suits}
use Rattle.edit_insert.proofs.Filled.{fill-put}
use Rattle.edit_insert.proofs.OverPlaces.{over-put}
use Rattle.edit_insert.proofs.Removals.{remove-stays, slice-stays}
use Rattle.edit_insert.proofs.SourceRanges.{source-clip}
use Rattle.edit_splice.proofs.Meeting.{filled-each}
use Rattle.track_laws.specs.Goods.{IsBounded, PuttingInKeepsGood}
use Rattle.track_laws.proofs.Own.{own-good}

-- source frames that are not refused
frames_there : (o : Option (ℕ × ℕ)) (fits : Bool) (from len : ℕ) → IfSome o (λ r. r.1 ≤ 2 ^ 32) → refusal_in o fits from len ≡ None → (0 < len) × (from + len ≤ 2 ^ 32)
frames_there None fits from len b e = absurd (Prim.grind (arith, e))
frames_there (Some (low, high)) false from len b e = absurd (Prim.grind (arith, e))
frames_there (Some (low, high)) true from len bound e = by (eqb len 0) (leb low from) (leb (from + len) high) refl refl e where
  by : (a c d : Bool) → eqb len 0 ≡ a → leb (from + len) high ≡ d
      → ◌≡◌ {A = Option Refusal} (cond a (Some EmptyRange) (cond (c && d) None (Some MediaEnds))) None → (0 < len) × (from + len ≤ 2 ^ 32)
  by true c d f g e = absurd (Prim.grind (arith, e))
  by false false d f g e = absurd (Prim.grind (arith, e))
  by false true false f g e = absurd (Prim.grind (arith, e))
  by false true true f g e =
      let some : len ≢ 0 = eqb-false len 0 f in
      let end : high ≤ 2 ^ 32 = bound in
      (omega (arith, some), omega (arith, leb-true (from + len) high g, end))

pub clip-there : (table : Table) (n : ℕ) (what : What) (from len : ℕ) → IsBounded table → source_refusal table n what from len ≡ None → Clip table what from len
clip-there table n what from len bounded none =
    let h = frames_there (bounds_of table what) (suits (slice_get table.kinds n) what) from len (bounded what) none in
    source-clip table n what from len none h.0 h.1

-- what is meant unless it is refused
pub none-refused : {A : Type 0} (o : Option Refusal) (meant : Result A Refusal) (x : A) → unless o meant ≡ Ok x → (o ≡ None) × (meant ≡ Ok x)
none-refused (Some why) meant x k = absurd (Prim.grind (arith, k))
none-refused None meant x k = (refl, k)

overwrite_good : (table : Table) (c : Overwrite) (t u : TrackState) (done : Done) → IsBounded table → IsGood table t → overwrite_track table c t ≡ Ok (u, done) → IsGood table u
overwrite_good table c t u done bounded g k =
    let meant : Result (TrackState × Done) Refusal = track_within_limits (overwritten c.keep t c.at c.what c.from c.len) (Item t.next_item) in
    let r = none-refused (source_refusal table t.number c.what c.from c.len) meant (u, done) k in
    let clip = clip-there table t.number c.what c.from c.len bounded r.0 in
    let put : track_within_limits (spliced_track c.keep t (min c.at (length t.cells)) (min (c.at + c.len) (length t.cells)) (gap_views (c.at - length t.cells) ++ new_views (Some (clip_view t.next_item c.what c.from c.len)))) (Item t.next_item) ≡ Ok (u, done) =
    ap (λ (w : TrackState). track_within_limits w (Item t.next_item)) (sym (over-put c.keep t c.at c.what c.from c.len g.kept)) ∙ r.1 in
    (stays-placed c.keep table t u (min c.at (length t.cells)) (min (c.at + c.len) (length t.cells)) (gap_views (c.at - length t.cells) ++ new_views (Some (clip_view t.next_item c.what c.from c.len))) (Item t.next_item) (Ok done) g
    (omega arith) (omega arith) (put-clip table t (c.at - length t.cells) t.next_item c.what c.from c.len refl clip) put).good

-- the first place of a range, and the one after its last
abbrev pub first_of : Option (ℕ × ℕ) → ℕ
first_of None = 0
first_of (Some r) = r.0

abbrev pub end_of : Option (ℕ × ℕ) → ℕ
end_of None = 0
end_of (Some r) = r.1

-- the places of a gap
gap_within : (vs : List ItemView) (x q g h : ℕ) → AllFilled vs → gap_from x vs q ≡ Some (g, h) → (g < h) × (h ≤ x + frames_in vs)
gap_within [] x q g h f e = absurd (Prim.grind (arith, e))
gap_within (v ∷ vs) x q g h f e = by (ltb q v.len) (same_number v.item None) e (gap_within vs (x + v.len) (q - v.len) g h f.1) where
  by : (a b : Bool) → cond a (cond b (Some (x, x + v.len)) None) (gap_from (x + v.len) vs (q - v.len)) ≡ Some (g, h)
      → (gap_from (x + v.len) vs (q - v.len) ≡ Some (g, h) → (g < h) × (h ≤ x + v.len + frames_in vs)) → (g < h) × (h ≤ x + (v.len + frames_in vs))
  by true true e later =
      let from : x ≡ g = ap first_of e in
      let to : x + v.len ≡ h = ap end_of e in
      (omega (arith, from, to, f.0), omega (arith, to))
  by true false e later = absurd (Prim.grind (arith, e))
  by false b e later = let p = later e in (p.0, omega (arith, p.1))

fill_good : (table : Table) (c : Fill) (t u : TrackState) (done : Done) → IsBounded table → IsGood table t → fill_track table c t ≡ Ok (u, done) → IsGood table u
fill_good table c t u done bounded good k = by (gap_at t.cells c.at) refl k where
  by : (o : Option (ℕ × ℕ)) → gap_at t.cells c.at ≡ o → fill_at table c t o ≡ Ok (u, done) → IsGood table u
  by None e k = absurd (Prim.grind (arith, k))
  by (Some (g, h)) e k =
      let long : length (cells_of (items_of t.cells)) ≡ length t.cells = ap length good.kept.whole in
      let w = gap_within (items_of t.cells) 0 c.at g h (filled-each (items_of t.cells) good.kept.each) e in
      let meant : Result (TrackState × Done) Refusal = track_within_limits (filled t c g (min (frames_asked c.length (h - g)) (h - g))) (Item t.next_item) in
      let r = none-refused (source_refusal table t.number c.what c.from (frames_asked c.length (h - g))) meant (u, done) k in
      let clip = clip-there table t.number c.what c.from (frames_asked c.length (h - g)) bounded r.0 in
      let put = fill-put table c t t.number t.next_item (frames_asked c.length (h - g)) (h - g) (min (frames_asked c.length (h - g)) (h - g)) (clip_view t.next_item c.what c.from (min (frames_asked c.length (h - g)) (h - g)) ∷ [])
      r.0 clip.filled clip.source (omega (arith, w.0)) refl refl refl in
      (stays-placed c.keep table t u g (g + min (frames_asked c.length (h - g)) (h - g)) (clip_view t.next_item c.what c.from (min (frames_asked c.length (h - g)) (h - g)) ∷ []) (Item t.next_item) (Ok done) good
      (omega arith) (omega (arith, w.0, w.1, long, length-cells_of (items_of t.cells))) put r.1).good

pub putting-keeps : PuttingInKeepsGood
putting-keeps = record {
  overwrite = λ table c named news done bounded names good k. own-good table c.track (overwrite_track table c) named news done good (λ t u d g e. overwrite_good table c t u d bounded g e) k;
  fill = λ table c named news done bounded names good k. own-good table c.track (fill_track table c) named news done good (λ t u d g e. fill_good table c t u d bounded g e) k;
  remove = λ table c named news done bounded names good k. own-good table c.track (remove_track c) named news done good (λ t u d g e. (remove-stays table c t u (Ok d) g e).good) k;
  slice = λ table c named news done bounded names good k. own-good table c.track (slice_track c) named news done good (λ t u d g e. (slice-stays table c t u (Ok d) g e).good) k;
}
