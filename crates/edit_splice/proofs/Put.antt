-- A gap and a new item may be put into any track.
use Rattle.std.proofs.Common.{◌≡◌, ◌≢◌, ℕ, ◌+◌, ◌<◌, ◌≤◌, ◌^◌, Bool, true, false, cond, eqb, List, [], ◌∷◌, ◌++◌, length, Some, None, refl, sym, arith, subst}
use Rattle.std.proofs.lemmas.Bool.{eqb-false}
use Rattle.std.proofs.lemmas.List.{append-nil}
use Rattle.frame_meaning.specs.declared.cells.What.{What}
use Rattle.composables.specs.declared.items.ItemView.{ItemView}
use Rattle.composables.specs.declared.media.Table.{Table}
use Rattle.composables.specs.Bounds.{bounds_of}
use Rattle.composables.specs.Good.{LiesIn}
use Rattle.composables.specs.Joined.{AllFilled}
use Rattle.composables.specs.TrackFacts.{Holds, NumbersBelow}
use Rattle.composables.specs.TrackState.{TrackState}
use Rattle.composables.specs.Views.{clip_view, gap_view, gap_views}
use Rattle.edit_splice.specs.NewItems.{AreNewFor}
use Rattle.edit_splice.specs.Padding.{new_views}

-- a new item holds its source frames
pub record Clip (table : Table) (what : What) (from len : ℕ) : Type 0 where
  pub filled : 0 < len
  pub source : from + len ≤ 2 ^ 32
  pub lies : LiesIn (bounds_of table what) from len 0 0

holds-gap : (n : ℕ) → 0 < n → Holds (gap_view n) None
holds-gap n h = record { filled = h; shows = tt; mark_filled = tt; room = omega arith; source = tt; head_no_nest = tt; tail_no_nest = tt }

holds-clip : (table : Table) (next : ℕ) (what : What) (from len : ℕ) → Clip table what from len → Holds (clip_view next what from len) None
holds-clip table next what from len c =
    record { filled = c.filled; shows = tt; mark_filled = tt; room = omega arith; source = (omega arith, omega (arith, c.source)); head_no_nest = tt; tail_no_nest = tt }

none_put : (table : Table) (t : TrackState) → AreNewFor table t []
none_put table t = record { new = record { each = tt; first = refl; meet = tt; apart = tt; above = tt }; ranges = tt; links = tt }

gap_put : (table : Table) (t : TrackState) (n : ℕ) → 0 < n → AreNewFor table t (gap_view n ∷ [])
gap_put table t n h =
    record { new = record { each = (holds-gap n h, tt); first = refl; meet = (tt, tt); apart = (tt, tt); above = (tt, tt) }; ranges = (tt, tt); links = (tt, tt) }

clip_put : (table : Table) (t : TrackState) (next : ℕ) (what : What) (from len : ℕ) → t.next_item ≤ next → Clip table what from len → AreNewFor table t (clip_view next what from len ∷ [])
clip_put table t next what from len h c =
    record { new = record { each = (holds-clip table next what from len c, tt); first = refl; meet = (tt, tt); apart = (tt, tt); above = (h, tt) }; ranges = (c.lies, tt); links = (tt, tt) }

both_put : (table : Table) (t : TrackState) (n next : ℕ) (what : What) (from len : ℕ) → 0 < n → t.next_item ≤ next → Clip table what from len → AreNewFor table t (gap_view n ∷ clip_view next what from len ∷ [])
both_put table t n next what from len p h c =
    record { new = record { each = (holds-gap n p, (holds-clip table next what from len c, tt)); first = refl; meet = (λ e f. refl, (tt, tt)); apart = (tt, (tt, tt)); above = (tt, (h, tt)) }; ranges = (tt, (c.lies, tt)); links = (tt, (tt, tt)) }

-- what is put into a track, with the facts that it brings
pub record PutIn (table : Table) (t : TrackState) (views : List ItemView) : Type 0 where
  pub new : AreNewFor table t views
  pub numbers : NumbersBelow (t.next_item + 1) views
  pub filled : AllFilled views
  pub few : length views ≤ 2

pub put-gap : (table : Table) (t : TrackState) (n : ℕ) → PutIn table t (gap_views n)
put-gap table t n = by (eqb n 0) refl where
  by : (b : Bool) → eqb n 0 ≡ b → PutIn table t (cond b [] (gap_view n ∷ []))
  by true e = record { new = none_put table t; numbers = tt; filled = tt; few = omega arith }
  by false e =
      let h : n ≢ 0 = eqb-false n 0 e in
      let p : 0 < n = omega (arith, h) in
      record { new = gap_put table t n p; numbers = (tt, tt); filled = (p, tt); few = omega arith }

pub put-only : (table : Table) (t : TrackState) (n : ℕ) → PutIn table t (gap_views n ++ new_views None)
put-only table t n = subst (PutIn table t) (sym (append-nil (gap_views n))) (put-gap table t n)

pub put-clip : (table : Table) (t : TrackState) (n next : ℕ) (what : What) (from len : ℕ) → next ≡ t.next_item → Clip table what from len
    → PutIn table t (gap_views n ++ new_views (Some (clip_view next what from len)))
put-clip table t n next what from len e c = by (eqb n 0) refl where
  by : (b : Bool) → eqb n 0 ≡ b → PutIn table t (cond b [] (gap_view n ∷ []) ++ new_views (Some (clip_view next what from len)))
  by true f =
      record { new = clip_put table t next what from len (omega (arith, e)) c; numbers = (omega (arith, e), tt); filled = (c.filled, tt); few = omega arith }
  by false f =
      let h : n ≢ 0 = eqb-false n 0 f in
      let p : 0 < n = omega (arith, h) in
      record { new = both_put table t n next what from len p (omega (arith, e)) c; numbers = (tt, (omega (arith, e), tt)); filled = (p, (c.filled, tt)); few = omega arith }
