-- Shifts by which edits move what is behind them on all named tracks: what is true of each, whatever it is to leave.
use Rattle.std.proofs.Common.{◌≡◌, ℕ, zero, suc, ◌+◌, ◌-◌, ◌<◌, ◌≤◌, ◌⊎◌, inl, inr, ℤ, Bool, true, false, cond, eqb, List, [], ◌∷◌, drop, length, slice_get, Option, Some, None, Ok, refl, sym, ap, ◌∙◌, arith, subst}
use Rattle.std.proofs.lemmas.Bool.{eqb-true, ne_eqb}
use Rattle.std.proofs.lemmas.Option.{same_Some}
use Rattle.frame_meaning.specs.declared.cells.Link.{Link}
use Rattle.frame_meaning.specs.declared.cells.What.{What}
use Rattle.composables.specs.declared.calls.Extract.{Extract}
use Rattle.composables.specs.declared.calls.Insert.{Insert}
use Rattle.composables.specs.declared.items.ItemView.{ItemView}
use Rattle.composables.specs.declared.media.Table.{Table}
use Rattle.composables.specs.declared.refusals.Done.{Done}
use Rattle.composables.specs.declared.refusals.Done.TheVariants.{Item, Plain}
use Rattle.composables.specs.declared.refusals.Refusal.{Refusal}
use Rattle.composables.specs.Answers.{Applied, unless}
use Rattle.composables.specs.Bounds.{bounds_of}
use Rattle.composables.specs.Items.{cells_of}
use Rattle.composables.specs.Joined.{frames_in}
use Rattle.composables.specs.Limits.{too_long, too_many, within_limits}
use Rattle.composables.specs.Links.{cells_from, is_named, link_outside, links_split}
use Rattle.composables.specs.OwnTracks.{for_own, track_numbered, with_track}
use Rattle.composables.specs.Ranges.{on_range, range_of}
use Rattle.composables.specs.TrackState.{TrackState}
use Rattle.composables.specs.Views.{clip_view}
use Rattle.composables.proofs.Joining.{eqb-refl}
use Rattle.edit_insert.specs.Edits.{extracted, inserted}
use Rattle.edit_insert.specs.Sources.{refusal_in, source_refusal, suits}
use Rattle.edit_splice.specs.Padding.{padded_track}
use Rattle.edit_splice.specs.Shifts.{after_shift, shift_of, shift_refusal, shifted, shifted_track}
use Rattle.edit_splice.proofs.Bridging.{for-found, is-numbered}
use Rattle.link_laws.specs.Rooms.{AreNamed, Ascend, Leaves}
use Rattle.link_laws.proofs.Edits.{not-found}
use Rattle.link_laws.proofs.FreeRanges.{item-range}
use Rattle.link_laws.proofs.Sights.{Shows, shows-none}
use Rattle.link_laws.proofs.Shifting.{Shifts, Stays, named-each}
use Rattle.link_laws.proofs.ShiftTracks.{HasFew, HasPlace, few-none, has-place, padded-carries, shifted-number, shifts-each, shifts-one, shifts-padded}
use Rattle.link_laws.proofs.Splices.{length-pad}
use Rattle.link_laws.proofs.Splitting.{SeesFrom}
use Rattle.link_laws.proofs.Tied.{Each, among-numbered, each-with}

-- what a call leaves

pub leaves-unless : (P : List TrackState → Type 0) (why : Option Refusal) (meant : Applied) → (why ≡ None → Leaves P meant) → Leaves P (unless why meant)
leaves-unless P None meant h = h refl
leaves-unless P (Some r) meant h = tt

leaves_within : (P : List TrackState → Type 0) (us : List TrackState) (done : Done) → P us → Leaves P (within_limits us done)
leaves_within P us done h =
    leaves-unless P (too_long us) (unless (too_many us) (Ok (us, done))) (λ e. leaves-unless P (too_many us) (Ok (us, done)) (λ f. h))

pub leaves-own : (P : List TrackState → Type 0) (own : ℕ) (meant : TrackState → Applied) (named : List TrackState)
    → ((t : TrackState) → track_numbered own named ≡ Some t → Leaves P (meant t)) → Leaves P (for_own own meant named)
leaves-own P own meant named each = by (track_numbered own named) refl where
  by : (o : Option TrackState) → track_numbered own named ≡ o → Leaves P (for_own own meant named)
  by None e = subst (Leaves P) (sym (not-found own meant named e)) tt
  by (Some t) e = subst (Leaves P) (sym (for-found own meant named t e)) (each t e)

-- a shift that moves something

-- what these items and gaps show where they are put in
abbrev pub PutAt : ℕ → List ItemView → Link → Option ℤ → Type 0
PutAt x views l o = Shows x (cells_of views) l o

-- a shift of the tracks ts, which are the named ones but for dark frames: it moves something, and what it puts in has links
-- that stay or are moved
pub record ShiftCase (keep : Bool) (all named ts : List TrackState) (own x y : ℕ) (views : List ItemView) : Type 0 where
  pub moves : frames_in views ≡ y - x → ⊥
  pub each : Each (Shifts x y (x + frames_in views) (PutAt x views)) named (shifted keep own x y views ts)
  pub sees : (l : Link) (b : Option ℤ) → SeesFrom y named l b → SeesFrom y ts l b
  pub same : (n : ℕ) → is_named ts n ≡ is_named named n
  pub put : (l : Link) (o : Option ℤ) → PutAt x views l o
      → Stays x named all l o ⊎ SeesFrom (x + frames_in views) (links_split x (x + frames_in views) (shifted keep own x y views ts)) l o

pub shift-leaves : (keep : Bool) (P : List TrackState → Type 0) (all named ts : List TrackState) (own x y : ℕ) (views : List ItemView) (done : Done) → ShiftCase keep all named ts own x y views
    → (link_outside ts (cells_from y ts) ≡ None → P (links_split x (x + frames_in views) (shifted keep own x y views ts))) → Leaves P (shift_of keep own x y views done ts)
shift-leaves keep P all named ts own x y views done c h =
    leaves-unless P (shift_refusal x y (frames_in views) ts) (within_limits (after_shift keep own x y views ts) done)
    (λ e. subst (λ (ws : List TrackState). Leaves P (within_limits ws done)) (sym split) (leaves_within P vs done (h (told e)))) where
      us : List TrackState
      us = shifted keep own x y views ts

      vs : List TrackState
      vs = links_split x (x + frames_in views) us

      differs : eqb (frames_in views) (y - x) ≡ false
      differs = ne_eqb (frames_in views) (y - x) c.moves

      split : after_shift keep own x y views ts ≡ vs
      split = ap (λ (b : Bool). cond b us vs) differs

      told : shift_refusal x y (frames_in views) ts ≡ None → link_outside ts (cells_from y ts) ≡ None
      told e = sym (ap (λ (b : Bool). cond b None (link_outside ts (cells_from y ts))) differs) ∙ e

-- each such shift leaves it
abbrev pub ByShifts : Bool → (List TrackState → Type 0) → List TrackState → List TrackState → Type 0
ByShifts keep P all named = (ts : List TrackState) (own x y : ℕ) (views : List ItemView) (done : Done) → ShiftCase keep all named ts own x y views → Leaves P (shift_of keep own x y views done ts)

-- extract

pub nothing-case : (keep : Bool) (all named : List TrackState) (t : TrackState) (own x y : ℕ) → AreNamed all named → track_numbered own named ≡ Some t → x < y → x ≤ length t.cells
    → ShiftCase keep all named named own x y []
nothing-case keep all named t own x y names e less le = record {
  moves = λ z. omega (arith, z, less);
  each = shifts-each keep own x y [] (PutAt x []) named (omega (arith, less)) (has-place all own x named t names.among (among-numbered all named own t names.among e) le) (λ l o h. h) (few-none [] tt);
  sees = λ l b s. s;
  same = λ n. refl;
  put = λ l o h. absurd h;
}

pub extract-leaves : (P : List TrackState → Type 0) (c : Extract) (all named : List TrackState) (t : TrackState) → AreNamed all named → track_numbered c.track named ≡ Some t
    → ByShifts c.keep P all named → Leaves P (extracted c named t)
extract-leaves P c all named t names e shifts = by (range_of t.cells c.item) refl where
  by : (o : Option (ℕ × ℕ)) → range_of t.cells c.item ≡ o → Leaves P (on_range (λ x y. shift_of c.keep c.track x y [] Plain named) o)
  by None f = tt
  by (Some (x, y)) f =
      let r = item-range t c.item x y f in
      shifts named c.track x y [] Plain (nothing-case c.keep all named t c.track x y names e r.0 (omega (arith, r.0, r.1)))

-- insert

source_some : (table : Table) (track : ℕ) (what : What) (from len : ℕ) → source_refusal table track what from len ≡ None → 0 < len
source_some table track what from (suc n) e = omega arith
source_some table track what from zero e = by (bounds_of table what) (suits (slice_get table.kinds track) what) e where
  by : (o : Option (ℕ × ℕ)) (b : Bool) → refusal_in o b from 0 ≡ None → 0 < 0
  by None b e = absurd cc
  by (Some (low, high)) true e = absurd cc
  by (Some (low, high)) false e = absurd cc

none_place : (own x least : ℕ) (ts : List TrackState) → Ascend least ts → own < least → HasPlace own x ts
none_place own x least [] a lt = tt
none_place own x least (t ∷ ts) a lt = ((λ e. absurd (differ e)), none_place own x (t.number + 1) ts a.1 (omega (arith, a.0, lt))) where
  differ : t.number ≡ own → ⊥
  differ e = omega (arith, e, a.0, lt)

padded_each : (keep : Bool) (at least : ℕ) (views : List ItemView) (Put : Link → Option ℤ → Type 0) (ts : List TrackState) (t : TrackState) → Ascend least ts → track_numbered t.number ts ≡ Some t
    → ((l : Link) (o : Option ℤ) → Shows at (cells_of views) l o → Put l o) → HasFew views
    → Each (Shifts at at (at + frames_in views) Put) ts (shifted keep t.number at at views (with_track ts (padded_track t at)))
padded_each keep at least views Put [] t a e put few = absurd cc
padded_each keep at least views Put (w ∷ ws) t a e put few = by (eqb w.number t.number) refl e (λ k. padded_each keep at (w.number + 1) views Put ws t a.1 k put few) where
  p : TrackState
  p = padded_track t at

  z : ℕ
  z = at + frames_in views

  R : TrackState → TrackState → Type 0
  R = Shifts at at z Put

  long : at ≤ length p.cells
  long = omega (arith, length-pad t at)

  there : R t (shifted_track keep t.number at at views p)
  there = shifts-padded t (shifted_track keep t.number at at views p) at at at z Put (shifts-one keep t.number at at views Put p (omega arith) (λ n. long) put few)

  by : (b : Bool) → eqb w.number t.number ≡ b → cond b (Some w) (track_numbered t.number ws) ≡ Some t
      → (track_numbered t.number ws ≡ Some t → Each R ws (shifted keep t.number at at views (with_track ws p)))
      → Each R (w ∷ ws) (shifted keep t.number at at views (cond b (p ∷ ws) (w ∷ with_track ws p)))
  by true f k later =
      let same : w ≡ t = same_Some w t k in
      let n : w.number ≡ t.number = eqb-true w.number t.number f in (
        shifted-number keep t.number at at views p ∙ sym n,
        subst (λ (v : TrackState). R v (shifted_track keep t.number at at views p)) (sym same) there,
        shifts-each keep t.number at at views Put ws (omega arith) (none_place t.number at (w.number + 1) ws a.1 (omega (arith, n))) put few,
      )
  by false f k later =
      (shifted-number keep t.number at at views w, shifts-one keep t.number at at views Put w (omega arith) (λ n. absurd (differ n)) put few, later k) where
        differ : w.number ≡ t.number → ⊥
        differ n = apart (eqb w.number t.number) f (ap (λ (m : ℕ). eqb m t.number) n ∙ self t.number) where
          apart : (b : Bool) → b ≡ false → b ≡ true → ⊥
          apart b e g = Prim.grind (arith, e, g)

          self : (m : ℕ) → eqb m m ≡ true
          self m = eqb-refl m

abbrev Sees : ℕ → TrackState → TrackState → Type 0
Sees y t u = (l : Link) (o : Option ℤ) → Shows y (drop y t.cells) l o → Shows y (drop y u.cells) l o

from_each : (y : ℕ) (ts us : List TrackState) (l : Link) (o : Option ℤ) → Each (Sees y) ts us → SeesFrom y ts l o → SeesFrom y us l o
from_each y [] us l o each h = absurd h
from_each y (t ∷ ts) [] l o each h = absurd each
from_each y (t ∷ ts) (u ∷ us) l o each (inl h) = inl (each.1 l o h)
from_each y (t ∷ ts) (u ∷ us) l o each (inr h) = inr (from_each y ts us l o each.2 h)

pub insert-leaves : (P : List TrackState → Type 0) (table : Table) (c : Insert) (all named : List TrackState) (t : TrackState) → AreNamed all named → track_numbered c.track named ≡ Some t
    → ByShifts c.keep P all named → Leaves P (inserted table c named t)
insert-leaves P table c all named t names e shifts =
    leaves-unless P (source_refusal table t.number c.what c.from c.len) (shift_of c.keep c.track c.at c.at clip (Item t.next_item) ts)
    (λ f. shifts ts c.track c.at c.at clip (Item t.next_item) (record {
      moves = λ z. omega (arith, z, source_some table t.number c.what c.from c.len f);
      each = subst (λ (n : ℕ). Each (Shifts c.at c.at (c.at + frames_in clip) (PutAt c.at clip)) named (shifted c.keep n c.at c.at clip ts)) own each;
      sees = λ l b s. from_each c.at named ts l b padded s;
      same = λ n. named-each (Sees c.at) named ts n padded;
      put = λ l o h. absurd (shows-none c.at clip l o (refl, tt) h);
    })) where
      clip : List ItemView
      clip = clip_view t.next_item c.what c.from c.len ∷ []

      ts : List TrackState
      ts = with_track named (padded_track t c.at)

      own : t.number ≡ c.track
      own = is-numbered c.track named t e

      found : track_numbered t.number named ≡ Some t
      found = ap (λ (n : ℕ). track_numbered n named) own ∙ e

      each : Each (Shifts c.at c.at (c.at + frames_in clip) (PutAt c.at clip)) named (shifted c.keep t.number c.at c.at clip ts)
      each = padded_each c.keep c.at 0 clip (PutAt c.at clip) named t names.ascend found (λ l o h. h) (few-none clip (refl, tt))

      padded : Each (Sees c.at) named ts
      padded = each-with (Sees c.at) (λ u l o h. h) named t (padded_track t c.at) found refl (λ l o h. padded-carries t c.at c.at l o h)
