-- A dissolve put at a cut, and taken away: the track stays good.
use Rattle.std.proofs.Common.{◌≡◌, ◌⊎◌, inl, inr, ℕ, zero, suc, ◌+◌, ◌-◌, ◌<◌, ◌≤◌, ◌^◌, Bool, true, false, cond, eqb, leb, ltb, not, ◌&&◌, List, [], ◌∷◌, take, drop, length, Option, Some, None, IfSome, IsSome, Result, Ok, refl, sym, ap, ◌∙◌, arith, subst, slice_get}
use Rattle.std.proofs.lemmas.Bool.{and_parts, false≢true, leb-true, le-ltb, ltb-false, ltb-true}
use Rattle.frame_meaning.specs.declared.cells.What.{What}
use Rattle.frame_meaning.specs.declared.cells.Cell.{Cell}
use Rattle.frame_meaning.specs.declared.cells.Mark.{Mark}
use Rattle.frame_meaning.specs.declared.frames.Side.{Side}
use Rattle.frame_meaning.specs.declared.frames.Side.TheVariants.{Dark, Pic}
use Rattle.frame_meaning.specs.Cells.{dark_cell}
use Rattle.frame_meaning.specs.Render.{cell_at}
use Rattle.composables.specs.declared.calls.Dissolve.{Dissolve}
use Rattle.composables.specs.declared.calls.Undissolve.{Undissolve}
use Rattle.composables.specs.declared.items.ItemView.{ItemView}
use Rattle.composables.specs.declared.items.Place.{Place}
use Rattle.composables.specs.declared.media.Table.{Table}
use Rattle.composables.specs.declared.refusals.Done.{Done}
use Rattle.composables.specs.declared.refusals.Done.TheVariants.{Plain}
use Rattle.composables.specs.declared.refusals.Refusal.{Refusal}
use Rattle.composables.specs.declared.refusals.Refusal.TheVariants.{DissolveRoom, EmptyRange, NotACut}
use Rattle.composables.specs.declared.refusals.Which.TheVariants.{Left, Right}
use Rattle.composables.specs.Bounds.{bounds_of}
use Rattle.composables.specs.Changes.{changed_track, with_mark}
use Rattle.composables.specs.Good.{IsGood}
use Rattle.composables.specs.Items.{items_of}
use Rattle.composables.specs.Joined.{frames_in}
use Rattle.composables.specs.Places.{StandsAt}
use Rattle.composables.specs.Ranges.{is_cut}
use Rattle.composables.specs.TrackFacts.{IsKept, right_reach}
use Rattle.composables.specs.TrackState.{TrackState}
use Rattle.composables.proofs.Joining.{length-cells_of}
use Rattle.dissolves.specs.declared.cuts.Cut.{Cut}
use Rattle.dissolves.specs.Cuts.{IsCutAt, IsNoCut, dissolve_refusal, has_frames, is_nest, lie_in, room_between, room_left, room_refusal, room_right}
use Rattle.dissolves.specs.Marking.{dissolve_on, mark_asked, marked_track, undissolve_on, undissolve_refusal}
use Rattle.dissolves.specs.Parts.{item_before, mark_of}
use Rattle.dissolves.specs.Pieces.{SideReaches}
use Rattle.dissolves.proofs.AtCuts.{cut_is, is_there, mark_there, no_cut_first, no_cut_inside, refusal_is, sides_of}
use Rattle.dissolves.proofs.Marked.{dissolve_marks, undissolve_marks}
use Rattle.track_laws.specs.Goods.{DissolvingKeepsGood, IsBounded}
use Rattle.track_laws.proofs.Own.{own-good}
use Rattle.track_laws.proofs.Putting.{none-refused}

-- the item or gap that holds a place
record IsOver (vs : List ItemView) (p : ℕ) : Type 0 where
  index : ℕ
  inside : index < length vs
  from : frames_in (take index vs) ≤ p
  to : p < frames_in (take (suc index) vs)

over : (vs : List ItemView) (p : ℕ) → p < frames_in vs → IsOver vs p
over [] p h = absurd (omega (arith, h))
over (v ∷ vs) p h = by (ltb p v.len) refl (λ q. over vs q) where
  by : (b : Bool) → ltb p v.len ≡ b → ((q : ℕ) → q < frames_in vs → IsOver vs q) → IsOver (v ∷ vs) p
  by true e later = record { index = 0; inside = omega arith; from = omega arith; to = omega (arith, ltb-true p v.len e) }
  by false e later =
      let le = ltb-false p v.len e in
      let o = later (p - v.len) (omega (arith, h, le)) in
      record { index = suc o.index; inside = omega (arith, o.inside); from = omega (arith, o.from, le); to = omega (arith, o.to, le) }

-- a place of a track either is a cut or has none, nor a mark
record HasCut (cells : List Cell) (p : ℕ) : Type 0 where
  cut : Cut
  at : IsCutAt cells p cut

past_none : (cells : List Cell) (p : ℕ) → length cells ≤ p → IsNoCut cells p
past_none cells p h = record { none = out (ltb 0 p) (ltb p (length cells)) _ (le-ltb p (length cells) h); bare = ap (λ (c : Cell). c.mark) (past cells p h) } where
  out : (a b d : Bool) → b ≡ false → ((a && b) && d) ≡ false
  out true b d e = ap (λ (x : Bool). x && d) e
  out false b d e = refl

  past : (cells : List Cell) (p : ℕ) → length cells ≤ p → cell_at cells p ≡ dark_cell
  past [] p h = refl
  past (c ∷ cs) zero h = absurd (omega (arith, h))
  past (c ∷ cs) (suc p) h = past cs p (omega (arith, h))

cut_or_none : (t : TrackState) (p : ℕ) → IsKept t → HasCut t.cells p ⊎ IsNoCut t.cells p
cut_or_none t p kept = by (ltb p (length t.cells)) refl where
  long : frames_in (items_of t.cells) ≡ length t.cells
  long = sym (length-cells_of (items_of t.cells)) ∙ ap length kept.whole

  at : (q : Place) → StandsAt (items_of t.cells) q → q.from ≤ p → p ≤ q.from → (l r : Option ItemView) → item_before (items_of t.cells) q.index ≡ l → slice_get (items_of t.cells) q.index ≡ r
      → HasCut t.cells p ⊎ IsNoCut t.cells p
  at q stands ge le None r e f = inr (no_cut_first t q p kept stands ge le e)
  at q stands ge le (Some l) None e f = absurd (is_there t.cells q stands f)
  at q stands ge le (Some l) (Some r) e f =
      inl (record {
        cut = record { index = q.index; left = l; right = r; tail = mark_of (slice_get (items_of t.cells) (q.index + 1)) };
        at = cut_is t.cells q p l r (slice_get (items_of t.cells) (q.index + 1)) (mark_of (slice_get (items_of t.cells) (q.index + 1))) stands ge le e f refl refl;
      })

  on : (q : Place) → StandsAt (items_of t.cells) q → q.from ≤ p → p < q.to → (b : Bool) → ltb q.from p ≡ b → HasCut t.cells p ⊎ IsNoCut t.cells p
  on q stands ge less true e = inr (no_cut_inside t.cells q p kept.whole stands (ltb-true q.from p e) less)
  on q stands ge less false e = at q stands ge (ltb-false q.from p e) (item_before (items_of t.cells) q.index) (slice_get (items_of t.cells) q.index) refl refl

  by : (b : Bool) → ltb p (length t.cells) ≡ b → HasCut t.cells p ⊎ IsNoCut t.cells p
  by false e = inr (past_none t.cells p (ltb-false p (length t.cells) e))
  by true e =
      let o = over (items_of t.cells) p (omega (arith, long, ltb-true p (length t.cells) e)) in
      let next : suc o.index ≡ o.index + 1 = omega arith in
      on (record { index = o.index; from = frames_in (take o.index (items_of t.cells)); to = frames_in (take (suc o.index) (items_of t.cells)) })
      (record { index = o.inside; from = refl; to = ap (λ (k : ℕ). frames_in (take k (items_of t.cells))) next }) o.from o.to (ltb (frames_in (take o.index (items_of t.cells))) p) refl

-- a side that has room for a dissolve has the source frames of it
reaches_in : (o : Option (ℕ × ℕ)) (s n : ℕ) → IfSome o (λ r. r.1 ≤ 2 ^ 32) → lie_in o s 0 n ≡ true → s + n ≤ 2 ^ 32
reaches_in None s n b e = absurd (false≢true e)
reaches_in (Some (from, to)) s n b e = let end : to ≤ 2 ^ 32 = b in omega (arith, end, leb-true (s + n) to (and_parts (leb (from + 0) s) (leb (s + n) to) e).1)

reaches : (table : Table) (side : Side What) (n : ℕ) → IsBounded table → has_frames table side 0 n ≡ true → SideReaches side n
reaches table Dark n bounded e = tt
reaches table (Pic what s) n bounded e = reaches_in (bounds_of table what) s n (bounded what) e

left_there : (table : Table) (l r : ItemView) (tail : Option Mark) (m : Mark) → IsBounded table → room_refusal table l r tail m ≡ None → SideReaches l.first (l.len + m.b)
left_there table l r tail m bounded e = by (room_left table l m) refl e where
  by : (b : Bool) → room_left table l m ≡ b → cond b (cond (room_right table r tail m) None (Some (DissolveRoom Right))) (Some (DissolveRoom Left)) ≡ None → SideReaches l.first (l.len + m.b)
  by false f k = absurd (Prim.grind (arith, k))
  by true f k = reaches table l.first (l.len + m.b) bounded (and_parts (not (is_nest l.first) && leb (right_reach l.mark + m.a) l.len) (has_frames table l.first 0 (l.len + m.b)) f).1

after : (table : Table) (u w : TrackState) (d e : Done) → ◌≡◌ {A = Result (TrackState × Done) Refusal} (Ok (w, e)) (Ok (u, d)) → IsGood table w → IsGood table u
after table u w d e k g = let same : w ≡ u = Prim.grind (arith, k) in subst (IsGood table) same g

empty_refused : (table : Table) (cells : List Cell) (p : ℕ) (m : Mark) → eqb (m.a + m.b) 0 ≡ true → dissolve_refusal table cells p m ≡ Some EmptyRange
empty_refused table cells p m e =
    ap (λ (b : Bool). cond b (Some EmptyRange) (cond (is_cut cells p) (room_between table (items_of (take p cells)) (items_of (drop p cells)) m) (Some (NotACut p)))) e

uncut_refused : (table : Table) (cells : List Cell) (p : ℕ) (m : Mark) → eqb (m.a + m.b) 0 ≡ false → is_cut cells p ≡ false → dissolve_refusal table cells p m ≡ Some (NotACut p)
uncut_refused table cells p m e f =
    ap (λ (b : Bool). cond b (Some EmptyRange) (cond (is_cut cells p) (room_between table (items_of (take p cells)) (items_of (drop p cells)) m) (Some (NotACut p)))) e
    ∙ ap (λ (b : Bool). cond b (room_between table (items_of (take p cells)) (items_of (drop p cells)) m) (Some (NotACut p))) f

some_not : (o : Option Refusal) (why : Refusal) → o ≡ None → o ≡ Some why → ⊥
some_not o why e f = absurd cc

dissolve_good : (table : Table) (c : Dissolve) (t u : TrackState) (done : Done) → IsBounded table → IsGood table t → dissolve_on table t c ≡ Ok (u, done) → IsGood table u
dissolve_good table c t u done bounded g k = by (eqb (c.a + c.b) 0) refl (cut_or_none t c.at g.kept) where
  none : dissolve_refusal table t.cells c.at (mark_asked c) ≡ None
  none = (none-refused {A = TrackState × Done} (dissolve_refusal table t.cells c.at (mark_asked c)) (Ok (marked_track t c.at (Some (mark_asked c)), Plain)) (u, done) k).0

  by : (b : Bool) → eqb (c.a + c.b) 0 ≡ b → HasCut t.cells c.at ⊎ IsNoCut t.cells c.at → IsGood table u
  by true e o = absurd (some_not (dissolve_refusal table t.cells c.at (mark_asked c)) EmptyRange none (empty_refused table t.cells c.at (mark_asked c) e))
  by false e (inr n) = absurd (some_not (dissolve_refusal table t.cells c.at (mark_asked c)) (NotACut c.at) none (uncut_refused table t.cells c.at (mark_asked c) e n.none))
  by false e (inl f) =
      let room : room_refusal table f.cut.left f.cut.right f.cut.tail (mark_asked c) ≡ None =
      sym (refusal_is table t c.at f.cut (mark_asked c) g.kept (sides_of t c.at f.cut g.kept f.at) e) ∙ none in
      let m = dissolve_marks table t c f.cut e g f.at room (left_there table f.cut.left f.cut.right f.cut.tail (mark_asked c) bounded room) in
      after table u (changed_track t f.cut.index (with_mark (Some (mark_asked c)))) done Plain (sym m.meant ∙ k) m.track.good

undissolve_good : (table : Table) (c : Undissolve) (t u : TrackState) (done : Done) → IsGood table t → undissolve_on t c ≡ Ok (u, done) → IsGood table u
undissolve_good table c t u done g k = by (cut_or_none t c.at g.kept) where
  none : undissolve_refusal (cell_at t.cells c.at).mark c.at ≡ None
  none = (none-refused {A = TrackState × Done} (undissolve_refusal (cell_at t.cells c.at).mark c.at) (Ok (marked_track t c.at None, Plain)) (u, done) k).0

  there : (o : Option Mark) → undissolve_refusal o c.at ≡ None → IsSome o
  there None e = absurd (Prim.grind (arith, e))
  there (Some m) e = refl

  by : HasCut t.cells c.at ⊎ IsNoCut t.cells c.at → IsGood table u
  by (inr n) = absurd (some_not (undissolve_refusal (cell_at t.cells c.at).mark c.at) (NotACut c.at) none (ap (λ (o : Option Mark). undissolve_refusal o c.at) n.bare))
  by (inl f) =
      let some : IsSome f.cut.right.mark = subst IsSome (mark_there t c.at f.cut g.kept (sides_of t c.at f.cut g.kept f.at)) (there (cell_at t.cells c.at).mark none) in
      let m = undissolve_marks table t c f.cut g f.at some in
      after table u (changed_track t f.cut.index (with_mark None)) done Plain (sym m.meant ∙ k) m.track.good

pub dissolving-keeps : DissolvingKeepsGood
dissolving-keeps = record {
  dissolve = λ table c named news done bounded names good k. own-good table c.track (λ t. dissolve_on table t c) named news done good (λ t u d g e. dissolve_good table c t u d bounded g e) k;
  undissolve = λ table c named news done bounded names good k. own-good table c.track (λ t. undissolve_on t c) named news done good (λ t u d g e. undissolve_good table c t u d g e) k;
}
